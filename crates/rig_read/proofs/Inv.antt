-- The invariants of the two loops of `read_lines`, as records over plain variables, and what each turn and each way out does to them.
-- No need of `read_lines` is proved by more than a citation of these laws.
-- Assumes nothing.
use Prim.Native.Nat.{ℕ, zero, suc, ◌+◌, ◌-◌, ◌*◌, ◌≤◌, ◌<◌}
use mathlib.Core.Path.{◌≡◌, refl, sym, ap, ap₂, ◌∙◌, subst}
use mathlib.Core.Bool.{Bool, true, false, cond, ◌&&◌}
use mathlib.Core.List.{List, [], ◌∷◌, ◌++◌, map, append_assoc, append-nil}
use native.Mathlib.Omega.{arith}
use native.Mathlib.Nat.{le_antisymm}
use lib.Dec.{eqb, ltb}
use lib.ListN.{length, get_or, set, take, drop, replicate, length-append, length-set}
use lib.Seq.{get_or-set_same, get_or-set_other, take_at}
use borrow.Author.Tests.{eqb-true, eqb-false, ne_eqb, ltb-true, ltb-false}
use mir.Val.{Fits}
use mir.Syntax.{w64}
use Rattle.laws.specs.Cases.{by, and_no, and_true}
use Rattle.laws.specs.Put.{put}
use Rattle.laws.specs.Laws.Put.{put_none}
use Rattle.laws.specs.Laws.Tables.{zeros_at}
use Rattle.decimal.specs.Decimal.{cap, number}
use Rattle.text.specs.Split.{split, part, rest}
use Rattle.text.specs.Laws.Parts.{Found, rest_none, part_none, part_all}
use Rattle.rig_lines.specs.Kinds.{kind_rig, count_of, counts, timed, kind_of, place_in_order, follows}
use Rattle.rig_lines.specs.Line.{Line, decimals, shaped, fits, sized, placed, ordered, judge}
use Rattle.rig_lines.specs.File.{Fault, fault, first_fault, fault_of, lines_in, lines_of}
use Rattle.rig_lines.specs.Laws.Judged.{Faultless, judged_one, judged_two, judged_three, sound_judged, shaped_if, fits_small}
use Rattle.rig_lines.proofs.Laws.Order.{first_rig}
use Rattle.rig_lines.proofs.Laws.RoundTrip.{written, some_line}
use Rattle.rig_lines.specs.Laws.Turns.{said, fault_line, lines_line, lines_end, end_clean, end_empty, end_open, rest_turn, decimals_turn, decimals_bad, put_turn, put_at, timed_same, rank_same}
use Rattle.rig_lines.specs.declared.Kind.{Kind}
use Rattle.rig_lines.specs.Kind.{kind_number}
use Rattle.rig_lines.specs.Laws.Kind.{only_rig}
use Rattle.rig_held.specs.declared.Line.{Line as HeldLine}
use Rattle.rig_held.specs.Held.{held_line, held, Begins}
use Rattle.rig_held.specs.Laws.Lines.{held_none, held_put, held_kind}

abbrev pub zeros : ℕ → List ℕ
zeros n = replicate n 0

-- between lines: what is left has the fault that the whole has, and the lines so far are held
pub record InLines (s : List ℕ) (h : List HeldLine) (n count prev at : ℕ) : Type 0 where
  pub len : n ≡ length s
  pub room : n ≤ 40960
  pub low : at ≤ n
  pub few : 4 * count ≤ at
  pub size : length h ≡ count
  pub left : first_fault (count + 1) prev (split 10 (part at n s)) ≡ fault_of s
  pub made : held h ++ lines_in (split 10 (part at n s)) ≡ lines_of s

-- a kind k, of m numbers
pub record Sort (k m : ℕ) : Type 0 where
  pub known : 0 < k
  pub few : k < 7
  pub count : m ≡ count_of k
  pub nine : m ≤ 9

-- within a line from `at` to its end e, whose name ends at q: its kind is k
pub record OfLine (s : List ℕ) (h : List HeldLine) (n count prev at e q k : ℕ) : Type 0 where
  pub lines : InLines s h n count prev at
  pub end : Found s at n 10 e
  pub inside : e < n
  pub name : Found s at e 9 q
  pub kind : k ≡ kind_of (part at q s)

-- the numbers of the fields from p up to the line's end e
abbrev pub nums : List ℕ → ℕ → ℕ → List ℕ
nums s p e = map number (rest 9 (part p e s))

-- before the f-th field, at p: the numbers so far stand in v
pub record InFields (s : List ℕ) (h : List HeldLine) (n count prev at e q k m : ℕ) (v : List ℕ) (p f : ℕ) : Type 0 where
  pub of : OfLine s h n count prev at e q k
  pub sort : Sort k m
  pub low : p ≤ e
  pub far : q + f ≤ p
  pub few : f ≤ m
  pub nine : length v ≡ 9
  pub small : (i : ℕ) → get_or v i 0 ≤ cap
  pub counted : f + length (nums s p e) ≡ length (nums s q e)
  pub fine : decimals (nums s p e) ≡ decimals (nums s q e)
  pub filled : put v f (nums s p e) ≡ put (zeros 9) 0 (nums s q e)

-- a line whose shape is right, and its numbers in v
pub record Shaped (s : List ℕ) (h : List HeldLine) (n count prev at e q k m : ℕ) (v : List ℕ) : Type 0 where
  pub of : OfLine s h n count prev at e q k
  pub sort : Sort k m
  pub small : (i : ℕ) → get_or v i 0 ≤ cap
  pub shape : shaped (said s at q e) ≡ true
  pub long : q + m ≤ e
  pub numbers : take m v ≡ nums s q e
  pub same : (i : ℕ) → get_or v i 0 ≡ get_or (nums s q e) i 0
  pub nine : length v ≡ 9

pub lines_start : (s : List ℕ) (n : ℕ) → n ≡ length s → length s ≤ 40960 → InLines s [] n 0 0 0
unfolding fault_of lines_of
lines_start s n e r =
    record { len = e; room = omega arith; low = omega arith; few = omega arith; size = refl; left = rw (e, part_all s); made = rw (e, part_all s, held_none) }

-- lines that are held begin with the RIG line where they do as lines of a file
begins : (h : List HeldLine) (r : Line) (rs : List Line) → held h ≡ r ∷ rs → r.kind ≡ kind_rig → Begins h
unfolding held
begins [] r rs e k = let z : 0 ≡ suc (length rs) = ap length e in absurd (omega arith)
begins (x ∷ xs) r rs e k = only_rig x.kind (sym (held_kind x) ∙ (ap front e ∙ k))
  where
    front : List Line → ℕ
    front [] = 0
    front (y ∷ ys) = y.kind

module _ (s : List ℕ) (h : List HeldLine) (n count prev at e : ℕ) (w : InLines s h n count prev at) (we : Found s at n 10 e) (d : e ≡ n) where
  pub leave_open : at < n → fault_of s ≡ fault 1 (count + 1)
  leave_open t = sym w.left ∙ end_open s n at e (omega arith) we d (count + 1) prev t

  pub leave_empty : count ≡ 0 → fault_of s ≡ fault 1 (count + 1)
  leave_empty t = sym w.left ∙ end_empty s n at e (omega arith) we d (count + 1) prev (omega arith)

  module _ (t : n ≤ at) (u : (count ≡ 0 → ⊥)) where
    pub leave_clean : fault_of s ≡ fault 0 0
    leave_clean = sym w.left ∙ end_clean s n at e (omega arith) we d (count + 1) prev (omega arith) (omega arith)

    pub leave_held : held h ≡ lines_of s
    leave_held = sym (ap (λ (x : List Line). held h ++ x) (lines_end s n at e (omega arith) we d) ∙ append-nil (held h)) ∙ w.made

    -- what the whole file's answer asks: the first line is the RIG line, and there is room for all
    pub leave_begins : Begins h
    leave_begins =
        let z : (fault_of s).no ≡ 0 = ap (λ (x : Fault). x.no) leave_clean in
        let l = some_line s z in
        let g = (written s z).1 in
        begins h l.0 l.1 (leave_held ∙ l.2) (first_rig l.0 (subst (λ (x : List Line). Faultless 0 x) l.2 g).1)

    pub leave_few : length h ≤ 10240
    leave_few =
        let f = w.few in
        let o = w.room in
        let z = w.size in
        omega arith

small_set : (v : List ℕ) (f x : ℕ) → f < length v → x ≤ cap → ((i : ℕ) → get_or v i 0 ≤ cap) → (i : ℕ) → get_or (set v f x) i 0 ≤ cap
small_set v f x h g w i =
    by (eqb i f)
    (λ t. let q = eqb-true i f t in rw (q, get_or-set_same v f x 0 h) g)
    (λ t. rw (get_or-set_other v f i x 0 (eqb-false i f t)) (w i))

module _ (s : List ℕ) (h : List HeldLine) (n count prev at e q k : ℕ) (w : OfLine s h n count prev at e q k) where
  -- the line's judgement is the file's
  whole : cond (eqb (judge prev (said s at q e)) 0) (first_fault (count + 1 + 1) (placed (said s at q e)) (split 10 (part (e + 1) n s))) (fault (judge prev (said s at q e)) (count + 1))
      ≡ fault_of s
  whole = sym (fault_line s n at e q (omega arith) w.end w.inside w.name (count + 1) prev) ∙ w.lines.left

  faulty : (j : ℕ) → judge prev (said s at q e) ≡ suc j → fault_of s ≡ fault (suc j) (count + 1)
  faulty j d = sym (rw (d, ne_eqb (suc j) 0 (omega arith)) at whole)

  -- a line without a fault is held, and the next one comes
  goes_on : judge prev (said s at q e) ≡ 0 → at + 4 ≤ e + 1 → (g : List HeldLine) → length g ≡ count + 1 → held g ≡ held h ++ (said s at q e ∷ []) →
      InLines s g n (count + 1) (placed (said s at q e)) (e + 1)
  goes_on d far g z u =
      let f = w.lines in
      record {
        len = f.len;
        room = f.room;
        low = let i = w.inside in omega arith;
        few = let i = f.few in omega arith;
        size = z;
        left = rw d at whole;
        made = ap (λ (x : List Line). x ++ lines_in (split 10 (part (e + 1) n s))) u
            ∙ (append_assoc (held h) (said s at q e ∷ []) (lines_in (split 10 (part (e + 1) n s)))
            ∙ (sym (ap (λ (x : List Line). held h ++ x) (lines_line s n at e q (omega arith) w.end w.inside w.name)) ∙ f.made));
      }

  not_shaped : shaped (said s at q e) ≡ false → fault_of s ≡ fault 1 (count + 1)
  not_shaped d = faulty 0 ((judged_one prev (said s at q e)).1 d)

  pub not_known : k ≡ 0 → fault_of s ≡ fault 1 (count + 1)
  unfolding shaped
  not_known t = let z : kind_of (part at q s) ≡ 0 = sym w.kind ∙ t in not_shaped (rw z)

  -- a known kind has a name
  named : 0 < k → at < q
  unfolding kind_of
  named t =
      by (ltb at q)
      (λ u. ltb-true at q u)
      (λ u. let i = ltb-false at q u in
      let j = w.name.low in
      let y : q ≡ at = le_antisymm i j in
      let z : k ≡ 0 = w.kind ∙ rw (y, part_none at s) in
      absurd (omega arith))

  pub fields_start : (m : ℕ) → Sort k m → InFields s h n count prev at e q k m (zeros 9) q 0
  fields_start m t =
      record {
        of = w;
        sort = t;
        low = w.name.high;
        far = omega arith;
        few = omega arith;
        nine = refl;
        small = λ i. omega (arith, zeros_at 9 i);
        counted = omega arith;
        fine = refl;
        filled = refl;
      }

module _ (s : List ℕ) (h : List HeldLine) (n count prev at e q k m : ℕ) (v : List ℕ) (p f : ℕ) (w : InFields s h n count prev at e q k m v p f) where
  -- a wrong number of fields, or one that is no decimal
  miscounted : (length (nums s q e) ≡ m → ⊥) → fault_of s ≡ fault 1 (count + 1)
  unfolding shaped
  miscounted t =
      let u : length (nums s q e) ≡ count_of (kind_of (part at q s)) → ⊥ = λ z. t (z ∙ (ap count_of (sym w.of.kind) ∙ sym w.sort.count)) in
      not_shaped s h n count prev at e q k w.of (rw (ne_eqb _ _ u) (and_no (ltb 0 (kind_of (part at q s)))))

  no_decimals : decimals (nums s q e) ≡ false → fault_of s ≡ fault 1 (count + 1)
  unfolding shaped
  no_decimals t = not_shaped s h n count prev at e q k w.of (rw t (two_false (ltb 0 (kind_of (part at q s))) (eqb (length (nums s q e)) (count_of (kind_of (part at q s))))))
    where
      two_false : (a c : Bool) → (a && (c && false)) ≡ false
      two_false true true = refl
      two_false true false = refl
      two_false false c = refl

  module _ (c x : ℕ) (t : p < e) (wb : Found s (p + 1) e 9 c) (d : x ≡ number (part (p + 1) c s)) where
    turn : nums s p e ≡ x ∷ nums s c e
    turn = let a = w.of.lines in let i = w.of.inside in rw (d, rest_turn s p e c (omega arith) t wb)

    pub too_many : m ≤ f → fault_of s ≡ fault 1 (count + 1)
    too_many u = miscounted (let i = w.counted in let j : length (nums s p e) ≡ suc (length (nums s c e)) = ap length turn in omega arith)

    pub no_number : cap < x → fault_of s ≡ fault 1 (count + 1)
    no_number u = no_decimals (sym w.fine ∙ (ap decimals turn ∙ decimals_bad x (nums s c e) u))

    pub fields_turn : f < m → x ≤ cap → InFields s h n count prev at e q k m (set v f x) c (f + 1)
    fields_turn i u =
        let l : f < length v = let a = w.sort.nine in let z = w.nine in omega arith in
        let j : length (nums s p e) ≡ suc (length (nums s c e)) = ap length turn in
        record {
          of = w.of;
          sort = w.sort;
          low = wb.high;
          far = let a = w.far in let b = wb.low in omega arith;
          few = omega arith;
          nine = length-set v f x ∙ w.nine;
          small = small_set v f x l u w.small;
          counted = let z = w.counted in omega arith;
          fine = sym (decimals_turn x (nums s c e) u) ∙ (ap decimals (sym turn) ∙ w.fine);
          filled = put_turn v f x (nums s c e) l ∙ (ap (put v f) (sym turn) ∙ w.filled);
        }

  none_left : e ≤ p → nums s p e ≡ []
  none_left t = let i : p ≡ e = le_antisymm w.low t in rw (i, rest_none 9 e s)

  ended : e ≤ p → f ≡ length (nums s q e)
  ended t = let i = w.counted in let j : length (nums s p e) ≡ 0 = ap length (none_left t) in omega arith

  pub too_few : e ≤ p → (f ≡ m → ⊥) → fault_of s ≡ fault 1 (count + 1)
  too_few t u = miscounted (λ z. u (ended t ∙ z))

  pub fields_end : e ≤ p → f ≡ m → Shaped s h n count prev at e q k m v
  unfolding decimals
  fields_end t u =
      let i = ended t in
      let d : decimals (nums s q e) ≡ true = sym w.fine ∙ ap decimals (none_left t) in
      let y : put (zeros 9) 0 (nums s q e) ≡ v = sym w.filled ∙ (ap (put v f) (none_left t) ∙ put_none v f) in
      record {
        of = w.of;
        sort = w.sort;
        small = w.small;
        nine = w.nine;
        shape = shaped_if (said s at q e) (rw (← w.of.kind) w.sort.known) (sym i ∙ (u ∙ (w.sort.count ∙ ap count_of w.of.kind))) d;
        long = let a = w.far in let b = w.low in omega arith;
        numbers = ap (take m) (sym y) ∙ front (zeros 9) (nums s q e) m (sym i ∙ u);
        same = λ j. rw (← y) (put_at (nums s q e) (zeros 9) (zeros_at 9) j);
      }
    where
      front : (z ns : List ℕ) (j : ℕ) → length ns ≡ j → take j (put z 0 ns) ≡ ns
      front z ns j a = unfold put in take_at ns (drop (0 + length ns) z) j a

-- a line has at least two numbers
two : (k : ℕ) → 0 < k → k < 7 → 2 ≤ count_of k
unfolding count_of counts
two zero a b = absurd (omega arith)
two (suc zero) a b = omega arith
two (suc (suc zero)) a b = omega arith
two (suc (suc (suc zero))) a b = omega arith
two (suc (suc (suc (suc zero)))) a b = omega arith
two (suc (suc (suc (suc (suc zero))))) a b = omega arith
two (suc (suc (suc (suc (suc (suc zero)))))) a b = omega arith
two (suc (suc (suc (suc (suc (suc (suc k))))))) a b = absurd (omega arith)

module _ (s : List ℕ) (h : List HeldLine) (n count prev at e q k m : ℕ) (v : List ℕ) (w : Shaped s h n count prev at e q k m v) where
  -- at least four bytes, so that there is room for the line
  far : at + 4 ≤ e + 1
  far =
      let a = named s h n count prev at e q k w.of w.sort.known in
      let b = two k w.sort.known w.sort.few in
      let c = w.sort.count in
      let d = w.long in
      omega arith

  pub room_left : length h < 10240
  room_left = let a = far in let b = w.of.lines.few in let c = w.of.lines.room in let d = w.of.inside in let z = w.of.lines.size in omega arith

  -- the sizes, as the code tests them
  as_sized : sized (said s at q e) ≡ (fits k 0 (take m v) && timed k v)
  unfolding sized
  as_sized = rw (← w.of.kind, w.numbers, timed_same k v (nums s q e) w.same)

  pub unsized : false ≡ (fits k 0 (take m v) && timed k v) → fault_of s ≡ fault 2 (count + 1)
  unsized t = faulty s h n count prev at e q k w.of 1 ((judged_two prev (said s at q e)).1 (w.shape, as_sized ∙ sym t))

  module _ (size : true ≡ (fits k 0 (take m v) && timed k v)) where
    pub bytes : (i : ℕ) → get_or v i 0 ≤ 255
    bytes i = rw (w.same i) (fits_small k 0 (nums s q e) (rw w.numbers at (and_true (fits k 0 (take m v)) (timed k v) (sym size)).0) i)

    module _ (r : ℕ) (i : r ≡ place_in_order k v) where
      here : r ≡ placed (said s at q e)
      unfolding placed
      here = i ∙ (rank_same k v (nums s q e) w.same ∙ ap (λ (a : ℕ). place_in_order a (nums s q e)) w.of.kind)

      order : (t : Bool) → t ≡ follows prev k r → ordered prev (said s at q e) ≡ t
      unfolding ordered
      order t d = rw (← here, ← w.of.kind) (sym d)

      pub misplaced : false ≡ follows prev k r → fault_of s ≡ fault 3 (count + 1)
      misplaced t = faulty s h n count prev at e q k w.of 2 ((judged_three prev (said s at q e)).1 (w.shape, as_sized ∙ sym size, order false t))

      pub next_line : true ≡ follows prev k r → (kind : Kind) → kind_number kind ≡ k → (u : List ℕ) → u ≡ v → (g : List HeldLine) → g ≡ h ++ (record { kind = kind; numbers = u } ∷ []) →
          InLines s g n (length g) r (e + 1)
      unfolding held_line
      next_line t kind c u a g b =
          let z : length g ≡ count + 1 = ap length b ∙ (length-append h (record { kind = kind; numbers = u } ∷ []) ∙ ap (λ (x : ℕ). x + 1) w.of.lines.size) in
          let o : held g ≡ held h ++ (said s at q e ∷ []) = ap held b ∙ (held_put h (record { kind = kind; numbers = u }) ∙ ap (λ (x : Line). held h ++ (x ∷ [])) (as_said kind c u a)) in
          rw (here, z)
          (goes_on s h n count prev at e q k w.of (sound_judged prev (said s at q e) (record { shape = w.shape; size = as_sized ∙ sym size; order = order true t })) far g z o)
        where
          record_of : ℕ → List ℕ → Line
          record_of y d = record { kind = y; nums = d }

          as_said : (kind : Kind) → kind_number kind ≡ k → (u : List ℕ) → u ≡ v → held_line (record { kind = kind; numbers = u }) ≡ said s at q e
          as_said kind c u a =
              let j : take (count_of k) u ≡ nums s q e = ap₂ (λ (y : ℕ) (o : List ℕ). take y o) (sym w.sort.count) a ∙ w.numbers in
              rw c (ap₂ (λ (y : ℕ) (d : List ℕ). record_of y d) w.of.kind j)

-- ---- what the machine asks: places within their tables, and numbers that fit

number_place : (x : ℕ) → x < 9 → Fits w64 (x * 8)
number_place x h = record { fits = omega arith }

pub line_number_lem : (s : List ℕ) (h : List HeldLine) (n count prev at : ℕ) → InLines s h n count prev at → Fits w64 (count + 1)
line_number_lem s h n count prev at w = let a = w.few in let b = w.low in let c = w.room in record { fits = omega arith }

module _ (s : List ℕ) (h : List HeldLine) (n count prev at e q k m : ℕ) (v : List ℕ) (p f : ℕ) (w : InFields s h n count prev at e q k m v p f) where
  pub field_next : p < e → Fits w64 (p + 1)
  field_next t = let a = w.of.inside in let c = w.of.lines.room in record { fits = omega arith }

  pub field_part : p < e → (p + 1 ≤ e) × (e ≤ length s)
  field_part t = let a = w.of.inside in let c = w.of.lines.len in (omega arith, omega arith)

  pub field_end : (c : ℕ) → c ≤ e → c ≤ length s
  field_end c t = let a = w.of.inside in let d = w.of.lines.len in omega arith

  pub field_place : f < m → f < 9
  field_place t = let a = w.sort.nine in omega arith

  pub field_stride : f < m → Fits w64 (f * 8)
  field_stride t = number_place f (field_place t)

  pub field_count : f < m → Fits w64 (f + 1)
  field_count t = let a = field_place t in record { fits = omega arith }

pub fields_shrink : (e p c : ℕ) → p < e → p + 1 ≤ c → e - c < e - p
fields_shrink e p c h g = omega arith

module _ (s : List ℕ) (h : List HeldLine) (n count prev at e q k m : ℕ) (v : List ℕ) (w : Shaped s h n count prev at e q k m v) where
  pub next_at : Fits w64 (e + 1)
  next_at = let a = w.of.inside in let c = w.of.lines.room in record { fits = omega arith }

  pub lines_shrink : n - (e + 1) < n - at
  lines_shrink = let a = w.of.inside in let c = w.of.end.low in omega arith

-- the count of lines as the code takes it, of the lines that it is handed
pub as_counted : (s : List ℕ) (h m : List HeldLine) (n prev at : ℕ) → m ≡ h → InLines s h n (length h) prev at → InLines s h n (length m) prev at
as_counted s h m n prev at e w = rw e w
