-- A file has no faulty line exactly when it is the text of faultless lines, and then these are its lines.
--     written            a file without a faulty line is the text of its lines
--     read_lines         the text of faultless lines has no faulty line, and those lines
--     faultless_exact    a file has no faulty line ↔ it is the text of lines of shape and sizes, in order
--     last_byte          .. and then its last byte is LF
-- Assumes nothing.
use Rattle.std.specs.Prelude.{ℕ, zero, suc, ◌+◌, ◌/◌, ◌%◌, ◌<◌, ◌≡◌, ◌↔◌, true, ◌&&◌, List, [], ◌∷◌, ◌++◌, map, ltb, length}
use Rattle.std.proofs.Math.Path.{refl}
use Rattle.std.proofs.Common.{sym, ap, ap₂, ◌∙◌, subst, append-nil, arith}
use Rattle.std.proofs.Math.Dec.{eqb}
use borrow.Author.Tests.{eqb-true, eqb-false, lt-ltb}
use Rattle.laws.specs.Cases.{by}
use Rattle.laws.specs.Laws.All.{and_left, and_right}
use Rattle.decimal.specs.Decimal.{number, dec, dec_by}
use Rattle.decimal.specs.Laws.{number_dec, dec_number}
use Rattle.text.specs.Split.{split, join, led}
use Rattle.text.specs.Laws.Split.{Free, Frees, split_cons, join_split, split_piece, split_join}
use Rattle.rig_lines.specs.Kinds.{within, name_of, kind_of_letter, kind_of}
use Rattle.rig_lines.specs.Laws.Kinds.{kind_small, within_small}
use Rattle.rig_lines.specs.Line.{Line, first, others, line_of, fits, placed, judge}
use Rattle.rig_lines.specs.Laws.Judged.{Faultless, judged_sound, shaped_known, sized_fits}
use Rattle.rig_lines.proofs.Laws.Order.{EachPassed, InOrder, file_order, order_file}
use Rattle.rig_lines.specs.File.{Fault, fault, first_fault, fault_of, lines_in, lines_of}
use Rattle.rig_lines.specs.Laws.Turns.{fault_next, lines_next}
use Rattle.rig_lines.specs.Text.{line_bytes, text}

numbers_decs : (k f : ℕ) (ns : List ℕ) → fits k f ns ≡ true → map number (map dec ns) ≡ ns
unfolding fits
numbers_decs k f [] s = refl
numbers_decs k f (n ∷ ns) s =
    let h = within_small k f n (and_left (within k f n) (fits k (f + 1) ns) s) in
    rw (number_dec n (omega arith), numbers_decs k (f + 1) ns (and_right (within k f n) (fits k (f + 1) ns) s))

decs_numbers : (k f : ℕ) (fs : List (List ℕ)) → fits k f (map number fs) ≡ true → fs ≡ map dec (map number fs)
unfolding fits
decs_numbers k f [] s = refl
decs_numbers k f (x ∷ xs) s =
    let h = within_small k f (number x) (and_left (within k f (number x)) (fits k (f + 1) (map number xs)) s) in
    ap₂ (λ (a : List ℕ) (b : List (List ℕ)). a ∷ b) (dec_number x (number x) (omega arith) refl)
    (decs_numbers k (f + 1) xs (and_right (within k f (number x)) (fits k (f + 1) (map number xs)) s))

-- names
letter_back : (a : ℕ) → 0 < kind_of_letter a → a ∷ [] ≡ name_of (kind_of_letter a)
unfolding kind_of_letter name_of
letter_back a h =
    by (eqb a 84)
    (λ e. rw (e, eqb-true a 84 e))
    (λ e. by (eqb a 67)
    (λ f. rw (e, f, eqb-true a 67 f))
    (λ f. by (eqb a 65)
    (λ g. rw (e, f, g, eqb-true a 65 g))
    (λ g. by (eqb a 77)
    (λ i. rw (e, f, g, i, eqb-true a 77 i))
    (λ i. by (eqb a 66)
    (λ j. rw (e, f, g, i, j, eqb-true a 66 j))
    (λ j. let z : 0 < 0 = rw (e, f, g, i, j) at h in absurd (omega arith))))))

name_back : (l : List ℕ) → 0 < kind_of l → l ≡ name_of (kind_of l)
unfolding kind_of
name_back [] h = absurd (omega arith)
name_back (a ∷ []) h = letter_back a h
name_back (a ∷ b ∷ []) h = absurd (omega arith)
name_back (a ∷ b ∷ c ∷ []) h =
    by (eqb a 82 && (eqb b 73 && eqb c 71))
    (λ e. let u = and_right (eqb a 82) (eqb b 73 && eqb c 71) e in
    unfold name_of in rw (e, eqb-true a 82 (and_left (eqb a 82) (eqb b 73 && eqb c 71) e), eqb-true b 73 (and_left (eqb b 73) (eqb c 71) u), eqb-true c 71 (and_right (eqb b 73) (eqb c 71) u)))
    (λ e. let z : 0 < 0 = rw e at h in absurd (omega arith))
name_back (a ∷ b ∷ c ∷ d ∷ l) h = absurd (omega arith)

kind_name : (k : ℕ) → 0 < k → k < 7 → kind_of (name_of k) ≡ k
unfolding kind_of name_of kind_of_letter
kind_name zero h g = absurd (omega arith)
kind_name (suc zero) h g = refl
kind_name (suc (suc zero)) h g = refl
kind_name (suc (suc (suc zero))) h g = refl
kind_name (suc (suc (suc (suc zero)))) h g = refl
kind_name (suc (suc (suc (suc (suc zero))))) h g = refl
kind_name (suc (suc (suc (suc (suc (suc zero)))))) h g = refl
kind_name (suc (suc (suc (suc (suc (suc (suc k))))))) h g = absurd (omega arith)

-- no name and no decimal has a tab or an LF
free_append : (c : ℕ) (p q : List ℕ) → Free c p → Free c q → Free c (p ++ q)
free_append c [] q h g = g
free_append c (x ∷ xs) q h g = (h.0, free_append c xs q h.1 g)

free_name : (c k : ℕ) → c < 48 → Free c (name_of k)
unfolding name_of
free_name c k h =
    by (eqb k 1)
    (λ e. rw e (omega arith, (omega arith, (omega arith, tt))))
    (λ e. rw e (by (eqb k 2)
    (λ f. rw f (omega arith, tt))
    (λ f. rw f (by (eqb k 3)
    (λ g. rw g (omega arith, tt))
    (λ g. rw g (by (eqb k 4)
    (λ i. rw i (omega arith, tt))
    (λ i. rw i (by (eqb k 5) (λ j. rw j (omega arith, tt)) (λ j. rw j (omega arith, tt))))))))))

free_dec_by : (k c n : ℕ) → c < 48 → Free c (dec_by k n)
unfolding dec_by
free_dec_by zero c n h = (omega arith, tt)
free_dec_by (suc k) c n h =
    by (ltb n 10) (λ e. rw e (omega arith, tt)) (λ e. rw e (free_append c (dec_by k (n / 10)) ((48 + n % 10) ∷ []) (free_dec_by k c (n / 10) h) (omega arith, tt)))

free_dec : (c n : ℕ) → c < 48 → Free c (dec n)
unfolding dec
free_dec c n h = free_dec_by 9 c n h

free_led : (c : ℕ) (ps : List (List ℕ)) → (9 ≡ c → ⊥) → Frees c ps → Free c (led 9 ps)
unfolding led
free_led c [] h g = tt
free_led c (p ∷ ps) h g = (h, free_append c p (led 9 ps) g.0 (free_led c ps h g.1))

frees_decs : (c : ℕ) (ns : List ℕ) → c < 48 → Frees c (map dec ns)
frees_decs c [] h = tt
frees_decs c (n ∷ ns) h = (free_dec c n h, frees_decs c ns h)

free_line : (r : Line) → Free 10 (line_bytes r)
unfolding line_bytes
free_line r =
    free_append 10 (name_of r.kind) (led 9 (map dec r.nums)) (free_name 10 r.kind (omega arith))
    (free_led 10 (map dec r.nums) (omega arith) (frees_decs 10 r.nums (omega arith)))

split_line : (r : Line) → split 9 (line_bytes r) ≡ name_of r.kind ∷ map dec r.nums
unfolding line_bytes
split_line r = split_join 9 (name_of r.kind) (map dec r.nums) (free_name 9 r.kind (omega arith)) (frees_decs 9 r.nums (omega arith))

-- a line's bytes say the line
line_read : (p : ℕ) (r : Line) → r.kind < 7 → judge p r ≡ 0 → line_of (line_bytes r) ≡ r
unfolding line_of first others
line_read p r h e =
    let w = judged_sound p r e in
    rw (split_line r, kind_name r.kind (shaped_known r w.shape) h, numbers_decs r.kind 0 r.nums (sized_fits r w.size))

text_lines : (rs : List Line) (p : ℕ) → Faultless p rs → lines_in (split 10 (text rs)) ≡ rs
unfolding text
text_lines [] p w = unfold split lines_in in refl
text_lines (r ∷ rs) p w =
    rw (split_piece 10 (line_bytes r) (text rs) (free_line r), lines_next (line_bytes r) (text rs), line_read p r w.0 w.1, text_lines rs (placed r) w.2)

text_fault : (rs : List Line) (n p : ℕ) → 1 < n → Faultless p rs → first_fault n p (split 10 (text rs)) ≡ fault 0 0
unfolding text
text_fault [] n p h w = unfold split first_fault in rw (lt-ltb 1 n h)
text_fault (r ∷ rs) n p h w =
    let e = line_read p r w.0 w.1 in
    rw (split_piece 10 (line_bytes r) (text rs) (free_line r), fault_next (line_bytes r) (text rs) n p, e, w.1)
    (text_fault rs (n + 1) (placed r) (omega arith) w.2)

pub read_lines : (r : Line) (rs : List Line) → Faultless 0 (r ∷ rs) → (fault_of (text (r ∷ rs)) ≡ fault 0 0) × (lines_of (text (r ∷ rs)) ≡ r ∷ rs)
unfolding fault_of lines_of
read_lines r rs w =
    let e = line_read 0 r w.0 w.1 in (
      (unfold text in rw (split_piece 10 (line_bytes r) (text rs) (free_line r), fault_next (line_bytes r) (text rs) 1 0, e, w.1) (text_fault rs (1 + 1) (placed r) (omega arith) w.2)),
      text_lines (r ∷ rs) 0 w,
    )

-- a faultless line is its bytes
line_written : (l : List ℕ) (p : ℕ) → judge p (line_of l) ≡ 0 → (l ≡ line_bytes (line_of l)) × ((line_of l).kind < 7)
unfolding line_of line_bytes first others join
line_written l p e =
    let s = split_cons 9 l in
    let w = judged_sound p (line_of l) e in
    let a : 0 < kind_of s.0 = rw s.2 at (shaped_known (line_of l) w.shape) in
    let b : fits (kind_of s.0) 0 (map number s.1) ≡ true = rw s.2 at (sized_fits (line_of l) w.size) in (
      sym (join_split 9 l)
          ∙ (ap (join 9) s.2
          ∙ (ap₂ (λ (x : List ℕ) (y : List (List ℕ)). x ++ led 9 y) (name_back s.0 a) (decs_numbers (kind_of s.0) 0 s.1 b) ∙ rw s.2)),
      rw s.2 (kind_small s.0),
    )

empty : (l : List ℕ) → length l ≡ 0 → l ≡ []
empty [] e = refl
empty (x ∷ xs) e = absurd (omega arith)

pieces : (ps : List (List ℕ)) (n p : ℕ) → (first_fault n p ps).no ≡ 0 → (join 10 ps ≡ text (lines_in ps)) × Faultless p (lines_in ps)
unfolding first_fault lines_in join led text
pieces [] n p e = absurd (omega arith)
pieces (l ∷ []) n p e =
    by (eqb (length l) 0 && ltb 1 n)
    (λ t. (append-nil l ∙ empty l (eqb-true (length l) 0 (and_left (eqb (length l) 0) (ltb 1 n) t)), tt))
    (λ t. let z : ◌≡◌ {A = ℕ} 1 0 = rw t at e in absurd (omega arith))
pieces (l ∷ m ∷ ms) n p e =
    by (eqb (judge p (line_of l)) 0)
    (λ t. let j = eqb-true (judge p (line_of l)) 0 t in
    let w = line_written l p j in
    let i = pieces (m ∷ ms) (n + 1) (placed (line_of l)) (rw t at e) in
    (ap₂ (λ (a b : List ℕ). a ++ (10 ∷ b)) w.0 i.0, (w.1, j, i.1)))
    (λ t. let z : judge p (line_of l) ≡ 0 = rw t at e in absurd (eqb-false (judge p (line_of l)) 0 t z))

pub written : (s : List ℕ) → (fault_of s).no ≡ 0 → (s ≡ text (lines_of s)) × Faultless 0 (lines_of s)
unfolding fault_of lines_of
written s e = let w = pieces (split 10 s) 1 0 e in (sym (join_split 10 s) ∙ w.0, w.1)

-- a file without a faulty line has a first line
pub some_line : (s : List ℕ) → (fault_of s).no ≡ 0 → (r : Line) × (rs : List Line) × (lines_of s ≡ r ∷ rs)
unfolding fault_of lines_of first_fault lines_in
some_line s e = go (split 10 s) e
  where
    go : (ps : List (List ℕ)) → (first_fault 1 0 ps).no ≡ 0 → (r : Line) × (rs : List Line) × (lines_in ps ≡ r ∷ rs)
    go [] e = absurd (omega arith)
    go (l ∷ []) e = by (eqb (length l) 0) (λ t. let z : ◌≡◌ {A = ℕ} 1 0 = rw t at e in absurd (omega arith)) (λ t. let z : ◌≡◌ {A = ℕ} 1 0 = rw t at e in absurd (omega arith))
    go (l ∷ m ∷ ms) e = (line_of l, lines_in (m ∷ ms), refl)

-- a file has no faulty line exactly when it is the text of lines, at least one, each of shape and sizes, in order
pub faultless_exact : (s : List ℕ) → ((fault_of s).no ≡ 0) ↔ ((r : Line) × (rs : List Line) × (s ≡ text (r ∷ rs)) × EachPassed (r ∷ rs) × InOrder (r ∷ rs))
faultless_exact s = (there, λ w. ap (λ (x : List ℕ). (fault_of x).no) w.2 ∙ ap (λ (x : Fault). x.no) (read_lines w.0 w.1 (order_file (w.0 ∷ w.1) w.3 w.4)).0)
  where
    there : (fault_of s).no ≡ 0 → (r : Line) × (rs : List Line) × (s ≡ text (r ∷ rs)) × EachPassed (r ∷ rs) × InOrder (r ∷ rs)
    there e =
        let w = written s e in
        let l = some_line s e in
        let f : Faultless 0 (l.0 ∷ l.1) = subst (λ (x : List Line). Faultless 0 x) l.2 w.1 in
        let o = file_order (l.0 ∷ l.1) f in
        (l.0, l.1, w.0 ∙ ap text l.2, o.0, o.1)

-- "Lines end in LF": the last byte of such a file is LF
abbrev last_in : ℕ → List ℕ → ℕ
last_in d [] = d
last_in d (x ∷ xs) = last_in x xs

last_behind : (xs : List ℕ) (d y : ℕ) (ys : List ℕ) → last_in d (xs ++ (y ∷ ys)) ≡ last_in y ys
last_behind [] d y ys = refl
last_behind (x ∷ xs) d y ys = last_behind xs x y ys

text_last : (r : Line) (rs : List Line) (d : ℕ) → last_in d (text (r ∷ rs)) ≡ 10
unfolding text
text_last r [] d = last_behind (line_bytes r) d 10 []
text_last r (q ∷ rs) d = last_behind (line_bytes r) d 10 (text (q ∷ rs)) ∙ text_last q rs 10

pub last_byte : (u : List ℕ) (b : ℕ) → (fault_of (u ++ (b ∷ []))).no ≡ 0 → b ≡ 10
last_byte u b e =
    let w = (faultless_exact (u ++ (b ∷ []))).0 e in
    sym (last_behind u 0 b []) ∙ (ap (last_in 0) w.2 ∙ text_last w.0 w.1 0)
