-- "Records in this order, each kind rising strictly by its leading numbers (T task; C task and position; A and M all; B lines in row
-- order, free)": the judging of a line answers exactly what `MayFollow` (Words) says.
--     ordered_first    a line may be the first ↔ it is the RIG line
--     ordered_exact    a line may follow another ↔ it comes after it, or both are B lines
--     file_order       the same of all lines of a file, and back: order_file
-- Assumes nothing.
use Rattle.std.specs.Prelude.{ℕ, zero, suc, ◌+◌, ◌*◌, ◌≤◌, ◌<◌, min, ◌≡◌, refl, ◌≢◌, ◌↔◌, Bool, true, false, cond, List, [], ◌∷◌, leb, ltb, eqb, length, get_or, take}
use Rattle.std.proofs.Common.{sym, ap, ◌∙◌, inl, inr, ⊎_elim, arith, length-take}
use borrow.Author.Tests.{ltb-true, ltb-false, eqb-true, eqb-false, lt-ltb, le-ltb, le-leb, eq-eqb, ne_eqb}
use Rattle.laws.specs.Cases.{by}
use Rattle.rig_lines.specs.Kinds.{keys, keys_of, count_of, keyed, place_in_order, follows}
use Rattle.rig_lines.specs.Laws.Kinds.{entries, entries_le}
use Rattle.rig_lines.specs.Line.{Line, shaped, sized, placed, ordered, judge}
use Rattle.rig_lines.specs.Words.{leading, Below, Before, MayFollow}
use Rattle.rig_lines.specs.Laws.Judged.{Faultless, judged_sound, sound_judged, shaped_known, shaped_count, sized_fits, fits_small}

-- a line that is asked for its order, and the line before it: of a known kind, and judged for shape and sizes
pub record Passed (r : Line) : Type 0 where
  pub known : r.kind < 7
  pub shape : shaped r ≡ true
  pub size : sized r ≡ true

-- ---- places are compared as the leading numbers are

-- three numbers below 256 as one
abbrev low : List ℕ → ℕ
low l = (get_or l 0 0 * 256 + get_or l 1 0) * 256 + get_or l 2 0

abbrev Small : List ℕ → Type 0
Small l = (i : ℕ) → get_or l i 0 ≤ 255

low_below : (l m : List ℕ) → length l ≡ length m → length l ≤ 3 → Small l → Small m → low l < low m → Below l m
low_below [] [] e h s t g = omega arith
low_below [] (b ∷ m) e h s t g = absurd (omega arith)
low_below (a ∷ l) [] e h s t g = absurd (omega arith)
low_below (a ∷ []) (b ∷ []) e h s t g = inl (omega arith)
low_below (a ∷ []) (b ∷ c ∷ m) e h s t g = absurd (omega arith)
low_below (a ∷ x ∷ l) (b ∷ []) e h s t g = absurd (omega arith)
low_below (a ∷ x ∷ []) (b ∷ y ∷ []) e h s t g =
    let s1 : x ≤ 255 = s 1 in
    let t1 : y ≤ 255 = t 1 in
    by (ltb a b)
    (λ u. inl (ltb-true a b u))
    (λ u. let v = ltb-false a b u in inr (omega arith, inl (omega arith)))
low_below (a ∷ x ∷ []) (b ∷ y ∷ d ∷ m) e h s t g = absurd (omega arith)
low_below (a ∷ x ∷ z ∷ l) (b ∷ y ∷ []) e h s t g = absurd (omega arith)
low_below (a ∷ x ∷ z ∷ []) (b ∷ y ∷ w ∷ []) e h s t g =
    let s1 : x ≤ 255 = s 1 in
    let t1 : y ≤ 255 = t 1 in
    let s2 : z ≤ 255 = s 2 in
    let t2 : w ≤ 255 = t 2 in
    by (ltb a b)
    (λ u. inl (ltb-true a b u))
    (λ u. let v = ltb-false a b u in
    inr (
      omega arith,
      by (ltb x y) (λ p. inl (ltb-true x y p)) (λ p. let q = ltb-false x y p in inr (omega arith, inl (omega arith))),
    ))
low_below (a ∷ x ∷ z ∷ []) (b ∷ y ∷ w ∷ d ∷ m) e h s t g = absurd (omega arith)
low_below (a ∷ x ∷ z ∷ o ∷ l) (b ∷ y ∷ w ∷ m) e h s t g = absurd (omega arith)

below_low : (l m : List ℕ) → length l ≤ 3 → Small l → Small m → Below l m → low l < low m
below_low [] [] h s t g = absurd g
below_low [] (b ∷ m) h s t g = absurd g
below_low (a ∷ l) [] h s t g = absurd g
below_low (a ∷ l) (b ∷ m) h s t g =
    let s1 : get_or l 0 0 ≤ 255 = s 1 in
    let t1 : get_or m 0 0 ≤ 255 = t 1 in
    let s2 : get_or l 1 0 ≤ 255 = s 2 in
    let t2 : get_or m 1 0 ≤ 255 = t 2 in
    ⊎_elim (λ k. omega arith) (λ k. let i = under l m (omega arith) s1 t1 s2 t2 k.1 in let j = k.0 in omega arith) g
  where
    last : (l m : List ℕ) → length l ≤ 1 → Below l m → get_or l 0 0 < get_or m 0 0
    last [] [] h g = absurd g
    last [] (b ∷ m) h g = absurd g
    last (a ∷ l) [] h g = absurd g
    last (a ∷ []) (b ∷ []) h g = ⊎_elim (λ k. k) (λ k. absurd k.1) g
    last (a ∷ []) (b ∷ c ∷ m) h g = ⊎_elim (λ k. k) (λ k. absurd k.1) g
    last (a ∷ x ∷ l) (b ∷ m) h g = absurd (omega arith)

    under : (l m : List ℕ) → length l ≤ 2 → get_or l 0 0 ≤ 255 → get_or m 0 0 ≤ 255 → get_or l 1 0 ≤ 255 → get_or m 1 0 ≤ 255 → Below l m → get_or l 0 0 * 256 + get_or l 1 0 < get_or m 0 0 * 256 + get_or m 1 0
    under [] [] h s t p q g = absurd g
    under [] (b ∷ m) h s t p q g = absurd g
    under (a ∷ l) [] h s t p q g = absurd g
    under (a ∷ l) (b ∷ m) h s t p q g =
        ⊎_elim (λ k. omega arith) (λ k. let i = last l m (omega arith) k.1 in let j = k.0 in omega arith) g

-- the leading numbers by number
taken : (n : ℕ) (v : List ℕ) (j : ℕ) → cond (ltb j n) (get_or v j 0) 0 ≡ get_or (take n v) j 0
taken zero v j = rw (le-ltb j 0 (omega arith))
taken (suc n) [] j = by (ltb j (suc n)) (λ e. rw e) (λ e. rw e)
taken (suc n) (x ∷ v) zero = rw (lt-ltb 0 (suc n) (omega arith))
taken (suc n) (x ∷ v) (suc j) = down ∙ taken n v j
  where
    down : cond {A = ℕ} (ltb (suc j) (suc n)) (get_or v j 0) 0 ≡ cond {A = ℕ} (ltb j n) (get_or v j 0) 0
    down =
        by (ltb j n)
        (λ e. let h = ltb-true j n e in rw (e, lt-ltb (suc j) (suc n) (omega arith)))
        (λ e. let h = ltb-false j n e in rw (e, le-ltb (suc j) (suc n) (omega arith)))

placed_low : (r : Line) → placed r ≡ r.kind * 16777216 + low (leading r)
unfolding placed place_in_order keyed leading
placed_low r =
    let a = taken (keys_of r.kind) r.nums 0 in
    let b = taken (keys_of r.kind) r.nums 1 in
    let c = taken (keys_of r.kind) r.nums 2 in
    rw (a, b, c) (omega arith)

keys_small : (k : ℕ) → keys_of k ≤ 3
unfolding keys_of keys entries
keys_small k = entries_le 3 keys refl k

leading_small : (r : Line) → Passed r → Small (leading r)
unfolding leading
leading_small r w i = rw (← taken (keys_of r.kind) r.nums i) (go (ltb i (keys_of r.kind)))
  where
    go : (b : Bool) → cond b (get_or r.nums i 0) 0 ≤ 255
    go true = fits_small r.kind 0 r.nums (sized_fits r w.size) i
    go false = omega arith

leading_length : (r : Line) → Passed r → length (leading r) ≡ min (keys_of r.kind) (count_of r.kind)
unfolding leading
leading_length r w = length-take (keys_of r.kind) r.nums ∙ ap (min (keys_of r.kind)) (shaped_count r w.shape)

-- a B line has none
row_low : (r : Line) → r.kind ≡ 6 → low (leading r) ≡ 0
unfolding leading keys_of keys
row_low r e = rw e

-- three numbers below 256 are less than 256 times 256 times 256
low_small : (l : List ℕ) → Small l → low l < 16777216
low_small l s =
    let a = s 0 in
    let b = s 1 in
    let c = s 2 in
    omega arith

-- ---- what the judging of order answers

-- the first line: "RIG, edition (always 1), .."
pub ordered_first : (r : Line) → (ordered 0 r ≡ true) ↔ (r.kind ≡ 1)
unfolding ordered follows
ordered_first r = (λ e. eqb-true r.kind 1 e, λ e. eq-eqb r.kind 1 e)

-- a line that is right as the first is RIG
pub first_rig : (r : Line) → judge 0 r ≡ 0 → r.kind ≡ 1
first_rig r e = (ordered_first r).0 (judged_sound 0 r e).order

module _ (q r : Line) (u : Passed q) (w : Passed r) where
  placed_before : (placed q < placed r) ↔ Before q r
  placed_before = (there, back)
    where
      a : placed q ≡ q.kind * 16777216 + low (leading q)
      a = placed_low q

      b : placed r ≡ r.kind * 16777216 + low (leading r)
      b = placed_low r

      s : low (leading q) < 16777216
      s = low_small (leading q) (leading_small q u)

      t : low (leading r) < 16777216
      t = low_small (leading r) (leading_small r w)

      three : length (leading q) ≤ 3
      three = let e = leading_length q u in let h = keys_small q.kind in omega arith

      there : placed q < placed r → Before q r
      there h =
          by (ltb q.kind r.kind)
          (λ e. inl (ltb-true q.kind r.kind e))
          (λ e. let k = ltb-false q.kind r.kind e in
          let same : q.kind ≡ r.kind = omega (arith, a, b, s, t) in
          let less : low (leading q) < low (leading r) = omega (arith, a, b, same) in
          let long : length (leading q) ≡ length (leading r) =
          leading_length q u ∙ (ap (λ (x : ℕ). min (keys_of x) (count_of x)) same ∙ sym (leading_length r w)) in
          inr (same, low_below (leading q) (leading r) long three (leading_small q u) (leading_small r w) less))

      back : Before q r → placed q < placed r
      back =
          ⊎_elim
          (λ h. omega (arith, a, b, s, t))
          (λ h. let less = below_low (leading q) (leading r) three (leading_small q u) (leading_small r w) h.1 in
          let same = h.0 in
          omega (arith, a, b))

  some : 0 < placed q
  some = let k = shaped_known q u.shape in let a = placed_low q in omega arith

  at_row : r.kind ≡ 6 → ordered (placed q) r ≡ leb (placed q) (placed r)
  unfolding ordered follows
  at_row e = rw (ne_eqb (placed q) 0 (omega (arith, some)), eq-eqb r.kind 6 e)

  at_other : r.kind ≢ 6 → ordered (placed q) r ≡ ltb (placed q) (placed r)
  unfolding ordered follows
  at_other n = rw (ne_eqb (placed q) 0 (omega (arith, some)), ne_eqb r.kind 6 n)

  both_rows : q.kind ≡ 6 → r.kind ≡ 6 → placed q ≤ placed r
  both_rows f e =
      let a = placed_low q in
      let b = placed_low r in
      let c = row_low q f in
      let d = row_low r e in
      omega (arith, a, b, c, d, e, f)

  -- "each kind rising strictly by its leading numbers (..; B lines in row order, free)": exactly then line r is in order after line q
  pub ordered_exact : (ordered (placed q) r ≡ true) ↔ MayFollow q r
  ordered_exact = by (eqb r.kind 6) (λ e. row (eqb-true r.kind 6 e)) (λ e. other (eqb-false r.kind 6 e))
    where
      row : r.kind ≡ 6 → (ordered (placed q) r ≡ true) ↔ MayFollow q r
      row e = (
        λ h. by (eqb q.kind 6)
            (λ f. inr (eqb-true q.kind 6 f, e))
            (λ f. let n = eqb-false q.kind 6 f in let k = u.known in inl (inl (omega (arith, e, n, k)))),
        λ h. at_row e ∙ le-leb (placed q) (placed r) (⊎_elim (λ g. let k = placed_before.1 g in omega (arith, k)) (λ g. both_rows g.0 e) h),
      )

      other : r.kind ≢ 6 → (ordered (placed q) r ≡ true) ↔ MayFollow q r
      other n = (
        λ h. inl (placed_before.0 (ltb-true (placed q) (placed r) (sym (at_other n) ∙ h))),
        λ h. at_other n ∙ lt-ltb (placed q) (placed r) (⊎_elim (λ g. placed_before.1 g) (λ g. absurd (n g.1)) h),
      )

-- ---- the lines of a file

-- each line may follow the one before it, q before the first
abbrev pub Follow : Line → List Line → Type 0
Follow q [] = Unit {0}
Follow q (r ∷ rs) = MayFollow q r × Follow r rs

abbrev pub EachPassed : List Line → Type 0
EachPassed [] = Unit {0}
EachPassed (r ∷ rs) = Passed r × EachPassed rs

-- "Records in this order": the RIG line, then lines of which each may follow the one before it
abbrev pub InOrder : List Line → Type 0
InOrder [] = Unit {0}
InOrder (r ∷ rs) = (r.kind ≡ 1) × Follow r rs

after_order : (q : Line) → Passed q → (rs : List Line) → Faultless (placed q) rs → EachPassed rs × Follow q rs
after_order q u [] f = (tt, tt)
after_order q u (r ∷ rs) f =
    let s = judged_sound (placed q) r f.1 in
    let w : Passed r = record { known = f.0; shape = s.shape; size = s.size } in
    let i = after_order r w rs f.2 in
    ((w, i.0), ((ordered_exact q r u w).0 s.order, i.1))

order_after : (q : Line) → Passed q → (rs : List Line) → EachPassed rs → Follow q rs → Faultless (placed q) rs
order_after q u [] p f = tt
order_after q u (r ∷ rs) p f =
    let w = p.0 in
    (w.known, sound_judged (placed q) r (record { shape = w.shape; size = w.size; order = (ordered_exact q r u w).1 f.0 }), order_after r w rs p.1 f.1)

-- lines without a fault are in order, and lines of shape and sizes that are in order are without a fault
pub file_order : (rs : List Line) → Faultless 0 rs → EachPassed rs × InOrder rs
file_order [] f = (tt, tt)
file_order (r ∷ rs) f =
    let s = judged_sound 0 r f.1 in
    let w : Passed r = record { known = f.0; shape = s.shape; size = s.size } in
    let i = after_order r w rs f.2 in
    ((w, i.0), ((ordered_first r).0 s.order, i.1))

pub order_file : (rs : List Line) → EachPassed rs → InOrder rs → Faultless 0 rs
order_file [] p f = tt
order_file (r ∷ rs) p f =
    let w = p.0 in
    (w.known, sound_judged 0 r (record { shape = w.shape; size = w.size; order = (ordered_first r).1 f.0 }), order_after r w rs p.1 f.1)
