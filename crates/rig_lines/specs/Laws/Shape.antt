-- The judging of shape and of sizes, in the words of `Words`.
--     decimals_exact    every field was a decimal ↔ each is one by its text
--     shaped_exact      the judging of shape ↔ the shape of the text
--     sized_exact       the judging of sizes ↔ every number is within its size, and a B line's period and phase are right
-- Assumes nothing.
use Rattle.std.specs.Prelude.{ℕ, suc, ◌+◌, ◌<◌, ◌≡◌, refl, ◌⊎◌, ◌↔◌, Bool, true, false, cond, List, [], ◌∷◌, map, leb, eqb, length, get_or}
use Rattle.std.proofs.Common.{sym, ◌∙◌, inl, inr, ⊎_elim, arith, leb-true, le-leb}
use Rattle.std.proofs.lemmas.List.{length-map}
use Rattle.laws.specs.Laws.All.{and_left, and_right}
use Rattle.laws.specs.Members.{In}
use Rattle.laws.specs.Decides.{Is}
use Rattle.laws.specs.Laws.Decides.{is_eqb, is_ltb, is_and, is_if, is_said}
use Rattle.decimal.specs.Decimal.{cap, number}
use Rattle.decimal.specs.Plain.{number_exact}
use Rattle.text.specs.Split.{split}
use Rattle.rig_lines.specs.Kinds.{within, period_listed, timed, periods}
use Rattle.rig_lines.specs.Laws.Kinds.{within_is, within_fits, is_always}
use Rattle.rig_lines.specs.Line.{Line, line_of, others, decimals, shaped, fits, sized}
use Rattle.rig_lines.specs.Words.{Decimals, Shape, Sizes}
use Rattle.rig_lines.specs.Laws.Judged.{shaped_known, shaped_count, shaped_decimals, shaped_if, sized_fits, sized_timed, sized_if, fits_at}

pub decimals_exact : (ps : List (List ℕ)) → (decimals (map number ps) ≡ true) ↔ Decimals ps
unfolding decimals
decimals_exact ps = (there ps, back ps)
  where
    there : (ps : List (List ℕ)) → decimals (map number ps) ≡ true → Decimals ps
    there [] e = tt
    there (p ∷ ps) e =
        let a = leb-true (number p) cap (and_left (leb (number p) cap) (decimals (map number ps)) e) in
        ((number_exact p).0 a, there ps (and_right (leb (number p) cap) (decimals (map number ps)) e))

    back : (ps : List (List ℕ)) → Decimals ps → decimals (map number ps) ≡ true
    back [] w = refl
    back (p ∷ ps) w = rw (le-leb (number p) cap ((number_exact p).1 w.0)) (back ps w.1)

pub shaped_exact : (l : List ℕ) → (shaped (line_of l) ≡ true) ↔ Shape l
unfolding line_of
shaped_exact l = (
  λ e. record {
    known = shaped_known (line_of l) e;
    count = sym (length-map (others (split 9 l)) number) ∙ shaped_count (line_of l) e;
    numbers = (decimals_exact (others (split 9 l))).0 (shaped_decimals (line_of l) e);
  },
  λ w. shaped_if (line_of l) w.known (length-map (others (split 9 l)) number ∙ w.count) ((decimals_exact (others (split 9 l))).1 w.numbers),
)

-- "periods 1, 2, 4, 8, 16, 32, 64"
listed_exact : (p : ℕ) → (period_listed p ≡ true) ↔ In p periods
unfolding period_listed
listed_exact p =
    is_or' (is_eqb p 1) (is_or' (is_eqb p 2) (is_or' (is_eqb p 4) (is_or' (is_eqb p 8) (is_or' (is_eqb p 16) (is_or' (is_eqb p 32) (last p))))))
  where
    is_or' : {a b : Bool} {P Q : Type 0} → Is a P → Is b Q → Is (cond a true b) (P ⊎ Q)
    is_or' {a} {b} {P} {Q} h k = (there a refl, back)
      where
        there : (x : Bool) → a ≡ x → cond x true b ≡ true → P ⊎ Q
        there true q e = inl (h.0 q)
        there false q e = inr (k.0 e)

        right : (x : Bool) → b ≡ true → cond x true b ≡ true
        right true e = refl
        right false e = e

        back : P ⊎ Q → cond a true b ≡ true
        back (inl p) = rw (h.1 p)
        back (inr q) = right a (k.1 q)

    last : (p : ℕ) → Is (eqb p 64) (In p (64 ∷ []))
    last p = is_said (is_eqb p 64) inl (⊎_elim (λ e. e) (λ z. absurd z))

fits_if : (k f : ℕ) (ns : List ℕ) → ((i : ℕ) → i < length ns → within k (f + i) (get_or ns i 0) ≡ true) → fits k f ns ≡ true
unfolding fits
fits_if k f [] h = refl
fits_if k f (n ∷ ns) h =
    let a : within k f n ≡ true = let z : f + 0 ≡ f = omega arith in rw z at (h 0 (omega arith)) in
    rw a (fits_if k (f + 1) ns (λ i l. let z : f + suc i ≡ (f + 1) + i = omega arith in rw z at (h (suc i) (omega arith))))

timed_exact : (r : Line) → (timed r.kind r.nums ≡ true) ↔ (r.kind ≡ 6 → In (get_or r.nums 5 0) periods × (get_or r.nums 6 0 < get_or r.nums 5 0))
unfolding timed
timed_exact r =
    is_said (is_if (is_eqb r.kind 6) (is_and (listed_exact (get_or r.nums 5 0)) (is_ltb (get_or r.nums 6 0) (get_or r.nums 5 0))) is_always) (λ w. w.0) (λ w. (w, λ _. tt))

pub sized_exact : (r : Line) → (sized r ≡ true) ↔ Sizes r
sized_exact r = (
  λ e. record {
    within = λ i h. within_is r.kind i (get_or r.nums i 0) (let z : 0 + i ≡ i = omega arith in rw z at (fits_at r.kind 0 r.nums (sized_fits r e) i h));
    timed = (timed_exact r).0 (sized_timed r e);
  },
  λ w. sized_if r
      (fits_if r.kind 0 r.nums (λ i h. let z : 0 + i ≡ i = omega arith in rw z (sym (within_fits r.kind i (get_or r.nums i 0) (w.within i h).0 (w.within i h).1))))
      ((timed_exact r).1 w.timed),
)
