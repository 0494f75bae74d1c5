-- What the A lines of a flag store, in the table of conditions and in that of marks: lines are gone through in two parts, one after
-- the other, and lines that are not of the flag change nothing. And who is marked in the end.
use Rattle.std.specs.Prelude.{◌≡◌, refl, ◌≢◌, Bool, true, false, List, ◌+◌, ◌≤◌, ◌<◌, ℕ, eqb, get_or, set, replicate}
use Rattle.std.proofs.Common.{sym, ap, ◌∙◌, subst, true≢false, arith, eq-eqb, ne_eqb, eqb-true}
use Rattle.std.proofs.lemmas.List.{length-replicate}
use Rattle.laws.specs.Any.{any}
use Rattle.laws.specs.Cases.{by_bool, and_true, and_go}
use Rattle.laws.specs.Iter.{iter}
use Rattle.laws.specs.Stores.{store_one}
use Rattle.laws.specs.Laws.Any.{any_not, any_some}
use Rattle.laws.specs.Laws.Iter.{iter_plus}
use Rattle.laws.specs.Laws.Stores.{stores_keep, stores_hit, stores_miss, stored_yes, stored_no}
use Rattle.laws.specs.Laws.Tables.{zeros_at}
use Rattle.rules.specs.Conditions.{names, names_one}
use Rattle.exec_conditions.specs.Lines.{Lines, marked}

-- fewer lines
pub lines_fewer : (n m : ℕ) (line_task line_pos : List ℕ) → m ≤ n → Lines n line_task line_pos → Lines m line_task line_pos
lines_fewer n m line_task line_pos h l =
    record { few = omega (arith, h, l.few); task = λ k i. l.task k (omega (arith, i, h)); pos = λ k i. l.pos k (omega (arith, i, h)) }

-- what the first d lines store, each of flag f a value at a place of its own
abbrev pub stored : (ℕ → ℕ) → ℕ → (ℕ → ℕ) → (ℕ → ℕ) → ℕ → List ℕ → List ℕ
stored line_flag f place value d l = iter d (store_one (λ (k : ℕ). eqb (line_flag k) f) place value) l

module _ (line_flag : ℕ → ℕ) (f : ℕ) (place value : ℕ → ℕ) where
  stored_none : (d : ℕ) (l : List ℕ) → any d (λ i. eqb (line_flag i) f) ≡ false → stored line_flag f place value d l ≡ l
  stored_none d l e = stores_keep _ place value (λ m. m ≡ l) d (λ k m a t h. absurd (true≢false (sym t ∙ any_not d _ e k a))) l refl

module _ (line_flag : ℕ → ℕ) (f : ℕ) (place value : ℕ → ℕ) (k d : ℕ) (l₀ l : List ℕ) (h : l ≡ stored line_flag f place value k l₀) where
  -- d lines from line k on
  pub stored_more : stored (λ i. line_flag (k + i)) f (λ i. place (k + i)) (λ i. value (k + i)) d l ≡ stored line_flag f place value (k + d) l₀
  stored_more = ap (iter d _) h ∙ iter_plus k d _ l₀

  -- none of them is of the flag
  pub stored_pass : any d (λ i. eqb (line_flag (k + i)) f) ≡ false → l ≡ stored line_flag f place value (k + d) l₀
  stored_pass e = sym (stored_none (λ i. line_flag (k + i)) f (λ i. place (k + i)) (λ i. value (k + i)) d l e) ∙ stored_more

-- a turn: line k is of the flag, or not
module _ (line_flag : ℕ → ℕ) (f : ℕ) (place value : ℕ → ℕ) (k : ℕ) (l₀ l : List ℕ) (h : l ≡ stored line_flag f place value k l₀) where
  pub stored_line : line_flag k ≡ f → set l (place k) (value k) ≡ stored line_flag f place value (k + 1) l₀
  stored_line e = stored_yes (λ i. eqb (line_flag i) f) place value k l₀ l h (eq-eqb _ _ e)

  pub stored_other : line_flag k ≢ f → l ≡ stored line_flag f place value (k + 1) l₀
  stored_other e = stored_no (λ i. eqb (line_flag i) f) place value k l₀ l h (ne_eqb _ _ e)

-- in a table that was blank, those are marked who have the flag in a condition
pub marked_names : (n : ℕ) (line_task line_flag : ℕ → ℕ) (f t : ℕ) → t ≤ 64
    → names n line_task line_flag t f ≡ eqb (get_or (marked n line_task line_flag f (replicate 65 0)) t 0) 1
unfolding names marked
marked_names n line_task line_flag f t b =
    by_bool (any n p) (λ (x : Bool). x ≡ eqb (get_or (stored line_flag f line_task (λ k. 1) n (replicate 65 0)) t 0) 1) hit miss
  where
    p : ℕ → Bool
    p = names_one line_task line_flag t f

    hit : any n p ≡ true → true ≡ eqb (get_or (stored line_flag f line_task (λ k. 1) n (replicate 65 0)) t 0) 1
    hit e =
        let w = any_some n p e in
        let a = and_true (eqb (line_task w.0) t) _ w.2 in
        let q : line_task w.0 ≡ t = eqb-true _ t a.0 in
        let z : get_or (stored line_flag f line_task (λ k. 1) n (replicate 65 0)) (line_task w.0) 0 ≡ 1 =
        stores_hit (λ k. eqb (line_flag k) f) line_task (λ k. 1) n (replicate 65 0) w.0 w.1 a.1 (omega (arith, q, length-replicate {A = ℕ} 65 0)) (λ j c d g. refl) in
        sym (eq-eqb _ 1 (subst (λ (u : ℕ). get_or (stored line_flag f line_task (λ k. 1) n (replicate 65 0)) u 0 ≡ 1) q z))

    miss : any n p ≡ false → false ≡ eqb (get_or (stored line_flag f line_task (λ k. 1) n (replicate 65 0)) t 0) 1
    miss e =
        let other : (k : ℕ) → k < n → eqb (line_flag k) f ≡ true → t ≢ line_task k =
        λ k c g q. true≢false (sym (and_go (eq-eqb (line_task k) t (sym q)) g) ∙ any_not n p e k c) in
        let z : get_or (stored line_flag f line_task (λ k. 1) n (replicate 65 0)) t 0 ≡ 0 =
        stores_miss (λ k. eqb (line_flag k) f) line_task (λ k. 1) n (replicate 65 0) t other ∙ zeros_at 65 t in
        rw z
