-- A text is copied byte after byte: after i of them, their part of the text stands there.
use Rattle.std.specs.Prelude.{ℕ, ◌+◌, ◌≤◌, ◌<◌, ◌≡◌, Bool, true, false, cond, List, [], ◌∷◌, ◌++◌, length, get_or, set, take}
use Rattle.std.proofs.Common.{sym, arith, add-one, length-take, take-suc, take_all}
use Rattle.put_text.specs.Wrote.{Wrote}
use Rattle.put_text.specs.Laws.Wrote.{wrote_as, wrote_up_to, wrote_none, then_byte}

module _ (l : List ℕ) (at : ℕ) (t : List ℕ) where
  pub copy_start : Wrote l at (take 0 t) l (at + 0)
  copy_start = wrote_up_to l l [] at at (at + 0) (omega arith) (wrote_none l at)

  module _ (m : List ℕ) (i : ℕ) (w : Wrote l at (take i t) m (at + i)) where
    pub copy_next : at + length t ≤ length l → i < length t → Wrote l at (take (i + 1) t) (set m (at + i) (get_or t i 0)) (at + (i + 1))
    copy_next room h =
        let n : length (take i t) ≡ i = simp length-take (omega arith) in
        let k : take i t ++ (get_or t i 0 ∷ []) ≡ take (i + 1) t = sym (rw add-one (take-suc t i 0 h)) in
        wrote_up_to l (set m (at + i) (get_or t i 0)) (take (i + 1) t) at (at + i + 1) (at + (i + 1)) (omega arith)
        (wrote_as l (set m (at + i) (get_or t i 0)) (take i t ++ (get_or t i 0 ∷ [])) (take (i + 1) t) at (at + i + 1) k
        (then_byte l m (take i t) at (get_or t i 0) (at + i) (omega (arith, n)) w))

    pub copy_end : length t ≤ i → Wrote l at t m (at + i)
    copy_end h = wrote_as l m (take i t) t at (at + i) (take_all i t h) w

-- one of two texts is no longer than either may be
pub short : (k : ℕ) (b : Bool) (x y : List ℕ) → length x ≤ k → length y ≤ k → length (cond b x y) ≤ k
short k true x y h g = h
short k false x y h g = g
