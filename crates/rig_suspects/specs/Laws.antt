-- Laws: turns of the search for a line, and the single tests.
-- Assumes nothing.
use Prim.Native.Nat.{ℕ, zero, suc, ◌+◌, ◌-◌, ◌≤◌, ◌<◌}
use Rattle.std.specs.Prelude.{◌≡◌, ◌≢◌, Bool, false, cond, List, [], ◌∷◌, eqb, length, get_or, Some}
use Rattle.std.proofs.Math.Path.{refl, sym}
use Rattle.std.proofs.Common.{ap, ◌∙◌, le_antisymm}
use Rattle.std.proofs.Math.Bool.{true, not}
use native.Mathlib.Omega.{arith}
use borrow.Author.Tests.{eqb-true, eqb-false, eq-eqb, ne_eqb, lt-ltb, le-ltb, le-leb, lt-leb}
use Rattle.laws.specs.Cases.{by, below_but}
use Rattle.laws.specs.All.{all}
use Rattle.laws.specs.Laws.All.{and_left, and_right, all_not}
use Rattle.text.specs.Split.{split, part}
use Rattle.text.specs.Laws.Split.{split_cons}
use Rattle.text.specs.Laws.Parts.{Found, part_all}
use Rattle.rig_tables.specs.Tests.{climb}
use Rattle.rig_lines.specs.Line.{Line, line_of}
use Rattle.rig_lines.specs.File.{lines_in, lines_of}
use Rattle.rig_shapes.specs.Laws.{one_piece, more_pieces, nothing_left, is_so_built, is_not}
use Rattle.rig_suspects.specs.Suspects.{Key, lines_from, fits_key, look_in, flag_key, condition_key, controller_in, stray_from, stray, shared, unused, lowest_false, counted}

-- ---- the lines of a file

pub lines_start : (s : List ℕ) → lines_from s 0 ≡ lines_of s
unfolding lines_from lines_of
lines_start s = ap (λ (l : List ℕ). lines_in (split 10 l)) (part_all s)

module _ (s : List ℕ) (at e : ℕ) (w : Found s at (length s) 10 e) where
  pub lines_end : e ≡ length s → lines_from s at ≡ []
  unfolding lines_from lines_in
  lines_end q = rw (one_piece s at e w q)

  pub lines_next : e < length s → lines_from s at ≡ line_of (part at e s) ∷ lines_from s (e + 1)
  unfolding lines_from lines_in
  lines_next h = let v = split_cons 10 (part (e + 1) (length s) s) in rw (more_pieces s at e w h, v.2)

-- nothing stands at the end of a file
module _ (s : List ℕ) (at : ℕ) (h : at ≤ length s) (k : length s ≤ at) where
  pub lines_none : lines_from s at ≡ []
  lines_none = lines_end s at at (nothing_left s at h k) (le_antisymm h k)

-- ---- the lowest place at which a test fails

pub lowest_at : (n : ℕ) (test : ℕ → Bool) (k : ℕ) → k < n → all k test ≡ true → test k ≡ false → lowest_false n test ≡ suc k
unfolding lowest_false
lowest_at zero test k h a b = absurd (let y : ⊥ = omega arith in y)
lowest_at (suc n) test k h a b =
    by (eqb k n)
    (λ t. let q = eqb-true k n t in last (rw q at a) (rw q at b) ∙ ap suc (sym q))
    (λ t. let j = below_but k n h (eqb-false k n t) in rw (all_not n test k j b) (lowest_at n test k j a b))
  where
    last : all n test ≡ true → test n ≡ false → cond {A = ℕ} (all n test) (cond (test n) 0 (suc n)) (lowest_false n test) ≡ suc n
    last x y = rw (x, y)

pub lowest_none : (n : ℕ) (test : ℕ → Bool) → all n test ≡ true → lowest_false n test ≡ 0
unfolding lowest_false all
lowest_none zero test a = refl
lowest_none (suc n) test a = rw (and_left (all n test) (test n) a, and_right (all n test) (test n) a)

-- ---- looking for a line

module _ (k : Key) (m : ℕ) (s : List ℕ) (at e : ℕ) (w : Found s at (length s) 10 e) (h : e < length s) where
  pub look_here : fits_key k (line_of (part at e s)) ≡ true → get_or (line_of (part at e s)).nums m 0 ≡ look_in k m (lines_from s at)
  unfolding look_in
  look_here t = rw (lines_next s at e w h, t)

  pub look_on : fits_key k (line_of (part at e s)) ≡ false → look_in k m (lines_from s (e + 1)) ≡ look_in k m (lines_from s at)
  unfolding look_in
  look_on t = rw (lines_next s at e w h, t)

pub look_end : (k : Key) (m : ℕ) (s : List ℕ) (at e : ℕ) → Found s at (length s) 10 e → e ≡ length s → 0 ≡ look_in k m (lines_from s at)
unfolding look_in
look_end k m s at e w q = rw (lines_end s at e w q)

pub look_none : (k : Key) (m : ℕ) (s : List ℕ) (at : ℕ) → at ≤ length s → length s ≤ at → 0 ≡ look_in k m (lines_from s at)
unfolding look_in
look_none k m s at h l = rw (lines_none s at h l)

pub look_whole : (k : Key) (m : ℕ) (s : List ℕ) → look_in k m (lines_from s 0) ≡ look_in k m (lines_of s)
look_whole k m s = ap (look_in k m) (lines_start s)

-- ---- single tests of a line

module _ (f : ℕ → ℕ) (c x : ℕ) where
  pub climb_none : (k : ℕ) → k ≡ 0 → x ≡ climb f c k x
  unfolding climb
  climb_none k e = rw e

  pub climb_up : (k : ℕ) → k ≢ 0 → c < x → climb f c (k - 1) (f x) ≡ climb f c k x
  unfolding climb
  climb_up zero n h = absurd (n refl)
  climb_up (suc k) n h = let e : suc k - 1 ≡ k = omega arith in rw (e, lt-ltb c x h)

  pub climb_there : (k : ℕ) → x ≤ c → x ≡ climb f c k x
  unfolding climb
  climb_there zero h = refl
  climb_there (suc k) h = rw (le-ltb c x h)

module _ (rs : List Line) (r : Line) where
  pub stray_other : eqb r.kind 2 ≡ false → false ≡ stray rs r
  unfolding stray
  stray_other e = rw e

  module _ (e : eqb r.kind 2 ≡ true) (t c : ℕ) (et : t ≡ get_or r.nums 0 0) (ec : c ≡ get_or r.nums 1 0) where
    stray_is : stray_from rs t c ≡ stray rs r
    unfolding stray
    stray_is = rw (e, et, ec)

    pub stray_first : t ≤ 1 → not (eqb c 0) ≡ stray rs r
    unfolding stray_from
    stray_first h = let z : stray_from rs t c ≡ not (eqb c 0) = rw (le-leb t 1 h) in sym z ∙ stray_is

    pub stray_zero : 1 < t → c ≡ 0 → true ≡ stray rs r
    unfolding stray_from
    stray_zero h d = let z : stray_from rs t c ≡ true = rw (lt-leb t 1 h, eq-eqb c 0 d) in sym z ∙ stray_is

    pub stray_climb : 1 < t → c ≢ 0 → (v : ℕ) → v ≡ climb (controller_in rs) c 64 (t - 1) → not (eqb v c) ≡ stray rs r
    unfolding stray_from
    stray_climb h d v q =
        let z : stray_from rs t c ≡ not (eqb v c) = rw (lt-leb t 1 h, ne_eqb c 0 d, q) in
        sym z ∙ stray_is

module _ (r : Line) (behind : List Line) where
  pub shared_other : eqb r.kind 2 ≡ false → false ≡ shared r behind
  unfolding shared
  shared_other e = rw e

  module _ (e : eqb r.kind 2 ≡ true) (f : ℕ) (ef : f ≡ get_or r.nums 4 0) where
    pub shared_none : f ≡ 0 → false ≡ shared r behind
    unfolding shared
    shared_none z = rw (e, is_so_built ef 0 z)

    pub shared_look : f ≢ 0 → (v : ℕ) → v ≡ look_in (flag_key f) 4 behind → eqb v f ≡ shared r behind
    unfolding shared
    shared_look n v q = rw (e, is_not ef 0 n, q, ef)

module _ (rs : List Line) (r : Line) where
  pub unused_other : eqb r.kind 3 ≡ false → false ≡ unused rs r
  unfolding unused
  unused_other e = rw e

  pub unused_look : eqb r.kind 3 ≡ true → (t p : ℕ) → t ≡ get_or r.nums 0 0 → p ≡ get_or r.nums 1 0
      → (v : ℕ) → v ≡ look_in (condition_key t p) 0 rs → eqb v 0 ≡ unused rs r
  unfolding unused
  unused_look e t p et ep v q = rw (e, q, et, ep)

-- what is counted from 1
pub counted_some : (n : ℕ) → 0 < n → Some n ≡ counted n
unfolding counted
counted_some zero h = absurd (let y : ⊥ = omega arith in y)
counted_some (suc n) h = refl
