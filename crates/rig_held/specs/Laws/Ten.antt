-- Ten bytes stored one after the other are the list of them put at their place.
-- Assumes nothing.
use Prim.Native.Nat.{ℕ, suc, ◌+◌, ◌≤◌, ◌<◌}
use Rattle.std.specs.Prelude.{◌≡◌, length, get_or, set}
use Rattle.std.proofs.Common.{◌∙◌, arith, length-set}
use mathlib.Core.List.{List, [], ◌∷◌}
use Rattle.laws.specs.Put.{put}
use Rattle.laws.specs.Laws.Put.{put_one}
use Rattle.rig_lines.specs.Laws.Turns.{put_turn}

-- ten bytes, one after the other
pub ten : (l v : List ℕ) (a k : ℕ) → a + 10 ≤ length l → length v ≡ 9 →
    set (set (set (set (set (set (set (set (set (set l a k) (a + 1) (get_or v 0 0)) (a + 2) (get_or v 1 0)) (a + 3) (get_or v 2 0)) (a + 4) (get_or v 3 0)) (a + 5) (get_or v 4 0)) (a + 6) (get_or v 5 0)) (a + 7) (get_or v 6 0)) (a + 8) (get_or v 7 0)) (a + 9) (get_or v 8 0)
    ≡ put l a (k ∷ v)
ten l [] a k h e = absurd (omega arith)
ten l (v0 ∷ []) a k h e = absurd (omega arith)
ten l (v0 ∷ v1 ∷ []) a k h e = absurd (omega arith)
ten l (v0 ∷ v1 ∷ v2 ∷ []) a k h e = absurd (omega arith)
ten l (v0 ∷ v1 ∷ v2 ∷ v3 ∷ []) a k h e = absurd (omega arith)
ten l (v0 ∷ v1 ∷ v2 ∷ v3 ∷ v4 ∷ []) a k h e = absurd (omega arith)
ten l (v0 ∷ v1 ∷ v2 ∷ v3 ∷ v4 ∷ v5 ∷ []) a k h e = absurd (omega arith)
ten l (v0 ∷ v1 ∷ v2 ∷ v3 ∷ v4 ∷ v5 ∷ v6 ∷ []) a k h e = absurd (omega arith)
ten l (v0 ∷ v1 ∷ v2 ∷ v3 ∷ v4 ∷ v5 ∷ v6 ∷ v7 ∷ []) a k h e = absurd (omega arith)
ten l (v0 ∷ v1 ∷ v2 ∷ v3 ∷ v4 ∷ v5 ∷ v6 ∷ v7 ∷ v8 ∷ []) a k h e =
    put_one s8 (a + 9) v8 (omega (arith, n8))
    ∙ (on s7 8 v7 (v8 ∷ []) (omega (arith, n7))
    ∙ (on s6 7 v6 (v7 ∷ v8 ∷ []) (omega (arith, n6))
    ∙ (on s5 6 v5 (v6 ∷ v7 ∷ v8 ∷ []) (omega (arith, n5))
    ∙ (on s4 5 v4 (v5 ∷ v6 ∷ v7 ∷ v8 ∷ []) (omega (arith, n4))
    ∙ (on s3 4 v3 (v4 ∷ v5 ∷ v6 ∷ v7 ∷ v8 ∷ []) (omega (arith, n3))
    ∙ (on s2 3 v2 (v3 ∷ v4 ∷ v5 ∷ v6 ∷ v7 ∷ v8 ∷ []) (omega (arith, n2))
    ∙ (on s1 2 v1 (v2 ∷ v3 ∷ v4 ∷ v5 ∷ v6 ∷ v7 ∷ v8 ∷ []) (omega (arith, n1))
    ∙ (on s0 1 v0 (v1 ∷ v2 ∷ v3 ∷ v4 ∷ v5 ∷ v6 ∷ v7 ∷ v8 ∷ []) (omega (arith, n0))
    ∙ put_turn l a k (v0 ∷ v1 ∷ v2 ∷ v3 ∷ v4 ∷ v5 ∷ v6 ∷ v7 ∷ v8 ∷ []) (omega arith)))))))))
  where
    s0 : List ℕ
    s0 = set l a k

    s1 : List ℕ
    s1 = set s0 (a + 1) v0

    s2 : List ℕ
    s2 = set s1 (a + 2) v1

    s3 : List ℕ
    s3 = set s2 (a + 3) v2

    s4 : List ℕ
    s4 = set s3 (a + 4) v3

    s5 : List ℕ
    s5 = set s4 (a + 5) v4

    s6 : List ℕ
    s6 = set s5 (a + 6) v5

    s7 : List ℕ
    s7 = set s6 (a + 7) v6

    s8 : List ℕ
    s8 = set s7 (a + 8) v7

    n0 : length s0 ≡ length l
    n0 = length-set l a k

    n1 : length s1 ≡ length l
    n1 = length-set s0 (a + 1) v0 ∙ n0

    n2 : length s2 ≡ length l
    n2 = length-set s1 (a + 2) v1 ∙ n1

    n3 : length s3 ≡ length l
    n3 = length-set s2 (a + 3) v2 ∙ n2

    n4 : length s4 ≡ length l
    n4 = length-set s3 (a + 4) v3 ∙ n3

    n5 : length s5 ≡ length l
    n5 = length-set s4 (a + 5) v4 ∙ n4

    n6 : length s6 ≡ length l
    n6 = length-set s5 (a + 6) v5 ∙ n5

    n7 : length s7 ≡ length l
    n7 = length-set s6 (a + 7) v6 ∙ n6

    n8 : length s8 ≡ length l
    n8 = length-set s7 (a + 8) v7 ∙ n7

    on : (m : List ℕ) (i x : ℕ) (ns : List ℕ) → a + i < length m → put (set m (a + i) x) (a + suc i) ns ≡ put m (a + i) (x ∷ ns)
    on m i x ns h = let e : a + suc i ≡ a + i + 1 = omega arith in rw e (put_turn m (a + i) x ns h)
ten l (v0 ∷ v1 ∷ v2 ∷ v3 ∷ v4 ∷ v5 ∷ v6 ∷ v7 ∷ v8 ∷ v9 ∷ vs) a k h e = absurd (omega arith)
