-- Laws of the definitions of Wrote.antt.
use Rattle.std.specs.Prelude.{ℕ, suc, ◌+◌, ◌≤◌, ◌<◌, ◌≡◌, refl, List, [], ◌∷◌, ◌++◌, length, take, drop, set}
use Rattle.std.proofs.Common.{sym, ap, ◌∙◌, subst, arith, length-append, length-set, length-take}
use Rattle.laws.specs.Put.{put}
use Rattle.laws.specs.Laws.Put.{put_one, put_put, put_none}
use Rattle.put_text.specs.Wrote.{Wrote}

-- the statement fixes the result
pub wrote_same : (l : List ℕ) (at : ℕ) (t m n : List ℕ) (p q : ℕ) → Wrote l at t m p → Wrote l at t n q → (m ≡ n) × (p ≡ q)
wrote_same l at t m n p q a b = (a.text ∙ sym b.text, a.place ∙ sym b.place)

-- what was written is known by its text, and the place after it by its number
pub wrote_as : (l m a b : List ℕ) (at p : ℕ) → a ≡ b → Wrote l at a m p → Wrote l at b m p
wrote_as l m a b at p e w = subst (λ (t : List ℕ). Wrote l at t m p) e w

pub wrote_up_to : (l m t : List ℕ) (at p q : ℕ) → p ≡ q → Wrote l at t m p → Wrote l at t m q
wrote_up_to l m t at p q e w = record { place = sym e ∙ w.place; text = w.text; size = w.size }

pub wrote_none : (l : List ℕ) (at : ℕ) → Wrote l at [] l at
wrote_none l at = record { place = omega arith; text = sym (put_none l at); size = refl }

-- one byte is written
pub byte_wrote : (l : List ℕ) (at b : ℕ) → at < length l → Wrote l at (b ∷ []) (set l at b) (at + 1)
byte_wrote l at b h = record { place = refl; text = put_one l at b h; size = length-set l at b }

-- texts written one behind the other are written together
pub wrote_then : (l m k a b : List ℕ) (at p q : ℕ) → at + length a + length b ≤ length l → Wrote l at a m p → Wrote m p b k q
    → Wrote l at (a ++ b) k q
wrote_then l m k a b at p q h u w =
    let j = length-append a b in
    let e = u.place in
    let f = w.place in
    record {
      place = omega arith;
      text =
          w.text ∙ ap (λ (x : List ℕ). put x p b) u.text ∙ ap (λ (x : ℕ). put (put l at a) x b) u.place
          ∙ put_put l at a b (omega arith);
      size = w.size ∙ u.size;
    }

-- a byte, and a text behind it
pub byte_then : (l m t : List ℕ) (at b p : ℕ) → at + suc (length t) ≤ length l → Wrote (set l at b) (at + 1) t m p → Wrote l at (b ∷ t) m p
byte_then l m t at b p h w = wrote_then l (set l at b) m (b ∷ []) t at (at + 1) p (omega arith) (byte_wrote l at b (omega arith)) w

-- a text, and a byte behind it
pub then_byte : (l m t : List ℕ) (at b p : ℕ) → at + length t < length l → Wrote l at t m p → Wrote l at (t ++ (b ∷ [])) (set m p b) (p + 1)
then_byte l m t at b p h w =
    wrote_then l m (set m p b) t (b ∷ []) at p (p + 1) (omega arith) w (byte_wrote m p b (omega (arith, w.place, w.size)))

-- the room that is left behind what was written
pub room_left : (l m t : List ℕ) (at p k n : ℕ) → Wrote l at t m p → length t ≤ k → at + (k + n) ≤ length l → p + n ≤ length m
room_left l m t at p k n w h r = omega (arith, w.place, w.size)

-- what was written lies inside
pub wrote_fits : (l : List ℕ) (at : ℕ) (t m : List ℕ) (p : ℕ) → at ≤ length l → Wrote l at t m p → at + length t ≤ length l
unfolding put
wrote_fits l at t m p h w =
    let a : length m ≡ length (take at l ++ (t ++ drop (at + length t) l)) = ap length w.text in
    let b = length-append (take at l) (t ++ drop (at + length t) l) in
    let c = length-append t (drop (at + length t) l) in
    let d = length-take at l in
    let e = w.size in
    omega arith
