-- Laws: what a script line says, by where its tabs stand.
use Rattle.std.specs.Prelude.{ℕ, ◌+◌, ◌≤◌, ◌<◌, ◌≡◌, Bool, length, get_or}
use Rattle.std.proofs.Math.Path.{refl, ap}
use Rattle.std.proofs.Common.{sym, ◌∙◌, arith}
use mathlib.Core.List.{List, [], ◌∷◌}
use borrow.Author.Tests.{lt-ltb, le-ltb}
use Rattle.laws.specs.Cases.{if_yes}
use Rattle.decimal.specs.Decimal.{cap, number}
use Rattle.text.specs.Split.{split, part, rest}
use Rattle.text.specs.Laws.Split.{split_cons}
use Rattle.text.specs.Laws.Parts.{Found, part_all, piece, rest_none, rest_next}
use Rattle.bench_script.specs.Script.{verb_of, alone, with_number, with_two, fields_say, said_of}
use Rattle.bench_script.specs.declared.Said.TheVariants.{Wrong}

-- a number too large, or no decimal, is of wrong shape whatever follows it
pub wrong_number : (panel : Bool) (v n : List ℕ) (ps : List (List ℕ)) → cap ≤ number n → fields_say panel (v ∷ n ∷ ps) ≡ Wrong
unfolding fields_say
wrong_number panel v n [] h = rw (le-ltb (number n) cap h)
wrong_number panel v n (b ∷ []) h = rw (le-ltb (number n) cap h)
wrong_number panel v n (b ∷ x ∷ xs) h = refl

-- a field of one letter is a verb, and no other is
pub verb_one : (f : List ℕ) → length f ≡ 1 → get_or f 0 0 ≡ verb_of f
unfolding verb_of
verb_one [] h = refl
verb_one (v ∷ []) h = refl
verb_one (v ∷ w ∷ ws) h = let z : ⊥ = omega arith in absurd z

pub verb_none : (f : List ℕ) → (length f ≡ 1 → ⊥) → 0 ≡ verb_of f
unfolding verb_of
verb_none [] h = refl
verb_none (v ∷ []) h = absurd (h refl)
verb_none (v ∷ w ∷ ws) h = refl

-- equal parts, equal lines
pub number_same : (panel : Bool) {v w n m : ℕ} → v ≡ w → n ≡ m → with_number panel v n ≡ with_number panel w m
number_same panel e f = rw (e, f)

pub two_same : (panel : Bool) {v w n m a b : ℕ} → v ≡ w → n ≡ m → a ≡ b → with_two panel v n a ≡ with_two panel w m b
two_same panel e f g = rw (e, f, g)

-- a search that did not end at the end found something
pub short_of : (s : List ℕ) (a c b : ℕ) → Found s a (length s) c b → (b ≡ length s → ⊥) → b < length s
short_of s a c b f n = let h = f.high in omega arith

-- what a line says, by where its tabs stand: p the first, q the second, t the third, or the line's end
module _ (panel : Bool) (s : List ℕ) (p : ℕ) (fp : Found s 0 (length s) 9 p) where
  first_piece : split 9 s ≡ part 0 p s ∷ rest 9 (part p (length s) s)
  first_piece = ap (split 9) (sym (part_all s)) ∙ piece s 0 (length s) 9 p (omega arith) fp

  pub one_field : p ≡ length s → said_of panel s ≡ alone panel (verb_of (part 0 p s))
  unfolding said_of fields_say
  one_field e =
      let z : rest 9 (part p (length s) s) ≡ [] = rw e (rest_none 9 (length s) s) in
      ap (fields_say panel) (first_piece ∙ ap (λ (l : List (List ℕ)). part 0 p s ∷ l) z)

  module _ (h : p < length s) (q : ℕ) (fq : Found s (p + 1) (length s) 9 q) where
    two_pieces : split 9 s ≡ part 0 p s ∷ part (p + 1) q s ∷ rest 9 (part q (length s) s)
    two_pieces =
        first_piece
        ∙ ap (λ (l : List (List ℕ)). part 0 p s ∷ l) (rest_next 9 p (length s) s h (omega arith) ∙ piece s (p + 1) (length s) 9 q (omega arith) fq)

    pub bad_number : cap ≤ number (part (p + 1) q s) → said_of panel s ≡ Wrong
    unfolding said_of
    bad_number n = ap (fields_say panel) two_pieces ∙ wrong_number panel (part 0 p s) (part (p + 1) q s) (rest 9 (part q (length s) s)) n

    pub two_fields : number (part (p + 1) q s) < cap → q ≡ length s → said_of panel s ≡ with_number panel (verb_of (part 0 p s)) (number (part (p + 1) q s))
    unfolding said_of fields_say
    two_fields n e =
        let z : rest 9 (part q (length s) s) ≡ [] = rw e (rest_none 9 (length s) s) in
        ap (fields_say panel) (two_pieces ∙ ap (λ (l : List (List ℕ)). part 0 p s ∷ part (p + 1) q s ∷ l) z)
        ∙ if_yes Wrong (lt-ltb (number (part (p + 1) q s)) cap n) refl

    module _ (k : q < length s) (t : ℕ) (ft : Found s (q + 1) (length s) 9 t) where
      three_pieces : split 9 s ≡ part 0 p s ∷ part (p + 1) q s ∷ part (q + 1) t s ∷ rest 9 (part t (length s) s)
      three_pieces =
          two_pieces
          ∙ ap (λ (l : List (List ℕ)). part 0 p s ∷ part (p + 1) q s ∷ l)
          (rest_next 9 q (length s) s k (omega arith) ∙ piece s (q + 1) (length s) 9 t (omega arith) ft)

      pub more_fields : t < length s → said_of panel s ≡ Wrong
      unfolding said_of fields_say
      more_fields l =
          let w = split_cons 9 (part (t + 1) (length s) s) in
          ap (fields_say panel)
          (three_pieces
          ∙ ap (λ (l : List (List ℕ)). part 0 p s ∷ part (p + 1) q s ∷ part (q + 1) t s ∷ l) (rest_next 9 t (length s) s l (omega arith) ∙ w.2))

      module _ (n : number (part (p + 1) q s) < cap) (e : t ≡ length s) where
        three : said_of panel s ≡ fields_say panel (part 0 p s ∷ part (p + 1) q s ∷ part (q + 1) t s ∷ [])
        unfolding said_of
        three =
            let z : rest 9 (part t (length s) s) ≡ [] = rw e (rest_none 9 (length s) s) in
            ap (fields_say panel) (three_pieces ∙ ap (λ (l : List (List ℕ)). part 0 p s ∷ part (p + 1) q s ∷ part (q + 1) t s ∷ l) z)

        pub bad_second : cap ≤ number (part (q + 1) t s) → said_of panel s ≡ Wrong
        unfolding fields_say
        bad_second b = three ∙ rw (lt-ltb (number (part (p + 1) q s)) cap n, le-ltb (number (part (q + 1) t s)) cap b)

        pub three_fields : number (part (q + 1) t s) < cap
            → said_of panel s ≡ with_two panel (verb_of (part 0 p s)) (number (part (p + 1) q s)) (number (part (q + 1) t s))
        unfolding fields_say
        three_fields b = three ∙ rw (lt-ltb (number (part (p + 1) q s)) cap n, lt-ltb (number (part (q + 1) t s)) cap b)
