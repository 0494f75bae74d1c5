-- Laws: the bytes of a script line that are kept, and a line that is too long to say anything.
use Rattle.std.specs.Prelude.{ℕ, ◌+◌, ◌≤◌, ◌<◌, ◌≡◌, refl, ◌⊎◌, Bool, ◌&&◌, List, [], ◌∷◌, ◌++◌, ltb, set}
use Rattle.std.proofs.Math.Path.{sym, ap}
use Rattle.std.proofs.Common.{◌∙◌, subst, inl, inr, ⊎_elim, arith, add-one, length-append, lt-ltb, le-ltb, ltb-true, ltb-false}
use Rattle.std.proofs.Math.ListN.{length, take, length-set}
use Rattle.std.proofs.Math.Seq.{take-suc-set, length-take-le}
use Rattle.laws.specs.Cases.{by, if_yes, if_no, and_true}
use Rattle.decimal.specs.Decimal.{cap, number, dec}
use Rattle.decimal.specs.Laws.{dec_number}
use Rattle.text.specs.Split.{split, join, led}
use Rattle.text.specs.Laws.Split.{join_split}
use Rattle.bench_script.specs.Letters.{tab}
use Rattle.bench_script.specs.Script.{verb_of, alone, with_number, with_value, with_two, fields_say, said_of}
use Rattle.bench_script.specs.Laws.Written.{dec_length}
use Rattle.bench_script.specs.declared.Said.TheVariants.{Wrong}
use Rattle.bench_input.specs.Line.{line_room, with_more, Holds}

-- ---- the table of a line

module _ (line : List ℕ) (held b : ℕ) (n : length line ≡ line_room) where
  pub hold_more : held < line_room → Holds line held b (set line held b) (held + 1)
  unfolding with_more
  hold_more h =
      let l : length (take held line) ≡ held = length-take-le held line (omega arith) in
      record {
        is =
            ap (λ (k : ℕ). take k (set line held b)) (add-one held) ∙ take-suc-set line held b (omega arith)
            ∙ sym (if_yes (take held line) (lt-ltb (length (take held line)) line_room (omega arith)) refl);
        high = omega arith;
        size = length-set line held b;
      }

  pub hold_full : held ≤ line_room → line_room ≤ held → Holds line held b line held
  unfolding with_more
  hold_full h k =
      let l : length (take held line) ≡ held = length-take-le held line (omega arith) in
      record {
        is = sym (if_no (take held line ++ (b ∷ [])) (le-ltb (length (take held line)) line_room (omega arith)) refl);
        high = h;
        size = refl;
      }

-- ---- no line of more than 23 bytes says anything: a verb and two numbers

abbrev pub longest : ℕ
longest = 23

-- a number that is read has at most ten digits
digits : (l : List ℕ) → number l < cap → length l ≤ 10
digits l h = let e : l ≡ dec (number l) = dec_number l (number l) h refl in let k = dec_length (number l) in omega (arith, ap length e)

-- a verb of more than one letter is none
no_verb : (v : List ℕ) → 1 < length v → verb_of v ≡ 0
unfolding verb_of
no_verb [] h = refl
no_verb (x ∷ []) h = absurd (let z : ⊥ = omega arith in z)
no_verb (x ∷ y ∷ v) h = refl

-- and with two numbers behind it nothing is said
nothing_said : (panel : Bool) (v n m : ℕ) → v ≡ 0 → with_two panel v n m ≡ Wrong
unfolding with_two with_value
nothing_said panel v n m e = rw e (by (ltb m 2) (λ t. rw t) (λ t. rw t))

fields_long : (panel : Bool) (ps : List (List ℕ)) → longest < length (join tab ps) → fields_say panel ps ≡ Wrong
unfolding fields_say join led alone with_number
fields_long panel [] h = refl
fields_long panel (v ∷ []) h =
    let e = length-append v [] in
    rw (no_verb v (omega (arith, e)))
fields_long panel (v ∷ n ∷ []) h =
    by (ltb (number n) cap)
    (λ t. let d = digits n (ltb-true (number n) cap t) in
    let e = length-append v (tab ∷ (n ++ [])) in
    let f = length-append n [] in
    rw (t, no_verb v (omega (arith, e, f))))
    (λ t. rw t)
fields_long panel (v ∷ n ∷ m ∷ []) h =
    by (ltb (number n) cap && ltb (number m) cap)
    (λ t. let w = and_true (ltb (number n) cap) (ltb (number m) cap) t in
    let d = digits n (ltb-true (number n) cap w.0) in
    let o = digits m (ltb-true (number m) cap w.1) in
    let e = length-append v (tab ∷ (n ++ (tab ∷ (m ++ [])))) in
    let g = length-append n (tab ∷ (m ++ [])) in
    let k = length-append m [] in
    rw t (nothing_said panel (verb_of v) (number n) (number m) (no_verb v (omega (arith, e, g, k)))))
    (λ t. rw t)
fields_long panel (v ∷ n ∷ m ∷ x ∷ xs) h = refl

pub too_long : (panel : Bool) (line : List ℕ) → longest < length line → said_of panel line ≡ Wrong
unfolding said_of
too_long panel line h = fields_long panel (split tab line) (subst (λ (l : List ℕ). longest < length l) (sym (join_split tab line)) h)

-- ---- what is kept of a line

-- the whole line; or as much of it as shows that it is too long
abbrev pub KeptOf : List ℕ → List ℕ → Type 0
KeptOf line kept = (kept ≡ line) ⊎ ((longest < length kept) × (longest < length line))

pub kept_more : (line kept : List ℕ) (b : ℕ) → KeptOf line kept → KeptOf (line ++ (b ∷ [])) (with_more kept b)
unfolding with_more
kept_more line kept b w =
    by (ltb (length kept) line_room)
    (λ t. rw t (⊎_elim (λ e. inl (ap (λ (l : List ℕ). l ++ (b ∷ [])) e))
    (λ p. inr (rw (length-append kept (b ∷ [])) (omega (arith, p.0)), rw (length-append line (b ∷ [])) (omega (arith, p.1)))) w))
    (λ t. let h = ltb-false (length kept) line_room t in
    rw t (inr (omega arith, rw (length-append line (b ∷ [])) (⊎_elim (λ (e : kept ≡ line). omega (arith, ap length e)) (λ p. omega (arith, p.1)) w))))

-- both say the same
pub kept_says : (panel : Bool) (line kept : List ℕ) → KeptOf line kept → said_of panel kept ≡ said_of panel line
kept_says panel line kept w = ⊎_elim (λ e. ap (said_of panel) e) (λ p. too_long panel kept p.0 ∙ sym (too_long panel line p.1)) w
