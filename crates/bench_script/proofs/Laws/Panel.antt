-- THE PANEL AND THE RUNNER: "the same input, output and streaming as the runner with more verbs". A line says the same with the panel's
-- verbs on and off, or it asks one of the panel's questions, and then it says nothing with them off.
use Rattle.std.specs.Prelude.{◌≡◌, refl, ◌⊎◌, Bool, true, false, cond, ◌&&◌, List, [], ◌∷◌, ℕ, ltb, eqb}
use Rattle.std.proofs.Common.{inl, inr}
use Rattle.decimal.specs.Decimal.{cap, number, read_byte, read_on}
use Rattle.text.specs.Split.{on_head, split}
use Rattle.bench_script.specs.Letters.{tab, schedule_verb, cancel_verb, terminate_verb, finish_verb, tick_verb, until_verb, cycles_verb, ask_verb, next_waking_verb, overruns_verb, why_verb}
use Rattle.bench_script.specs.Script.{verb_of, of_panel, alone, with_number, with_two, fields_say, said_of}
use Rattle.bench_script.specs.declared.Said.{Said}
use Rattle.bench_script.specs.declared.Said.TheVariants.{Schedule, Cancel, Terminate, Finish, Tick, Until, Cycles, Ask, NextWaking, Overruns, WhyNot, Wrong}

-- the panel's questions
abbrev pub Asks : Said → Type 0
Asks said = (said ≡ NextWaking) ⊎ (((t : ℕ) × (said ≡ Overruns t)) ⊎ ((t : ℕ) × (d : ℕ) × (said ≡ WhyNot t d)))

-- what a line says with the panel's verbs on, and off
abbrev pub Adds : Said → Said → Type 0
Adds on off = (on ≡ off) ⊎ (Asks on × (off ≡ Wrong))

-- a verb of both, then others
first_adds : (b : Bool) (said : Said) {on off : Said} → Adds on off → Adds (cond b said on) (cond b said off)
first_adds true said h = inl refl
first_adds false said h = h

-- a verb of the panel, then what is the same
panel_first : (b : Bool) (said other : Said) → Asks said → Adds (cond b (of_panel true said) other) (cond b (of_panel false said) other)
panel_first true said other h = inr (h, refl)
panel_first false said other h = inl refl

alone_adds : (v : ℕ) → Adds (alone true v) (alone false v)
unfolding alone
alone_adds v =
    first_adds (eqb v finish_verb) Finish (first_adds (eqb v tick_verb) Tick (panel_first (eqb v next_waking_verb) NextWaking Wrong (inl refl)))

number_adds : (v n : ℕ) → Adds (with_number true v n) (with_number false v n)
unfolding with_number
number_adds v n =
    first_adds (eqb v schedule_verb) (Schedule n)
    (first_adds (eqb v cancel_verb) (Cancel n)
    (first_adds (eqb v terminate_verb) (Terminate n)
    (first_adds (eqb v until_verb) (Until n)
    (first_adds (eqb v cycles_verb) (Cycles n)
    (first_adds (eqb v ask_verb) (Ask n) (panel_first (eqb v overruns_verb) (Overruns n) Wrong (inr (inl (n, refl)))))))))

two_adds : (v n m : ℕ) → Adds (with_two true v n m) (with_two false v n m)
unfolding with_two
two_adds v n m = panel_first (eqb v why_verb) _ _ (inr (inr (n, _, refl)))

-- lines of a right shape, and of a wrong one
shape_adds : (b : Bool) {on off : Said} → Adds on off → Adds (cond b on Wrong) (cond b off Wrong)
shape_adds true h = h
shape_adds false h = inl refl

fields_add : (ps : List (List ℕ)) → Adds (fields_say true ps) (fields_say false ps)
unfolding fields_say
fields_add [] = inl refl
fields_add (v ∷ []) = alone_adds (verb_of v)
fields_add (v ∷ n ∷ []) = shape_adds (ltb (number n) cap) (number_adds (verb_of v) (number n))
fields_add (v ∷ n ∷ m ∷ []) = shape_adds (ltb (number n) cap && ltb (number m) cap) (two_adds (verb_of v) (number n) (number m))
fields_add (v ∷ n ∷ m ∷ x ∷ xs) = inl refl

pub panel_adds : (line : List ℕ) → Adds (said_of true line) (said_of false line)
unfolding said_of
panel_adds line = fields_add (split tab line)

-- and V is such a line, and so are O with a number and Y with two, so that the panel has the questions
pub v_asks : (said_of true (86 ∷ []) ≡ NextWaking) × (said_of false (86 ∷ []) ≡ Wrong)
unfolding said_of fields_say alone verb_of split on_head
v_asks = (refl, refl)

pub o_asks : (said_of true (79 ∷ 9 ∷ 51 ∷ []) ≡ Overruns 3) × (said_of false (79 ∷ 9 ∷ 51 ∷ []) ≡ Wrong)
unfolding said_of fields_say with_number verb_of split on_head read_byte read_on
o_asks = (refl, refl)

pub y_asks : (said_of true (89 ∷ 9 ∷ 51 ∷ 9 ∷ 50 ∷ []) ≡ WhyNot 3 2) × (said_of false (89 ∷ 9 ∷ 51 ∷ 9 ∷ 50 ∷ []) ≡ Wrong)
unfolding said_of fields_say with_two verb_of split on_head read_byte read_on
y_asks = (refl, refl)
