-- A SCRIPT LINE, without its LF: the call that it asks for, or a line of wrong shape. `panel` is whether the panel's verbs are on: "the
-- same input, output and streaming as the runner with more verbs". With them off a line says what the build paper fixes.
use Rattle.std.specs.Prelude.{ℕ, Bool, cond, ◌&&◌, List, [], ◌∷◌, ltb, eqb}
use Rattle.decimal.specs.Decimal.{cap, number}
use Rattle.text.specs.Split.{split}
use Rattle.bench_script.specs.Letters.{tab, question, schedule_verb, cancel_verb, terminate_verb, finish_verb, tick_verb, until_verb, cycles_verb, latched_verb, unlatched_verb, signal_verb, ask_verb, next_waking_verb, overruns_verb, why_verb}
use Rattle.bench_script.specs.declared.Said.{Said}
use Rattle.bench_script.specs.declared.Said.TheVariants.{Schedule, Cancel, Terminate, Finish, Tick, Until, Cycles, Latched, Unlatched, Signal, Ask, NextWaking, Overruns, WhyNot, Wrong}

-- the letter of a verb
abbrev pub letter_of : Said → ℕ
letter_of (Schedule t) = schedule_verb
letter_of (Cancel t) = cancel_verb
letter_of (Terminate t) = terminate_verb
letter_of Finish = finish_verb
letter_of Tick = tick_verb
letter_of (Until t) = until_verb
letter_of (Cycles n) = cycles_verb
letter_of (Latched f v) = latched_verb
letter_of (Unlatched f v) = unlatched_verb
letter_of (Signal f v) = signal_verb
letter_of (Ask f) = ask_verb
letter_of NextWaking = next_waking_verb
letter_of (Overruns t) = overruns_verb
letter_of (WhyNot t d) = why_verb
letter_of Wrong = question

-- a verb is one letter; 0 is none
unfoldable pub verb_of : List ℕ → ℕ
verb_of [] = 0
verb_of (v ∷ []) = v
verb_of (v ∷ w ∷ ws) = 0

-- what a verb of the panel says: with the panel's verbs off nothing, "any other script line"
abbrev pub of_panel : Bool → Said → Said
of_panel panel said = cond panel said Wrong

-- "F; K (tick)"; of the panel V
unfoldable pub alone : Bool → ℕ → Said
alone panel v =
    cond (eqb v finish_verb) Finish
    (cond (eqb v tick_verb) Tick
    (cond (eqb v next_waking_verb) (of_panel panel NextWaking) Wrong))

-- "S, X, Z task (schedule, cancel, terminate)", "U count; R cycles", "Q flag"; of the panel O
unfoldable pub with_number : Bool → ℕ → ℕ → Said
with_number panel v n =
    cond (eqb v schedule_verb) (Schedule n)
    (cond (eqb v cancel_verb) (Cancel n)
    (cond (eqb v terminate_verb) (Terminate n)
    (cond (eqb v until_verb) (Until n)
    (cond (eqb v cycles_verb) (Cycles n)
    (cond (eqb v ask_verb) (Ask n)
    (cond (eqb v overruns_verb) (of_panel panel (Overruns n)) Wrong))))))

-- "L or N flag value (latched, unlatched wait); G flag value"
unfoldable pub with_value : ℕ → ℕ → Bool → Said
with_value v f b = cond (eqb v latched_verb) (Latched f b) (cond (eqb v unlatched_verb) (Unlatched f b) (cond (eqb v signal_verb) (Signal f b) Wrong))

-- "values are 0 or 1"; of the panel Y, of which both are numbers
unfoldable pub with_two : Bool → ℕ → ℕ → ℕ → Said
with_two panel v n m = cond (eqb v why_verb) (of_panel panel (WhyNot n m)) (cond (ltb m 2) (with_value v n (eqb m 1)) Wrong)

-- "Script numbers run to 4,294,967,295 ..; any other script line is refused by 1"
unfoldable pub fields_say : Bool → List (List ℕ) → Said
fields_say panel [] = Wrong
fields_say panel (v ∷ []) = alone panel (verb_of v)
fields_say panel (v ∷ n ∷ []) = cond (ltb (number n) cap) (with_number panel (verb_of v) (number n)) Wrong
fields_say panel (v ∷ n ∷ m ∷ []) =
    cond (ltb (number n) cap && ltb (number m) cap) (with_two panel (verb_of v) (number n) (number m)) Wrong
fields_say panel (v ∷ n ∷ m ∷ x ∷ xs) = Wrong

-- fields are parted by one tab
unfoldable pub said_of : Bool → List ℕ → Said
said_of panel line = fields_say panel (split tab line)
