-- The tables of refusals that several calls share, over the numbers and tables that they look at.
use Rattle.std.specs.Prelude.{◌≡◌, ◌≢◌, refl, Bool, true, false, not, ◌||◌, List, [], ◌∷◌, ℕ, suc, ◌-◌, ◌*◌, eqb, leb, ltb}
use Rattle.std.proofs.Common.{sym, ◌∙◌}
use Rattle.chains.specs.Held.{at}
use Rattle.rig.specs.declared.Cycle.{Cycle}
use Rattle.rig.specs.declared.Row.{Row}
use Rattle.rules.specs.Rig.{is_minor, is_activation}
use Rattle.rules.specs.State.{inactive}
use Rattle.rules.specs.Starting.{most_links}
use Rattle.rules.specs.Calls.{Refusal, row, decide, no_such_one, last_count}
use Rattle.rules_laws.specs.Refusals.{decide_here, decide_next}
use Rattle.rules_laws.specs.Acceptance.{passed}
use Rattle.compool.specs.View.{rows_of}
use Rattle.exec_queue.specs.View.{minor_of}
use Rattle.exec_refusals.specs.Numbers.{nobody, none_such, not_allowed, wrong_state, past_count, wrong_length, too_many_links, not_sound_no, tick_words}

-- "For a call, 12 comes first, then the smallest number."
abbrev pub judge : Bool → List Refusal → ℕ
judge sound rows = decide (row not_sound_no (not sound) ∷ rows)

-- a call that names nothing
abbrev pub run_rows : ℕ → List Refusal
run_rows running = row nobody (eqb running 0) ∷ []

-- a wait for a count, above the last or not
abbrev pub count_rows : ℕ → Bool → List Refusal
count_rows running above = row nobody (eqb running 0) ∷ row past_count above ∷ []

-- a wait on a flag, and reading it
abbrev pub flag_rows : ℕ → ℕ → List Cycle → ℕ → List Refusal
flag_rows running flags cycles f =
    row nobody (eqb running 0) ∷ row none_such (no_such_one flags f) ∷ row not_allowed (is_minor (minor_of cycles) f) ∷ []

abbrev pub signal_rows : ℕ → ℕ → List Cycle → List ℕ → ℕ → List Refusal
signal_rows running flags cycles activation f =
    row nobody (eqb running 0) ∷
    row none_such (no_such_one flags f) ∷
    row not_allowed (is_minor (minor_of cycles) f || is_activation (at activation) f) ∷
    []

-- a call that names a task, in a state that is wrong for the call or not
abbrev pub task_rows : ℕ → ℕ → List ℕ → ℕ → Bool → List Refusal
task_rows running tasks controller t wrong =
    row nobody (eqb running 0) ∷
    row none_such (no_such_one tasks t) ∷
    row not_allowed (not (eqb (at controller t) running)) ∷
    row wrong_state wrong ∷
    []

-- a tick, with a buffer of so many words
abbrev pub tick_rows : ℕ → ℕ → List Refusal
tick_rows count words = row past_count (leb last_count count) ∷ row wrong_length (ltb words tick_words) ∷ []

-- a question on a task
abbrev pub asked_rows : ℕ → ℕ → List Refusal
asked_rows tasks t = row none_such (no_such_one tasks t) ∷ []

-- the question why a task won't start, within so many links
abbrev pub why_rows : ℕ → List ℕ → ℕ → ℕ → List Refusal
why_rows tasks state t d =
    row none_such (no_such_one tasks t) ∷
    row wrong_state (not (eqb (at state t) inactive)) ∷
    row too_many_links (ltb most_links d) ∷
    []

-- "The area has exactly 33 words a row; the caller's buffer has exactly the row's words", by lengths
abbrev pub wrong_lengths : ℕ → List Row → ℕ → ℕ → ℕ → Bool
wrong_lengths rows table k area buffer = not (eqb area (33 * rows)) || not (eqb buffer (rows_of table (k - 1)).words)

-- a call that names a row
abbrev pub block_rows : ℕ → ℕ → List Row → ℕ → ℕ → ℕ → List Refusal
block_rows running rows table k area buffer =
    row nobody (eqb running 0) ∷ row none_such (no_such_one rows k) ∷ row wrong_length (wrong_lengths rows table k area buffer) ∷ []

-- ---- how code goes through a table, row by row

pub none : 0 ≡ decide []
unfolding decide
none = refl

pub here : (n : ℕ) (b : Bool) (xs : List Refusal) → b ≡ true → n ≡ decide (row n b ∷ xs)
here n b xs e = sym (decide_here n b xs e)

pub past : (m n : ℕ) (b : Bool) (xs : List Refusal) → b ≡ false → m ≡ decide xs → m ≡ decide (row n b ∷ xs)
past m n b xs e f = f ∙ sym (decide_next n b xs e)

-- ---- code that has judged a table of one row, of a call that names nothing or of a question on a task, which other tables begin with

-- a refusal there is one of the longer table
pub one_out : (k n : ℕ) (sound b : Bool) (xs : List Refusal) → n ≢ 0 → n ≡ judge sound (row k b ∷ []) → n ≡ judge sound (row k b ∷ xs)
unfolding decide
one_out k n sound b xs z e = go sound b e
  where
    go : (s d : Bool) → n ≡ decide (row not_sound_no (not s) ∷ row k d ∷ []) → n ≡ decide (row not_sound_no (not s) ∷ row k d ∷ xs)
    go false d q = q
    go true true q = q
    go true false q = absurd (z q)

-- none: what the longer table has behind it decides
pub one_past : (k m : ℕ) (sound b : Bool) (xs : List Refusal) → 0 ≡ judge sound (row (suc k) b ∷ []) → m ≡ decide xs → m ≡ judge sound (row (suc k) b ∷ xs)
one_past k m sound b xs e f =
    let p = passed 11 (not sound) (row (suc k) b ∷ []) (sym e) in
    past m not_sound_no (not sound) _ p.0 (past m (suc k) b xs (passed k b [] p.1).0 f)

pub ran_out : (n : ℕ) (sound : Bool) (running : ℕ) (xs : List Refusal) → n ≢ 0 → n ≡ judge sound (run_rows running)
    → n ≡ judge sound (row nobody (eqb running 0) ∷ xs)
ran_out n sound running xs z e = one_out nobody n sound (eqb running 0) xs z e

pub ran : (m : ℕ) (sound : Bool) (running : ℕ) (xs : List Refusal) → 0 ≡ judge sound (run_rows running) → m ≡ decide xs
    → m ≡ judge sound (row nobody (eqb running 0) ∷ xs)
ran m sound running xs e f = one_past 4 m sound (eqb running 0) xs e f
