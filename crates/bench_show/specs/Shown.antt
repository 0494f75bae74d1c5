-- AN ANSWER'S LINE: "prints verb, answer (0 accepted), count, running task (0 none), then, if accepted, bus words or the flag's value,
-- tab-parted"; L2: "The runner prints both", woken and activated, "after the running task wherever it prints that"; and what the panel's
-- verbs print behind the usual columns.
use Rattle.std.specs.Prelude.{cond, List, [], ◌∷◌, ◌++◌, ℕ, eqb, take}
use Rattle.rules.specs.Sizes.{positions}
use Rattle.rules.specs.Calls as R
use Rattle.bench_script.specs.Letters.{tick_verb, ask_verb, next_waking_verb, overruns_verb, why_verb}
use Rattle.bench_script.specs.Output.{if_any, line_text}

-- "Its lent buffer has at least 128 words"
abbrev pub words_lent : ℕ
words_lent = 128

-- and as many fields have room for them
abbrev pub extra_room : ℕ
extra_room = 1408

-- "bus words or the flag's value": of a tick (K) the words that it wrote, of a reading (Q) the value; of the panel's V "the lowest
-- waking count; nothing if no task waits on time", of O the number of overruns, 0 too, of Y the position of the lowest condition that blocks, 0
-- too, and nothing of a yes, which is `positions`
unfoldable pub extra : ℕ → R.Report → List ℕ → List ℕ
extra verb report words =
    cond (eqb verb tick_verb) (take report.words words)
    (cond (eqb verb ask_verb) (report.value ∷ [])
    (cond (eqb verb next_waking_verb) (if_any 0 report.value)
    (cond (eqb verb overruns_verb) (report.value ∷ [])
    (cond (eqb verb why_verb) (if_any positions report.value) []))))

-- the numbers that every answer has: "answer (0 accepted), count, running task (0 none)", woken and activated. A refused answer's report is
-- `nothing`: "a refusal shows 0 and 0".
abbrev pub columns : R.Answer → ℕ → ℕ → List ℕ
columns a count running = a.code ∷ count ∷ running ∷ a.report.woken ∷ a.report.activated ∷ []

-- "then, if accepted", what the call put out
unfoldable pub numbers_of : ℕ → R.Answer → ℕ → ℕ → List ℕ → List ℕ
numbers_of verb a count running words = columns a count running ++ cond (eqb a.code 0) (extra verb a.report words) []

unfoldable pub text_of : ℕ → R.Answer → ℕ → ℕ → List ℕ → List ℕ
text_of verb a count running words = line_text (verb ∷ []) (numbers_of verb a count running words)
