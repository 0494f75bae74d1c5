-- THE BYTES OF SCRIPT AND OUTPUT, by name.
use Rattle.std.specs.Prelude.{ℕ, List}
use Rattle.put_text.specs.Text.{ascii}
pub use Rattle.text.specs.Split.{lf, tab}

-- "S, X, Z task (schedule, cancel, terminate); F; K (tick); U count; R cycles; L or N flag value (latched, unlatched wait);
-- G flag value; Q flag"
abbrev pub schedule_verb : ℕ
schedule_verb = 83

abbrev pub cancel_verb : ℕ
cancel_verb = 88

abbrev pub terminate_verb : ℕ
terminate_verb = 90

abbrev pub finish_verb : ℕ
finish_verb = 70

abbrev pub tick_verb : ℕ
tick_verb = 75

abbrev pub until_verb : ℕ
until_verb = 85

abbrev pub cycles_verb : ℕ
cycles_verb = 82

abbrev pub latched_verb : ℕ
latched_verb = 76

abbrev pub unlatched_verb : ℕ
unlatched_verb = 78

abbrev pub signal_verb : ℕ
signal_verb = 71

abbrev pub ask_verb : ℕ
ask_verb = 81

-- the panel's verbs: `V`, "the lowest waking count; nothing if no task waits on time"
abbrev pub next_waking_verb : ℕ
next_waking_verb = 86

-- and `O` task, its number of overruns
abbrev pub overruns_verb : ℕ
overruns_verb = 79

-- and `Y` task links, why it won't start: "yes, or the lowest condition that blocks"
abbrev pub why_verb : ℕ
why_verb = 89

-- "any other script line .. prints ? alone"
abbrev pub question : ℕ
question = 63

-- the letters of RUN
abbrev pub run_r : ℕ
run_r = 82

abbrev pub run_u : ℕ
run_u = 85

abbrev pub run_n : ℕ
run_n = 78

-- the name of the first output line
abbrev pub start_name : List ℕ
start_name = ascii "START"
