-- SCRIPTS: small rigs written as the lines of their file, and what a script of calls shows on one. For computed cases.
use Rattle.std.specs.Prelude.{◌≡◌, cond, List, [], ◌∷◌, ◌++◌, ℕ, eqb, length, get_or, replicate, take}
use Rattle.rules.specs.Rig.{Rig, Row, place_of}
use Rattle.rules.specs.State.{time_chain, chain_of, State, with_count, state_of, value_of, overruns_of}
use Rattle.rules.specs.Calls.{Call, schedule, finish, tick, wait_for, Step, step, start}

-- ---- a rig, as its file says it

-- "T, task, controller, priority, privileged, activation flag", "C, task, position, latched, desired", "A, task, position,
-- flag", "M, cycle, flag", "B, sender, its sub-address, receiver, its sub-address, words, period, phase"
pub data TaskLine : Type 0 where
  T : ℕ → ℕ → ℕ → ℕ → ℕ → TaskLine

pub data ConditionLine : Type 0 where
  C : ℕ → ℕ → ℕ → ℕ → ConditionLine

pub data FlagLine : Type 0 where
  A : ℕ → ℕ → ℕ → FlagLine

pub data MinorLine : Type 0 where
  M : ℕ → ℕ → MinorLine

abbrev pub B : ℕ → ℕ → ℕ → ℕ → ℕ → ℕ → ℕ → Row
B sender sender_sub receiver receiver_sub words period phase =
    record {
      sender = sender;
      sender_sub = sender_sub;
      receiver = receiver;
      receiver_sub = receiver_sub;
      words = words;
      period = period;
      phase = phase;
    }

-- column n of a task's line, the task's number being column 0
unfoldable pub of_task : ℕ → List TaskLine → ℕ → ℕ
of_task n [] t = 0
of_task n (T task c p v a ∷ ls) t = cond (eqb task t) (get_or (task ∷ c ∷ p ∷ v ∷ a ∷ []) n 0) (of_task n ls t)

-- of the condition at a place: is there a line (0), latched (1), desired (2)
unfoldable pub of_condition : ℕ → List ConditionLine → ℕ → ℕ
of_condition n [] at = 0
of_condition n (C task p l d ∷ ls) at = cond (eqb (place_of task p) at) (get_or (1 ∷ l ∷ d ∷ []) n 0) (of_condition n ls at)

unfoldable pub numbers : FlagLine → List ℕ
numbers (A task p f) = task ∷ p ∷ f ∷ []

unfoldable pub of_line : ℕ → List FlagLine → ℕ → ℕ
of_line n ls k = get_or (numbers (get_or ls k (A 0 0 0))) n 0

unfoldable pub of_cycle : List MinorLine → ℕ → List ℕ
of_cycle [] c = []
of_cycle (M cycle f ∷ ls) c = cond (eqb cycle c) (f ∷ of_cycle ls c) (of_cycle ls c)

-- "RIG, edition, tasks, flags, master's bus address" and the lines of each kind
unfoldable pub rig : ℕ → ℕ → ℕ → List TaskLine → List ConditionLine → List FlagLine → List MinorLine → List Row → Rig
rig tasks flags master ts cs fs ms bs =
    record {
      tasks = tasks;
      flags = flags;
      master = master;
      controller = of_task 1 ts;
      priority = of_task 2 ts;
      privileged = of_task 3 ts;
      activation = of_task 4 ts;
      present = of_condition 0 cs;
      latched = of_condition 1 cs;
      desired = of_condition 2 cs;
      lines = length fs;
      line_task = of_line 0 fs;
      line_pos = of_line 1 fs;
      line_flag = of_line 2 fs;
      minor = λ (c i : ℕ). get_or (of_cycle ms c) i 0;
      rows = length bs;
      row = λ (k : ℕ). get_or bs k (B 0 0 0 0 0 0 0);
    }

-- ---- a script, and what is seen after each of its calls

-- a tick with a buffer of the smallest length
unfoldable pub tick₀ : Call
tick₀ = tick (replicate 128 0)

-- a state as the start leaves it, at another count
unfoldable pub start_at : ℕ → Rig → State
start_at n r = with_count (start r) n

-- what `look` sees of each step, one after the other
unfoldable pub seen : (Step → List ℕ) → Rig → State → List Call → List ℕ
seen look r s [] = []
seen look r s (k ∷ ks) =
    let p = step r s k in
    look p ++ seen look r p.next ks

-- looks: who runs; the answer's number; how many flags were served; whom that woke and activated; how many bus words were written; the value that was
-- read; the lent buffer; the bus words in it; the state of a task; the value of its condition at a position; the value of a
-- flag; a task's number of overruns; who waits in a chain, from its front, and a 0 behind them
unfoldable pub runs : Step → List ℕ
runs p = p.next.running ∷ []

unfoldable pub answers : Step → List ℕ
answers p = p.answer.code ∷ []

unfoldable pub serves : Step → List ℕ
serves p = p.answer.report.served ∷ []

unfoldable pub hears : Step → List ℕ
hears p = p.answer.report.woken ∷ p.answer.report.activated ∷ []

unfoldable pub writes : Step → List ℕ
writes p = p.answer.report.words ∷ []

unfoldable pub reads : Step → List ℕ
reads p = p.answer.report.value ∷ []

unfoldable pub lends : Step → List ℕ
lends p = p.lent

unfoldable pub sends : Step → List ℕ
sends p = take p.answer.report.words p.lent

unfoldable pub state_is : ℕ → Step → List ℕ
state_is t p = state_of p.next t ∷ []

unfoldable pub condition_is : ℕ → ℕ → Step → List ℕ
condition_is t n p = get_or p.next.conds (place_of t n) 0 ∷ []

unfoldable pub value_is : ℕ → Step → List ℕ
value_is f p = value_of p.next f ∷ []

unfoldable pub overruns_is : ℕ → Step → List ℕ
overruns_is t p = overruns_of p.next t ∷ []

unfoldable pub wait_flag : ℕ → ℕ → Step → List ℕ
wait_flag f v p = p.next.chains (chain_of f v) ++ 0 ∷ []

unfoldable pub wait_time : Step → List ℕ
wait_time p = p.next.chains time_chain ++ 0 ∷ []

-- two looks at one step
infixr 5 ◌and◌
unfoldable pub ◌and◌ : (Step → List ℕ) → (Step → List ℕ) → Step → List ℕ
(a and b) p = a p ++ b p

-- a script on a rig, from a state on; what is looked at; what is to be seen
pub record Case : Type 0 where
  pub on : Rig
  pub first : State
  pub calls : List Call
  pub look : Step → List ℕ
  pub shows : List ℕ

unfoldable pub shown : Case → List ℕ
shown c = seen c.look c.on c.first c.calls

-- the case shows what it is to show
abbrev pub Holds : Case → Type 0
Holds c = shown c ≡ c.shows

-- from the start on
abbrev pub case : Rig → List Call → (Step → List ℕ) → List ℕ → Case
case r calls look shows = record { on = r; first = start r; calls = calls; look = look; shows = shows }

-- from a count on
abbrev pub case_at : ℕ → Rig → List Call → (Step → List ℕ) → List ℕ → Case
case_at n r calls look shows = record { on = r; first = start_at n r; calls = calls; look = look; shows = shows }

-- ---- "A bench morning"

-- the rig, line by line as in the paper
unfoldable pub bench : Rig
bench =
    rig 3 4 1
    (T 1 0 10 0 0 ∷ T 2 1 20 0 3 ∷ T 3 1 20 0 0 ∷ [])
    (C 2 0 0 1 ∷ C 3 0 1 1 ∷ [])
    (A 2 0 1 ∷ A 3 0 3 ∷ [])
    (M 4 1 ∷ [])
    (B 1 5 7 2 32 2 0 ∷ [])

-- "S 2, S 3, K, K, K, K, F, R 2, K, K"
unfoldable pub morning_calls : List Call
morning_calls =
    schedule 2 ∷ schedule 3 ∷ tick₀ ∷ tick₀ ∷ tick₀ ∷ tick₀ ∷ finish ∷ wait_for 2 ∷ tick₀ ∷ tick₀ ∷ []
