-- WHAT A C HOST IS TOLD of a call, and what the memory that it lends holds then.
use Rattle.std.specs.Prelude.{◌≡◌, ◌≢◌, ◌⊎◌, List, ℕ}
use Rattle.rig.specs.declared.Cycle.{Cycle}
use Rattle.rig.specs.declared.Rig.{Rig}
use Rattle.rules.specs.Calls as R
use Rattle.rig_meaning.proofs.Reading.{read_of}
use Rattle.exec.specs.Call.{answer_of, Meets}
use Rattle.exec.specs.Starting.{no_exec, Started}
use Rattle.exec.specs.declared.Exec.{Exec}
use Rattle.exec.specs.declared.Step.{Step}
use Rattle.exec.specs.declared.Answer.{Answer}
use Rattle.host_replies.specs.declared.Reply.{Reply}
use Rattle.host_replies.specs.declared.Coded.{Coded}

-- the paper's number and values of an answer, with a count and a running task
abbrev pub reply_of : Answer → ℕ → ℕ → Reply
reply_of a count running =
    record {
      refusal = (answer_of a).code;
      line = 0;
      served = (answer_of a).report.served;
      words = (answer_of a).report.words;
      value = (answer_of a).report.value;
      count = count;
      running = running;
      woken = (answer_of a).report.woken;
      activated = (answer_of a).report.activated;
    }

-- a step as a host has it: the record, and the reply with the count and the running task of that record
abbrev pub coded : Step → Coded
coded s = record { exec = s.exec; reply = reply_of s.answer s.exec.st.count s.exec.st.running }

-- the two parts together: the record in the host's memory, and the reply
abbrev pub coded_of : Exec → Reply → Coded
coded_of x p = record { exec = x; reply = p }

-- a call: a step that the call by value may take, as a host has it
pub record Replies (x : Exec) (k : R.Call) (r : Coded) (after : List ℕ) : Type 0 where
  pub step : Step
  pub meets : Meets x k step after
  pub told : r ≡ coded step

-- the start of an accepted rig
pub record StartReplies (g : Rig) (rows : List Cycle) (r : Coded) : Type 0 where
  pub step : Step
  pub started : Started g rows step
  pub told : r ≡ coded step

-- "a refused start returns a record of all zeros": the number, the file's line (0 for the whole file), and nothing else
abbrev pub refused_file : ℕ → ℕ → Coded
refused_file number place =
    record {
      exec = no_exec;
      reply = record { refusal = number; line = place; served = 0; words = 0; value = 0; count = 0; running = 0; woken = 0; activated = 0 };
    }

-- a start from a rig file: what reading the file answers decides
pub record StartRepliesFrom (file : List ℕ) (r : Coded) : Type 0 where
  pub is :
      (((read_of file).no ≡ 0) × StartReplies (read_of file).rig (read_of file).cycles r)
      ⊎ (((read_of file).no ≢ 0) × (r ≡ refused_file (read_of file).no (read_of file).line))
