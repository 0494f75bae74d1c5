-- WHAT READING A RIG FILE ANSWERS, for every byte string, in the paper's words. "Command words and fields turn into each other without loss; so
-- do accepted rig files and rigs": an accepted file is the text that the writer writes for the rig that is answered, and nothing here says how a
-- file is taken apart.
-- The answer's `rule`, which whole-file rule is broken first, is no part of the paper; rigcheck says it in words, and what its number means is a
-- law (`rule_of`, rig_build/Exactly; rig_lines/Laws/Whole; rig_whole/Which).
use Rattle.std.specs.Prelude.{ℕ, ◌+◌, ◌≤◌, ◌<◌, ◌≡◌, List, length}
use Rattle.rig.specs.declared.Cycle.{Cycle}
use Rattle.rig.specs.declared.Rig.{Rig}
use Rattle.rig.specs.Forms.{no_rig, no_cycles}
use Rattle.rig_lines.specs.Words.{FirstFaulty, NoneFaulty}
use Rattle.rig_build.specs.declared.Answer.{Answer}
use Rattle.rig_write.specs.File.{FileOfRight}

-- "rig file up to 40,960 bytes"
abbrev pub longest : ℕ
longest = 40960

-- a refusal's number and line, and "a refused rig is all zeros"
pub record RefusedAt (number place : ℕ) (a : Answer) : Type 0 where
  pub no : a.no ≡ number
  pub line : a.line ≡ place
  pub rig : a.rig ≡ no_rig
  pub cycles : a.cycles ≡ no_cycles

pub data Reads (s : List ℕ) (a : Answer) : Type 0 where
  -- "2: .. file too long (line 0, tested first)"
  over_long : longest < length s → RefusedAt 2 0 a → Reads s a
  -- "For a file, the first faulty line decides, then the smallest number": its lines are counted from 1
  faulty_line : (n j : ℕ) → length s ≤ longest → FirstFaulty s n j → RefusedAt j (n + 1) a → Reads s a
  -- "4: a whole-file rule is broken (line 0)", "4 only if no line is faulty": the file is that of no right rig
  whole_broken : length s ≤ longest → NoneFaulty s → ((g : Rig) (cycles : List Cycle) → FileOfRight s g cycles → ⊥) → RefusedAt 4 0 a → Reads s a
  -- accepted: the file is that of the right rig which is answered
  of_right : FileOfRight s a.rig a.cycles → a.no ≡ 0 → a.line ≡ 0 → Reads s a
