-- Laws of the answer to a file, for those who go by it.
--     reads            what the paper says of it holds of it
--     read_file        "reading what was written of a right rig gives that rig"
--     read_right       an accepted file's rig is right
--     read_empty       the empty file
--     read_too_long    a file above 40,960 bytes
--     read_line        a line's number is small
-- Assumes nothing.
use Rattle.std.specs.Prelude.{ℕ, ◌≤◌, ◌<◌, ◌≡◌, List, [], length}
use Rattle.std.proofs.Common.{sym, subst, ◌∙◌}
use Rattle.rig.specs.declared.Cycle.{Cycle}
use Rattle.rig.specs.declared.Rig.{Rig}
use Rattle.rig.specs.Rules.{Right}
use Rattle.rig.specs.Forms.{table_of}
use Rattle.rig_build.specs.declared.Answer.{Answer}
use Rattle.rig_build.specs.Read.{file_refused, file_accepted}
use Rattle.rig_build.specs.Laws.Exactly.{accepted_right, empty_file_lem, too_long}
use Rattle.rig_build.specs.Laws.LineNumbers.{line_small}
use Rattle.rig_write.specs.File.{file_of}
use Rattle.rig_round_trips.specs.Read.{read_written}
use Rattle.rig_meaning.specs.Reads.{Reads}
use Rattle.rig_meaning.proofs.Reading.{reading, read_of, read_computed_lem}

pub reads : (s : List ℕ) → Reads s (read_of s)
unfolding read_of
reads s = (reading s).1

pub read_file : (g : Rig) (cycles : List Cycle) → Right g cycles → read_of (file_of g (table_of cycles)) ≡ file_accepted g cycles
read_file g cycles r = read_computed_lem (file_of g (table_of cycles)) ∙ read_written g cycles r

pub read_empty : read_of [] ≡ file_refused 1 1 0
read_empty = read_computed_lem [] ∙ empty_file_lem

pub read_too_long : (s : List ℕ) → 40960 < length s → read_of s ≡ file_refused 2 0 0
read_too_long s h = read_computed_lem s ∙ too_long s h

pub read_right : (s : List ℕ) → (read_of s).no ≡ 0 → Right (read_of s).rig (read_of s).cycles
read_right s = subst (λ (a : Answer). a.no ≡ 0 → Right a.rig a.cycles) (sym (read_computed_lem s)) (accepted_right s)

pub read_line : (s : List ℕ) → (read_of s).line ≤ 40962
read_line s = subst (λ (a : Answer). a.line ≤ 40962) (sym (read_computed_lem s)) (line_small s)
