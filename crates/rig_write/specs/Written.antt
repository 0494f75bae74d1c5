-- WHAT WRITING A RIG ANSWERS, and the lent buffer after it.
use Rattle.std.specs.Prelude.{ℕ, cond, List, [], ◌∷◌, ltb, length}
use Rattle.laws.specs.Put.{put}
use Rattle.rig.specs.declared.Cycle.{Cycle}
use Rattle.rig.specs.declared.Rig.{Rig}
use Rattle.rig.specs.Forms.{table_of}
use Rattle.rig_whole.specs.Decided.{is_right}
use Rattle.rig_write.specs.File.{file_of}
use Rattle.rig_write.specs.declared.Written.{Written}
use Rattle.rig_write.specs.declared.Written.TheVariants.{Done, Refused}

-- number: 0 written, else the refusal's number; values: what is answered with it, the file's length, or nothing
pub record WriteReport : Type 0 where
  pub number : ℕ
  pub values : List ℕ

abbrev pub file_written : ℕ → WriteReport
file_written size = record { number = 0; values = size ∷ [] }

abbrev pub write_refused : ℕ → WriteReport
write_refused number = record { number = number; values = [] }

-- the paper's number and values for each case of what `write` answers
abbrev pub written_report : Written → WriteReport
written_report (Done size) = file_written size
written_report (Refused number) = write_refused number

-- "4: .. an entry that takes a rig (start, writer) is given one that breaks any rule", then "10: a lent buffer has not the length that this
-- paper states for it": "The writer's buffer holds at least the file"
unfoldable pub written_of : Rig → List Cycle → ℕ → WriteReport
written_of g cycles room =
    cond (is_right g cycles) (cond (ltb room (length (file_of g (table_of cycles)))) (write_refused 10) (file_written (length (file_of g (table_of cycles))))) (write_refused 4)

-- a refused write writes nothing; else the file stands at the start, and "bytes past it stay"
unfoldable pub buffer_of : Rig → List Cycle → List ℕ → List ℕ
buffer_of g cycles b =
    cond (is_right g cycles) (cond (ltb (length b) (length (file_of g (table_of cycles)))) b (put b 0 (file_of g (table_of cycles)))) b
