-- What follows from LargestRig.antt.
use Rattle.std.specs.Prelude.{◌≡◌, refl, ◌≢◌, ◌⊎◌, Bool, true, false, cond, ◌&&◌, [], ℕ, ◌+◌, ◌-◌, ◌/◌, ◌%◌, ◌≤◌, ◌<◌, eqb, leb, ltb, length, get_or}
use Rattle.std.proofs.Common.{sym, ◌∙◌, ap, subst, inl, inr, ⊎_elim, arith, lt-ltb, le-ltb, le-leb, ltb-true, ltb-false, eqb-true}
use Rattle.std.proofs.lemmas.List.{length-map}
use Rattle.std.proofs.Math.ListN.{get_or-map}
use Rattle.std.proofs.lemmas.Bool.{lt-leb, eqb-false}
use Rattle.laws.specs.Cases.{by}
use Rattle.rig.specs.Rules.{Right, RowSizes, Rises, Minor, no_row, no_cycle, flag_at, row_at}
use Rattle.rig.specs.Forms.{cycle_of, cycles_of, table_of}
use Rattle.rig.specs.declared.Cycle.{Cycle}
use Rattle.rig.specs.declared.Rig.{Rig}
use Rattle.rig.specs.declared.Row.{Row}
use Rattle.rig_build.specs.Read.{file_accepted}
use Rattle.rig_meaning.proofs.Reading.{read_of}
use Rattle.rig_write.specs.File.{file_of}
use Rattle.rig_meaning.proofs.Laws.Read.{read_file}
use Rattle.rules.specs.Rig as G
use Rattle.rules.specs.Scripts.{B}
use Rattle.exec_state.specs.View.{rig_of}
use Rattle.witness.specs.Tables.{table, table_length, table_at}
use Rattle.witness.specs.CodeRig.{code_row, code_rig, code_table, code_cycles, Ends, code_rig_lem}
use Rattle.witness.specs.LargestRig.{largest, largest_rig, largest_right}

-- and its file is accepted: so 40,960 bytes are enough
pub largest_read : read_of (file_of largest_rig (table_of (code_cycles largest))) ≡ file_accepted largest_rig (code_cycles largest)
largest_read = read_file largest_rig (code_cycles largest) largest_right
