-- A SOUND RECORD, said of its parts: the rig, the cycles beside it, the state.
-- "A record is sound when its rig obeys the rules, .., waiting tasks and links agree as demand 3 says (..; a task in no
-- chain has links 0), .."
use Rattle.std.specs.Prelude.{List}
use Rattle.chains.specs.Held.{Sized}
use Rattle.chains.specs.Held as Links
use Rattle.rig.specs.Rules.{Right}
use Rattle.rig.specs.declared.Cycle.{Cycle}
use Rattle.rig.specs.declared.Rig.{Rig}
use Rattle.rules.specs.Soundness as Rules
use Rattle.exec_state.specs.View.{rig_of, view_of}
use Rattle.exec_state.specs.declared.State.{State}

pub record SoundParts (g : Rig) (cycles : List Cycle) (s : State) : Type 0 where
  -- "its rig obeys the rules"
  pub rig : Right g cycles
  -- its links hold chains, forward and backward alike; "a task in no chain has links 0"
  pub links : Links.HoldsChains s.links
  -- the link tables have their lengths: so it is of every record that a program holds
  pub sized : Sized s.links
  -- all the rest of the paper's list, said of the state that the record shows
  pub state : Rules.Sound (rig_of g cycles) (view_of s)
