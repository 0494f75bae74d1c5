-- A SOUND RECORD: its parts are as the paper's list asks (exec_sound/Sound).
use Rattle.rules.specs.Rig.{Rig}
use Rattle.rules.specs.State.{State}
use Rattle.exec_state.specs.View.{rig_of, view_of}
use Rattle.exec_sound.specs.Sound.{SoundParts}
use Rattle.exec.specs.declared.Exec.{Exec}

-- what the rules see of a record: its rig, and its state with the chains as one reads them in its links
abbrev pub rig_in : Exec → Rig
rig_in x = rig_of x.rig x.cycles

abbrev pub view : Exec → State
view x = view_of x.st

abbrev pub SoundRecord : Exec → Type 0
SoundRecord x = SoundParts x.rig x.cycles x.st
