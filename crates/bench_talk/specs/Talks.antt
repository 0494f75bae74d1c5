-- WHAT THE SCRIPT'S PART OF A FEED OWES.
use Rattle.std.specs.Prelude.{ℕ, ◌+◌, ◌≤◌, ◌<◌, ◌≡◌, ◌⊎◌, List, length, take}
use Rattle.exec.specs.Sound.{rig_in, view, SoundRecord}
use Rattle.bench_script.specs.Output.{turn_room}
use Rattle.put_text.specs.Wrote.{Wrote}
use Rattle.bench_input.specs.Line.{line_room}
use Rattle.bench_morning.specs.Desk.{talking, desk_after, said}
use Rattle.bench_morning.specs.declared.Stream.{Stream}
use Rattle.bench_morning.specs.declared.Fed.{Fed}
use Rattle.bench_morning.specs.declared.Phase.TheVariants.{Talking}

-- bytes of the script are taken, for as long as there is room
pub record Talks (s : Stream) (piece out : List ℕ) (place : ℕ) (r : Fed) (written : List ℕ) : Type 0 where
  pub desk : talking r.stream.panel (rig_in r.stream.exec) (view r.stream.exec) (take r.stream.held r.stream.line)
      ≡ desk_after (talking s.panel (rig_in s.exec) (view s.exec) (take s.held s.line)) (take r.took piece)
  pub wrote : Wrote out place (said (talking s.panel (rig_in s.exec) (view s.exec) (take s.held s.line)) (take r.took piece)) written r.wrote
  pub took : r.took ≤ length piece
  pub roomy : (k : ℕ) → k < r.took
      → place + length (said (talking s.panel (rig_in s.exec) (view s.exec) (take s.held s.line)) (take k piece)) + turn_room ≤ length out
  pub stop : (r.took ≡ length piece) ⊎ (length out < r.wrote + turn_room)
  pub phase : r.stream.phase ≡ Talking
  pub held : r.stream.held ≤ line_room
  pub sound : SoundRecord r.stream.exec
