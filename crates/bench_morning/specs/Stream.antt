-- WHERE A STREAM STANDS, and what holds of every stream that is handed out.
use Rattle.std.specs.Prelude.{ℕ, ◌≤◌, ◌<◌, Bool, false, List, take, replicate}
use Rattle.exec.specs.Sound.{rig_in, view, SoundRecord}
use Rattle.exec.specs.Starting.{no_exec}
use Rattle.exec.specs.declared.Exec.{Exec}
use Rattle.bench_input.specs.Opening.{full}
use Rattle.bench_input.specs.Line.{line_room}
use Rattle.bench_morning.specs.Desk.{Desk, opening, talking, over}
use Rattle.bench_morning.specs.declared.Stream.{Stream}
use Rattle.bench_morning.specs.declared.Phase.{Phase}
use Rattle.bench_morning.specs.declared.Phase.TheVariants.{Opening, Talking, Over}

-- where a stream stands: the text so far is what the lent buffer keeps, the line so far what the stream holds
abbrev pub desk_by : Phase → Stream → List ℕ → Desk
desk_by Opening s keep = opening s.panel (take s.at keep) s.from
desk_by Talking s keep = talking s.panel (rig_in s.exec) (view s.exec) (take s.held s.line)
desk_by Over s keep = over

abbrev pub desk_of : Stream → List ℕ → Desk
desk_of s keep = desk_by s.phase s keep

-- what holds of every stream that is handed out: its numbers lie inside its tables, its record is sound
abbrev pub HoldsBy : Phase → Stream → ℕ → Type 0
HoldsBy Opening s kept = (full ≤ kept) × (s.at < full) × (s.from ≤ s.at)
HoldsBy Talking s kept = (s.held ≤ line_room) × SoundRecord s.exec
HoldsBy Over s kept = Unit {0}

abbrev pub HoldsIn : Stream → ℕ → Type 0
HoldsIn s kept = HoldsBy s.phase s kept

-- a stream at the start of the script, or behind a refused rig; and before the first byte
abbrev pub fresh : Bool → Phase → Exec → Stream
fresh panel phase exec = record { panel = panel; phase = phase; at = 0; from = 0; line = replicate line_room 0; held = 0; exec = exec }

abbrev pub beginning : Bool → Stream
beginning panel = fresh panel Opening no_exec

-- behind a refused rig
abbrev pub nothing_more : Stream
nothing_more = fresh false Over no_exec
