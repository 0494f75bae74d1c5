-- WHAT THE OPENING OWES: the line START, and the bytes of the rig's text up to it.
use Rattle.std.specs.Prelude.{ℕ, ◌≤◌, ◌<◌, ◌≡◌, Bool, List, [], length, take}
use Rattle.rig_meaning.proofs.Reading.{read_of}
use Rattle.put_text.specs.Wrote.{Wrote}
use Rattle.bench_morning.specs.Morning.{start_text}
use Rattle.bench_morning.specs.Desk.{desk_started, desk_after, said}
use Rattle.bench_morning.specs.Stream.{desk_of, HoldsIn}
use Rattle.bench_morning.specs.declared.Stream.{Stream}
use Rattle.bench_morning.specs.declared.Fed.{Fed}
use Rattle.bench_morning.specs.declared.Phase.TheVariants.{Opening}
use Rattle.bench_morning.specs.declared.Started.{Started}

-- the rig's text is whole
pub record Begins (panel : Bool) (text out : List ℕ) (r : Started) (written : List ℕ) : Type 0 where
  pub wrote : Wrote out 0 (start_text (read_of text)) written r.wrote
  pub desk : (keep : List ℕ) → desk_of r.stream keep ≡ desk_started panel (read_of text)
  pub holds : (kept : ℕ) → HoldsIn r.stream kept
  pub later : r.stream.phase ≡ Opening → ⊥

-- bytes of the rig's text are taken, up to its end or to the piece's; a stream behind it takes none here
pub record Opens (s : Stream) (keep piece out : List ℕ) (r : Fed) (kept written : List ℕ) : Type 0 where
  pub desk : desk_of r.stream kept ≡ desk_after (desk_of s keep) (take r.took piece)
  pub wrote : Wrote out 0 (said (desk_of s keep) (take r.took piece)) written r.wrote
  pub took : r.took ≤ length piece
  pub quiet : (k : ℕ) → k < r.took → said (desk_of s keep) (take k piece) ≡ []
  pub stays : r.stream.phase ≡ Opening → r.took ≡ length piece
  pub holds : HoldsIn r.stream (length kept)
  pub size : length kept ≡ length keep
