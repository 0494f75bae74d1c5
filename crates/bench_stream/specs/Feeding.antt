-- WHAT A STREAM OWES: fed with a piece of the input it takes bytes and writes what they decide; at the end, what that decides.
use Rattle.std.specs.Prelude.{ℕ, ◌+◌, ◌≤◌, ◌<◌, ◌≡◌, ◌⊎◌, List, length, take}
use Rattle.bench_script.specs.Output.{turn_room}
use Rattle.put_text.specs.Wrote.{Wrote}
use Rattle.bench_morning.specs.Desk.{desk_after, said, last_said}
use Rattle.bench_morning.specs.Stream.{desk_of, HoldsIn}
use Rattle.bench_morning.specs.declared.Stream.{Stream}
use Rattle.bench_morning.specs.declared.Fed.{Fed}

-- a stream that may be fed: what is handed out, with room for any turn's line
pub record Ready (s : Stream) (kept all : ℕ) : Type 0 where
  pub room : turn_room ≤ all
  pub holds : HoldsIn s kept

-- bytes of the piece are taken, to its end or for as long as there is room for any turn's line, and what they decide stands at
-- the front of the output
pub record Moves (s : Stream) (keep piece out : List ℕ) (r : Fed) (kept written : List ℕ) : Type 0 where
  pub desk : desk_of r.stream kept ≡ desk_after (desk_of s keep) (take r.took piece)
  pub wrote : Wrote out 0 (said (desk_of s keep) (take r.took piece)) written r.wrote
  pub took : r.took ≤ length piece
  pub roomy : (k : ℕ) → k < r.took → length (said (desk_of s keep) (take k piece)) + turn_room ≤ length out
  pub stop : (r.took ≡ length piece) ⊎ (length out < r.wrote + turn_room)
  pub holds : HoldsIn r.stream (length kept)
  pub size : length kept ≡ length keep

-- a stream that is none, or too little room: nothing happens
pub record Feeds (s : Stream) (keep piece out : List ℕ) (r : Fed) (kept written : List ℕ) : Type 0 where
  pub is :
      (Ready s (length keep) (length out) × Moves s keep piece out r kept written)
      ⊎ ((Ready s (length keep) (length out) → ⊥) × (r ≡ record { stream = s; took = 0; wrote = 0 }) × (kept ≡ keep) × (written ≡ out))

pub record Ends (s : Stream) (keep out : List ℕ) (n : ℕ) (written : List ℕ) : Type 0 where
  pub is :
      (Ready s (length keep) (length out) × Wrote out 0 (last_said (desk_of s keep)) written n)
      ⊎ ((Ready s (length keep) (length out) → ⊥) × (n ≡ 0) × (written ≡ out))
