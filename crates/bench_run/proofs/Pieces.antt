-- A feed of what is left of a piece.
use Rattle.std.proofs.Common.{ℕ, List, ◌≤◌, ◌<◌, ◌+◌, ◌-◌, length, take, drop, arith, length-take, length-drop}
use Rattle.bench_script.specs.Output.{turn_room}
use Rattle.bench_morning.specs.Stream.{HoldsIn}
use Rattle.bench_morning.specs.declared.Stream.{Stream}
use Rattle.bench_morning.specs.declared.Fed.{Fed}
use Rattle.bench_stream.specs.Feeding.{Feeds}
use Rattle.bench_stream.specs.Laws.Fits.{feeds_fit, ready_takes}

module _ (s : Stream) (keep piece out kept written : List ℕ) (r : Fed) (from : ℕ) (some : from < length piece) (room : turn_room ≤ length out)
    (holds : HoldsIn s (length keep)) (fed : Feeds s keep (take (length piece - from) (drop from piece)) out r kept written) where
  rest : length (take (length piece - from) (drop from piece)) + from ≤ length piece
  rest = omega (arith, length-take (length piece - from) (drop from piece), length-drop from piece, some)

  any : 0 < length (take (length piece - from) (drop from piece))
  any = omega (arith, length-take (length piece - from) (drop from piece), length-drop from piece, some)

  -- it goes no further than the piece
  pub stays : from + r.took ≤ length piece
  stays = omega (arith, rest, (feeds_fit s keep (take (length piece - from) (drop from piece)) out r kept written fed).0)

  -- it takes a byte at least, and the stream may be fed again
  pub goes : (0 < r.took) × HoldsIn r.stream (length kept)
  goes = ready_takes s keep (take (length piece - from) (drop from piece)) out r kept written (record { room = room; holds = holds }) any fed
