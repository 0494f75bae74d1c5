use mathlib.Core.Bool.{true}
use Prim.Native.Nat.{◌≤◌}
use Rattle.sound_chains.specs.Post.{WalkedFrom}
use Rattle.sound_chains.proofs.walk_from.Given as goal

abbrev pub invariant-loop-i : goal.invariant-loop-i
invariant-loop-i l = WalkedFrom l.links l.s l.i l.initial.seen (record { ok = true; seen = l.seen }) × (l.i ≤ l.m)
