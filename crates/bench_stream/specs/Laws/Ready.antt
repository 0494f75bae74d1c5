-- Laws: when a stream is ready.
use Rattle.std.specs.Prelude.{ℕ, ◌≤◌, ◌≡◌, ◌↔◌, true, false}
use Rattle.std.proofs.Common.{sym, subst}
use Rattle.std.proofs.lemmas.Bool.{false≢true}
use Rattle.bench_script.specs.Output.{turn_room}
use Rattle.bench_morning.specs.Stream.{HoldsBy}
use Rattle.bench_morning.specs.declared.Stream.{Stream}
use Rattle.bench_morning.specs.declared.Phase.{Phase}
use Rattle.bench_stream.specs.Feeding.{Ready}

module _ (s : Stream) (kept room : ℕ) where
  pub not_ready : (Ready s kept room → ⊥) → (false ≡ true) ↔ Ready s kept room
  not_ready n = (λ e. absurd (false≢true e), λ r. absurd (n r))

  -- by the phase that the stream is in
  module _ (p : Phase) (e : s.phase ≡ p) where
    pub holds_of : Ready s kept room → HoldsBy p s kept
    holds_of r = subst (λ (x : Phase). HoldsBy x s kept) e r.holds

    pub ready_by : turn_room ≤ room → HoldsBy p s kept → Ready s kept room
    ready_by h k = record { room = h; holds = subst (λ (x : Phase). HoldsBy x s kept) (sym e) k }
