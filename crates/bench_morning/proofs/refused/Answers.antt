use mathlib.Core.Logic.{⊎_elim}
use native.Mathlib.Omega.{arith}
use Rattle.bench_morning.proofs.refused.Goals as goal

pub returns : goal.returns
returns c =
    let s = c in
    (c.over.ensures, ⊎_elim (λ p. p.1) (λ p. absurd (omega (arith, p.0, s.requires))) c.put_refused-n.ensures.is)
