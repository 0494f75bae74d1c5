use Rattle.std.proofs.Common.{rules, ◌≡◌, refl, ◌∙◌, arith, le-leb}
use Rattle.std.specs.Prelude.{ℕ, zero, suc, cond, leb}
use Rattle.rules.specs.State.{active}
use Rattle.sound_tasks.proofs.active_of.Goals as goal

active_cond : (n : ℕ) → cond (leb 2 n) 1 0 ≡ active n
active_cond zero = refl
active_cond (suc zero) = refl
active_cond (suc (suc n)) = rw (le-leb 2 (suc (suc n)) (omega arith)) refl

pub returns : goal.returns
returns c =
    let told : c.from.result ≡ cond (leb 2 c.args.state) 1 0 = search rules in
    told ∙ active_cond c.args.state
