use mathlib.Core.Path.{◌≡◌, ◌∙◌, ap}
use Prim.Native.Nat.{ℕ, ◌+◌, ◌-◌}
use native.Mathlib.Omega.{arith}
use lib.ListN.{length, take, drop}
use Rattle.rules.specs.Bus.{copied, block_at}
use Rattle.compool.proofs.read_block.Goals as goal

pub returns : goal.returns
unfolding copied
returns c =
    let a = c.args in
    let at = block_at a.k + 1 in
    let e : at + length a.buffer.now - at ≡ length a.buffer.now = omega arith in
    c.copy_from_slice.ensures.after ∙ ap (λ (n : ℕ). take n (drop at a.area.now)) e
