use mathlib.Core.Path.{◌∙◌, refl}
use Prim.Native.Nat.{◌+◌, ◌%◌}
use native.Mathlib.Omega.{arith}
use lib.ListN.{length}
use Rattle.std.proofs.lemmas.Slice.{put_mid-paste}
use Rattle.rules.specs.Bus.{written, block_at}
use Rattle.compool.specs.Laws.Blocks.{pasted_done, tagged}
use Rattle.compool.proofs.write_block.Goals as goal

pub returns : goal.returns
unfolding written
returns c =
    let a = c.args in
    put_mid-paste (block_at a.k + 1) _ _ _ a.words.now (length a.words.now) c.copy_from_slice.ensures.after (omega arith) refl
    ∙ pasted_done _ (block_at a.k + 1) a.words.now
    ∙ tagged a.area.now (block_at a.k) (a.count % 65536) a.words.now c.requires.2
