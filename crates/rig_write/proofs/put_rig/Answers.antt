use Prim.Native.Nat.{◌+◌, ◌≤◌}
use mathlib.Core.Path.{sym, subst}
use mathlib.Core.List.{List}
use Prim.Native.Nat.{ℕ}
use lib.ListN.{length}
use Rattle.put_text.specs.Laws.Wrote.{wrote_as}
use Rattle.rig_write.specs.Laws.Lines.{rig_text_lem}
use Rattle.rig_write.proofs.put_rig.Goals as goal

pub put_line-requires : goal.put_line-requires
put_line-requires c =
    let s = c in
    subst (λ (t : List ℕ). s.args.at + length t ≤ length s.args.buf.now) (sym (rig_text_lem s.args.g.now)) s.requires

pub returns : goal.returns
returns c =
    let s = c in
    wrote_as _ _ _ _ _ _ (rig_text_lem s.args.g.now) c.put_line.ensures
