use mathlib.Core.Path.{◌≡◌, ◌∙◌, ap, sym}
use Prim.Native.Nat.{ℕ}
use lib.Dec.{eqb}
use borrow.Author.Tests.{ne_eqb}
use Rattle.std.specs.Prelude.{Option, None, Some}
use Rattle.std.specs.Option.{option_eq}
use Rattle.rig_lines.specs.contracts.KindPartialEq.TheImpl.{eq-value}
use Rattle.rig_lines.specs.declared.Kind.{Kind}
use Rattle.rig_lines.specs.Kind.{kind_number, kind_report}
use Rattle.rig_lines.specs.Laws.Kind.{same_kind}
use Rattle.rig_shapes.specs.Laws.{some_kind}
use Rattle.rig_shapes.proofs.fields.has_kind.Goals as goal

same : (o : Option Kind) (k : Kind) → option_eq eq-value.it o (Some k) ≡ eqb (kind_report o) (kind_number k)
same None k = sym (ne_eqb 0 (kind_number k) (λ z. some_kind k (sym z)))
same (Some a) k = same_kind a k

pub returns : goal.returns
returns c = c.eq.ensures ∙ (same c.kind.result c.args.k ∙ ap (λ (n : ℕ). eqb n (kind_number c.args.k)) c.kind.ensures)
