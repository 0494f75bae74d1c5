use borrow.Author.Rules.{rules}
use mathlib.Core.Path.{sym, ◌∙◌}
use borrow.Author.Tests.{not-false}
use Rattle.sound_tables.specs.Exact.{within_facts}
use Rattle.exec_sound.proofs.tables_ok.Goals as goal

pub tree-requires : goal.tree-requires
tree-requires c =
    let rig = c.args.rig.now in (
      c.requires.controller,
      ((within_facts c.args.st.now.state rig.tasks 3 (sym c.within.ensures ∙ not-false _ c.if-not-within.false-raw)).1, c.requires.few),
    )

pub returns-clause-sizes : goal.returns-clause-sizes
returns-clause-sizes c = λ q. record { state = search rules; value = search rules; cond = search rules; wake = search rules; overruns = search rules; low = c.overruns.ensures.low }
