use mathlib.Core.Path.{sym, ap, ◌∙◌}
use native.Mathlib.Omega.{arith}
use Rattle.std.specs.Prelude.{◌*◌, get_or}
use Rattle.rig_lines.specs.Kind.{kind_report}
use Rattle.rig_lines.specs.Laws.Kind.{numbered, unnumbered}
use Rattle.rig_build.specs.Laws.Known.{known_none, known_on, known_off, few_on, nine_in, begins_on, begins_off}
use Rattle.rig_build.proofs.known_in.Goals as goal
use Rattle.rig_build.proofs.known_in.Goals.{in-Some, in_default}

pub loop-i-init : goal.loop-i-init
loop-i-init c = rw c.none-held.ensures (known_none c.args.lines.now, omega arith, λ h. absurd (omega arith))

pub loop-i-preserved : goal.loop-i-preserved
loop-i-preserved c =
    let so = c.loop-i.invariant in
    let l = c.args.lines.now in
    let i = c.loop-i.i in
    elim c.match-numbered.branch [
      | in-Some w ↦
          let k = numbered w.in-Some.kind (get_or l (10 * i) 0) (sym (ap kind_report w.in-Some.is) ∙ c.numbered.ensures) in
          let v = nine_in l (10 * i) (omega (arith, c.loop-i-test.true, c.requires.1, c.told-lines)) in
          rw (w.held-is, w.hold.ensures) (known_on l i _ so.0 w.in-Some.kind _ k v, few_on _ _ _ so.1, λ h. begins_on l i _ w.in-Some.kind _ c.requires.2 so.1 so.2 k)
      | in_default w ↦
          let n = unnumbered (get_or l (10 * i) 0) (sym (ap kind_report w.in_default.is) ∙ c.numbered.ensures) in
          rw w.held-is (known_off l i _ so.0 n, omega (arith, so.1), λ h. begins_off l i _ c.requires.2 so.2 n)
    ]
