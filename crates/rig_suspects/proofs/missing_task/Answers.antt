use Prim.Native.Nat.{ℕ, ◌+◌}
use mathlib.Core.Path.{◌≡◌, sym, ap, ◌∙◌}
use Rattle.std.specs.Prelude.{Some}
use native.Mathlib.Omega.{arith}
use native.Mathlib.Numerals.{add-one}
use native.Mathlib.Nat.{le_antisymm}
use Rattle.laws.specs.All.{all}
use Rattle.laws.specs.Laws.All.{all_zero, all_next}
use Rattle.rig_lines.specs.File.{lines_of}
use Rattle.rig_suspects.specs.Suspects.{Key, lines_from, look_in, task_key, task_count_of, has_t_line, task_missing, counted}
use Rattle.rig_shapes.specs.Laws.{is_so_built, is_not}
use Rattle.rig_suspects.specs.Laws.{look_whole, lowest_at, lowest_none}
use Rattle.rig_suspects.proofs.missing_task.Goals as goal

pub loop-t-init : goal.loop-t-init
loop-t-init c = (c.task_count-n.ensures, omega arith, all_zero (has_t_line (lines_of c.args.s.now)))

pub returns-then-look-t : goal.returns-then-look-t
unfolding task_missing counted
returns-then-look-t c =
    let s = c.args.s.now in
    let i = c.loop-t in
    let q = c.look.ensures ∙ (ap (λ (k : Key). look_in k 0 (lines_from s 0)) c.task_key.ensures ∙ look_whole (task_key (i.t + 1)) 0 s) in
    ap Some (add-one i.t) ∙ sym (ap counted (lowest_at (task_count_of (lines_of s)) (has_t_line (lines_of s)) i.t (omega (arith, i.invariant.0, c.loop-t-test.true)) i.invariant.2 (is_not q (i.t + 1) c.if-look-t.true)))

pub loop-t-preserved : goal.loop-t-preserved
loop-t-preserved c =
    let s = c.args.s.now in
    let i = c.loop-t in
    let q = c.look.ensures ∙ (ap (λ (k : Key). look_in k 0 (lines_from s 0)) c.task_key.ensures ∙ look_whole (task_key (i.t + 1)) 0 s) in
    (i.invariant.0, omega arith, all_next i.t (has_t_line (lines_of s)) i.invariant.2 (is_so_built q (i.t + 1) c.if-look-t.false))

pub returns : goal.returns
unfolding task_missing counted
returns c =
    let s = c.args.s.now in
    let i = c.loop-t in
    let e : i.t ≡ task_count_of (lines_of s) = le_antisymm i.invariant.1 c.loop-t-test.false ∙ i.invariant.0 in
    sym (ap counted (lowest_none (task_count_of (lines_of s)) (has_t_line (lines_of s)) (ap (λ (k : ℕ). all k (has_t_line (lines_of s))) (sym e) ∙ i.invariant.2)))
