use Prim.Native.Nat.{ℕ}
use mathlib.Core.Path.{◌≡◌, ◌∙◌, subst}
use mathlib.Core.List.{[], ◌∷◌}
use Rattle.bench_script.specs.Letters.{start_name}
use Rattle.bench_script.specs.Output.{line_text}
use Rattle.put_text.specs.Wrote.{Wrote}
use Rattle.bench_morning.specs.Laws.Start.{printed, begins_refused, never_refused, begins_accepted}
use Rattle.bench_morning.proofs.start.Goals as goal

pub returns-then-a-ne0 : goal.returns-then-a-ne0
returns-then-a-ne0 c =
    let s = c.args in
    let r = c.read-a in
    let w = c.refused in
    let n : c.line_number.result ≡ r.result.line = c.line_number.ensures ∙ printed s.panel s.text.now s.out.now w.new.out r.result r.ensures in
    begins_refused s.panel s.text.now s.out.now w.new.out r.result r.ensures w.result c.if-a-ne0.true w.ensures.0 (subst (λ (m : ℕ). Wrote s.out.now 0 (line_text start_name (r.result.no ∷ m ∷ [])) w.new.out w.result.wrote) n w.ensures.1)

pub returns-in_default : goal.returns-in_default
returns-in_default c =
    let s = c.args in
    let r = c.read-a in
    absurd (never_refused s.panel s.text.now s.out.now s.out.now r.result r.ensures c.if-a-ne0.false c.table_of.result c.table_of.ensures c.start-s.result c.start-s.ensures _ c.in_default.is)

pub returns : goal.returns
returns c =
    let s = c in
    let r = c.read-a in
    let w = c.put_started-n in
    begins_accepted s.args.panel s.args.text.now s.args.out.now w.new.out r.result r.ensures c.if-a-ne0.false c.table_of.result c.table_of.ensures c.start-s.result c.start-s.ensures _ c.in-Accepted.is (record { stream = c.behind.result; wrote = w.result }) s.requires c.behind.ensures w.ensures
