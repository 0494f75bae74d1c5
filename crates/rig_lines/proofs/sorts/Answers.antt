use mathlib.Core.Path.{sym, ap, ◌∙◌}
use native.Mathlib.Omega.{arith}
use Rattle.std.specs.Prelude.{ℕ, ◌+◌, ◌<◌, ◌≡◌, refl, List, eqb, length, get_or, set}
use Rattle.std.proofs.Common.{⊎_elim, eqb-true, get_or-set_same, get_or-set_other}
use Rattle.std.proofs.lemmas.Bool.{eqb-false}
use Rattle.std.proofs.lemmas.List.{length-set}
use Rattle.laws.specs.Cases.{by}
use Rattle.rig_lines.specs.declared.Names.TheVariants.{Task}
use Rattle.rig_lines.specs.Kind.{kind_report, names_number}
use Rattle.rig_lines.specs.Kinds.{sort_of}
use Rattle.rig_lines.specs.Laws.Kind.{numbered, unnumbered, no_number}
use Rattle.rig_lines.specs.Laws.Kinds.{sort_none}
use Rattle.rig_lines.proofs.sorts.Goals as goal

-- one number more
told : (l : List ℕ) (f : ℕ → ℕ) (j n : ℕ) → j < length l → ((i : ℕ) → i < j → get_or l i 0 ≡ f i) → n ≡ f j → (i : ℕ) → i < j + 1 → get_or (set l j n) i 0 ≡ f i
told l f j n h so e i k =
    by (eqb i j)
    (λ t. rw (eqb-true i j t) (get_or-set_same l j n 0 h ∙ e))
    (λ t. get_or-set_other l j i n 0 (eqb-false i j t) ∙ so i (let d = eqb-false i j t in omega arith))

pub returns-in_default : goal.returns-in_default
returns-in_default c = λ j h.
    let n = no_number c.args.k (unnumbered c.args.k (sym (ap kind_report c.in_default.is) ∙ c.numbered.ensures)) in
    ⊎_elim (λ z. sort_none c.args.k j (omega arith) (omega arith) (omega arith) (omega arith) h) (λ z. sort_none c.args.k j (omega arith) (omega arith) (omega arith) (omega arith) h) n

pub loop-j-init : goal.loop-j-init
loop-j-init c = (refl, λ i h. absurd (omega arith))

pub loop-j-preserved : goal.loop-j-preserved
loop-j-preserved c =
    let i = c.loop-j.invariant in
    (length-set c.loop-j.sorts c.loop-j.j c.number.result ∙ i.0, told c.loop-j.sorts (λ n. names_number (get_or c.names-names.result n Task)) c.loop-j.j c.number.result (omega (arith, i.0, c.loop-j-test.true)) i.1 c.number.ensures)

pub returns : goal.returns
returns c = λ i h.
    let k = numbered c.in-Some.kind c.args.k (sym (ap kind_report c.in-Some.is) ∙ c.numbered.ensures) in
    c.loop-j.invariant.1 i (omega (arith, h, c.loop-j-test.false)) ∙ (c.names-names.ensures i h ∙ ap (λ n. sort_of n i) k)
