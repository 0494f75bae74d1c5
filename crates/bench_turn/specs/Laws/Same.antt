-- THE STATEMENT OF A TURN FIXES ITS RESULT: state, place and every byte of the output.
use Rattle.std.specs.Prelude.{◌≡◌, Bool, List, ℕ}
use Rattle.std.proofs.Common.{sym, ap, ◌∙◌, subst, ⊎_elim, arith}
use Rattle.exec.specs.Call.{with_state}
use Rattle.exec.specs.Laws.Unique.{meets_same}
use Rattle.exec.specs.declared.Exec.{Exec}
use Rattle.exec.specs.declared.Step.{Step}
use Rattle.bench_script.specs.Script.{said_of}
use Rattle.bench_script.specs.Output.{wrong_text}
use Rattle.put_text.specs.Wrote.{Wrote}
use Rattle.put_text.specs.Laws.Wrote.{wrote_same}
use Rattle.bench_turn.specs.Turn.{letter_of, Asked, call, none, asked_by, answer_text, Takes, Turns}
use Rattle.bench_turn.specs.declared.Turn.{Turn}

takes_same : (e : Exec) (verb : ℕ) (k : Asked) (out : List ℕ) (at : ℕ) (r s : Turn) (m n : List ℕ)
    → Takes e verb k out at r m → Takes e verb k out at s n → (r ≡ s) × (m ≡ n)
takes_same e verb (call k) out at r s m n a b =
    let w = meets_same e k a.step b.step a.words b.words a.meets b.meets in
    let t : answer_text verb a.step a.words ≡ answer_text verb b.step b.words = λ i. answer_text verb (w.0 i) (w.1 i) in
    let u =
    wrote_same out at (answer_text verb b.step b.words) m n r.at s.at
    (subst (λ (x : List ℕ). Wrote out at x m r.at) t a.wrote) b.wrote in
    let x : with_state e r.st ≡ with_state e s.st = sym a.exec ∙ ap (λ (y : Step). y.exec) w.0 ∙ b.exec in
    ((λ i. record { st = (x i).st; at = u.1 i }), u.0)
takes_same e verb none out at r s m n a b =
    let u = wrote_same out at wrong_text m n r.at s.at a.wrote b.wrote in
    let x : r.st ≡ s.st = a.state ∙ sym b.state in
    ((λ i. record { st = x i; at = u.1 i }), u.0)

pub turns_same : (panel : Bool) (e : Exec) (line out : List ℕ) (at : ℕ) (r s : Turn) (m n : List ℕ)
    → Turns panel e line out at r m → Turns panel e line out at s n → (r ≡ s) × (m ≡ n)
turns_same panel e line out at r s m n a b =
    ⊎_elim
    (λ x.
    ⊎_elim (λ y. takes_same e (letter_of (said_of panel line)) (asked_by (said_of panel line)) out at r s m n x.1 y.1) (λ y. absurd (omega (arith, x.0, y.0)))
    b.is)
    (λ x. ⊎_elim (λ y. absurd (omega (arith, x.0, y.0))) (λ y. (x.1 ∙ sym y.1, x.2 ∙ sym y.2)) b.is)
    a.is
