-- THE STATEMENTS FIX THE RESULT: record, reply and lent words that meet what a call or a start owes are equal.
use Rattle.std.specs.Prelude.{◌≡◌, List, ℕ}
use Rattle.std.proofs.Common.{sym, ap, subst, ◌∙◌, inl, ⊎_elim}
use Rattle.rig.specs.declared.Cycle.{Cycle}
use Rattle.rig.specs.declared.Rig.{Rig}
use Rattle.rig.specs.Rules.{Right}
use Rattle.rig.specs.Forms.{table_of}
use Rattle.rig.specs.Laws.Forms.{cycles_of_table}
use Rattle.rules.specs.Calls as R
use Rattle.rig_meaning.proofs.Reading.{read_of}
use Rattle.exec.specs.Laws.Unique.{meets_same}
use Rattle.exec.specs.Starting.{Started, Starts}
use Rattle.exec.specs.Laws.Starting.{starts_same}
use Rattle.exec.specs.declared.Exec.{Exec}
use Rattle.exec.specs.declared.Step.{Step}
use Rattle.host_replies.specs.Told.{coded, Replies, StartReplies, StartRepliesFrom}
use Rattle.rig_meaning.proofs.Laws.Read.{read_right}
use Rattle.host_replies.specs.declared.Coded.{Coded}

pub replies_same : (x : Exec) (k : R.Call) (r s : Coded) (u v : List ℕ) → Replies x k r u → Replies x k s v → (r ≡ s) × (u ≡ v)
replies_same x k r s u v a b =
    let e = meets_same x k a.step b.step u v a.meets b.meets in
    (a.told ∙ (ap coded e.0 ∙ sym b.told), e.1)

starts_of : (g : Rig) (rows : List Cycle) → Right g rows → (r : Step) → Started g rows r → Starts g (table_of rows) r
starts_of g rows h r w =
    let e = sym (cycles_of_table rows) in
    record { is = inl (subst (Right g) e h, subst (λ (l : List Cycle). Started g l r) e w) }

begins_same : (g : Rig) (rows : List Cycle) → Right g rows → (r s : Coded) → StartReplies g rows r → StartReplies g rows s → r ≡ s
begins_same g rows h r s a b =
    let e =
    starts_same g (table_of rows) a.step b.step (starts_of g rows h a.step a.started) (starts_of g rows h b.step b.started) in
    a.told ∙ (ap coded e ∙ sym b.told)

pub begins_from_same : (file : List ℕ) (r s : Coded) → StartRepliesFrom file r → StartRepliesFrom file s → r ≡ s
begins_from_same file r s a b =
    ⊎_elim
    (λ p. ⊎_elim (λ q. begins_same (read_of file).rig (read_of file).cycles (read_right file p.0) r s p.1 q.1) (λ q. absurd (q.0 p.0)) b.is)
    (λ p. ⊎_elim (λ q. absurd (p.0 q.0)) (λ q. p.1 ∙ sym q.1) b.is)
    a.is
