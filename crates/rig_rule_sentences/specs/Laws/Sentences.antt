-- Laws of the definitions of Sentences.antt: a number that the table does not have.
use Rattle.std.specs.Prelude.{ℕ, ◌≡◌, refl, ◌≢◌, eqb}
use Rattle.std.proofs.Common.{ne_eqb, eqb-true}
use Rattle.laws.specs.Cases.{by}
use Rattle.rig_culprits.specs.Culprits.{rule_number, rule_of}
use Rattle.rig_rule_sentences.specs.Sentences.{other_rule_text, rule_sentence}

pub no_other_rule : (n : ℕ) → n ≢ 1 → n ≢ 2 → n ≢ 3 → n ≢ 4 → n ≢ 5 → n ≢ 21 → n ≢ 22 → n ≢ 23 → n ≢ 24 → n ≢ 25 → n ≢ 26 → n ≢ 27 → other_rule_text ≡ rule_sentence n
unfolding rule_sentence
no_other_rule n a1 a2 a3 a4 a5 a21 a22 a23 a24 a25 a26 a27 =
    rw (ne_eqb n 1 a1, ne_eqb n 2 a2, ne_eqb n 3 a3, ne_eqb n 4 a4, ne_eqb n 5 a5, ne_eqb n 21 a21, ne_eqb n 22 a22, ne_eqb n 23 a23, ne_eqb n 24 a24, ne_eqb n 25 a25, ne_eqb n 26 a26, ne_eqb n 27 a27)

-- the number that the reader gives a rule has the sentence of the rule
pub sentence_of : (n : ℕ) → rule_sentence (rule_number (rule_of n)) ≡ rule_sentence n
unfolding rule_sentence rule_of
sentence_of n =
    by (eqb n 1) (λ e. rw (eqb-true n 1 e) refl)
    (λ e1. by (eqb n 2) (λ e. rw (eqb-true n 2 e) refl)
    (λ e2. by (eqb n 3) (λ e. rw (eqb-true n 3 e) refl)
    (λ e3. by (eqb n 4) (λ e. rw (eqb-true n 4 e) refl)
    (λ e4. by (eqb n 5) (λ e. rw (eqb-true n 5 e) refl)
    (λ e5. by (eqb n 21) (λ e. rw (eqb-true n 21 e) refl)
    (λ e6. by (eqb n 22) (λ e. rw (eqb-true n 22 e) refl)
    (λ e7. by (eqb n 23) (λ e. rw (eqb-true n 23 e) refl)
    (λ e8. by (eqb n 24) (λ e. rw (eqb-true n 24 e) refl)
    (λ e9. by (eqb n 25) (λ e. rw (eqb-true n 25 e) refl)
    (λ e10. by (eqb n 26) (λ e. rw (eqb-true n 26 e) refl)
    (λ e11. by (eqb n 27) (λ e. rw (eqb-true n 27 e) refl)
    (λ e12. rw (e1, e2, e3, e4, e5, e6, e7, e8, e9, e10, e11, e12) refl))))))))))))
