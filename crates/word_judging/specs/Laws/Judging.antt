-- What judging says of an image.
use Rattle.std.specs.Prelude.{◌≡◌, refl, Bool, true, false, cond, not, ◌||◌, ℕ, ◌+◌, ◌*◌, ◌/◌, ◌%◌, eqb}
use Rattle.std.proofs.Common.{sym, ap, ◌∙◌, true≢false, arith}
use borrow.Author.Tests.{eqb-true, eqb-false, eq-eqb, ne_eqb}
use Rattle.laws.specs.Bits.{is_one}
use Rattle.laws.specs.Cases.{by}
use Rattle.word_parts.specs.Packed.{status_word}
use Rattle.word_parts.specs.Parity.{parity_bit, image_of, word_in, parity_in}
use Rattle.word_parts.proofs.Laws.Parity.{image_word, image_parity}
use Rattle.status_words.specs.declared.Status.{Status}
use Rattle.status_words.specs.Status.{status_fields}
use Rattle.status_words.specs.Laws.Status.{status_whole}
use Rattle.word_judging.specs.declared.Verdict.TheVariants.{Error, Exception, Clean}
use Rattle.word_judging.specs.Judging.{is_error, is_exception, verdict_of}

-- ---- verdicts, each by what leads to it

-- "bad parity"
pub bad_parity : (image address : ℕ) → (parity_in image ≡ parity_bit (word_in image) → ⊥) → Error ≡ verdict_of image address
unfolding verdict_of is_error
bad_parity image address n = rw (ne_eqb (parity_in image) (parity_bit (word_in image)) n)

-- with good parity, by the fields
module _ (image address : ℕ) (good : parity_in image ≡ parity_bit (word_in image)) {s : Status} (f : s ≡ status_fields (word_in image)) where
  -- "or another address"
  pub other_address : (s.address ≡ address → ⊥) → Error ≡ verdict_of image address
  unfolding verdict_of is_error
  other_address n =
      rw (eq-eqb (parity_in image) (parity_bit (word_in image)) good, ← f, ne_eqb s.address address n)

  -- no error: the other fields decide
  pub no_error : s.address ≡ address → (other : Bool) → is_exception s ≡ other → cond other Exception Clean ≡ verdict_of image address
  unfolding verdict_of is_error
  no_error a other e =
      rw (eq-eqb (parity_in image) (parity_bit (word_in image)) good, ← f, eq-eqb s.address address a, e)

-- a word's own image is no error at its own address
pub own_image : (w : ℕ) → cond (is_exception (status_fields w)) Exception Clean ≡ verdict_of (image_of w) (status_fields w).address
own_image w =
    no_error (image_of w) (status_fields w).address
    (image_parity w ∙ ap parity_bit (sym (image_word w)))
    (ap status_fields (sym (image_word w)))
    refl
    (is_exception (status_fields w))
    refl

-- ---- clean, and nothing else, is the image of the address alone

none_set : (error failure : Bool) (status : ℕ) → (error || not (eqb status 0) || failure) ≡ false → (error ≡ false) × (status ≡ 0) × (failure ≡ false)
none_set true failure status = λ e. absurd (true≢false e)
none_set false failure status =
    by (eqb status 0)
    (λ z. rw z (λ e. (refl, eqb-true status 0 z, e)))
    (λ z. rw z (λ e. absurd (true≢false e)))

bare_word : (w : ℕ) → is_exception (status_fields w) ≡ false → w ≡ 2048 * (w / 2048)
unfolding is_exception status_fields status_word
bare_word w e =
    let n = none_set (is_one (w / 1024 % 2)) (is_one (w % 2)) (w / 2 % 512) e in
    omega (
      arith,
      eqb-false (w / 1024 % 2) 1 n.0,
      n.1,
      eqb-false (w % 2) 1 n.2,
      status_whole w,
    )

bare_fields : (address : ℕ) → status_fields (2048 * address) ≡ record { address = address; error = false; status = 0; failure = false }
unfolding status_fields
bare_fields address =
    let a : 2048 * address / 2048 ≡ address = omega arith in
    let e : 2048 * address / 1024 % 2 ≡ 0 = omega arith in
    let s : 2048 * address / 2 % 512 ≡ 0 = omega arith in
    let f : 2048 * address % 2 ≡ 0 = omega arith in
    rw (a, e, s, f)

pub clean_image : (address : ℕ) → Clean ≡ verdict_of (image_of (2048 * address)) address
unfolding is_exception
clean_image address =
    no_error (image_of (2048 * address)) address
    (image_parity (2048 * address) ∙ ap parity_bit (sym (image_word (2048 * address))))
    (sym (bare_fields address) ∙ ap status_fields (sym (image_word (2048 * address))))
    refl
    false
    refl

Exception≢Clean : Exception ≡ Clean → ⊥
Exception≢Clean e = let z : ◌≡◌ {A = ℕ} 0 1 = cc in omega arith

Error≢Clean : Error ≡ Clean → ⊥
Error≢Clean e = let z : ◌≡◌ {A = ℕ} 0 1 = cc in omega arith

pub clean_only : (image address : ℕ) → verdict_of image address ≡ Clean → image ≡ image_of (2048 * address)
unfolding image_of status_fields
clean_only image address c =
    let w = word_in image in
    by (eqb (parity_in image) (parity_bit w))
    (λ p. by (eqb (w / 2048) address)
    (λ a. by (is_exception (status_fields w))
    (λ x. absurd (Exception≢Clean (no_error image address (eqb-true (parity_in image) (parity_bit w) p) refl (eqb-true (w / 2048) address a) true x ∙ c)))
    (λ x.
    let v : w ≡ 2048 * address = bare_word w x ∙ ap (λ n. 2048 * n) (eqb-true (w / 2048) address a) in
    let q : image ≡ w * 2 + parity_bit w = omega (arith, eqb-true (parity_in image) (parity_bit w) p) in
    q ∙ ap (λ n. n * 2 + parity_bit n) v))
    (λ a. absurd (Error≢Clean (other_address image address (eqb-true (parity_in image) (parity_bit w) p) refl (eqb-false (w / 2048) address a) ∙ c))))
    (λ p. absurd (Error≢Clean (bad_parity image address (eqb-false (parity_in image) (parity_bit w) p) ∙ c)))
