-- What is answered to numbers, by what is answered to the fields that they say; and words and numbers turn into each other without loss.
use Rattle.std.specs.Prelude.{◌≡◌, Bool, true, ℕ, ◌<◌, ◌≤◌}
use Rattle.std.proofs.Common.{sym, ◌∙◌, arith}
use Rattle.std.proofs.Math.Path.{ap, ap₂}
use mathlib.Core.List.{[], ◌∷◌}
use borrow.Author.Tests.{leb-true, le-leb, lt-leb}
use Rattle.laws.specs.Bits.{bit, is_one}
use Rattle.laws.specs.Laws.Bits.{bit_le, is_one_bit, bit_is_one}
use Rattle.laws.specs.Laws.All.{all_of_at, all_of_not, all_of_skip, all_of_last}
use Rattle.word_parts.specs.Packed.{command_word, status_word}
use Rattle.word_answers.specs.Answers.{word_answered, word_refused, if_in_size}
use Rattle.word_answers.specs.Laws.Answers.{sized_no, sized_accepted}
use Rattle.command_words.specs.declared.Command.{Command}
use Rattle.command_words.specs.Command.{command_in_size, command_report, command_fields}
use Rattle.command_words.specs.Laws.Command.{command_fields_word, command_word_fields}
use Rattle.status_words.specs.declared.Status.{Status}
use Rattle.status_words.specs.Status.{status_in_size, status_report, status_fields}
use Rattle.status_words.specs.Laws.Status.{status_fields_word, status_word_fields}
use Rattle.word_numbers.specs.Numbers.{is_bit, command_of, status_of, command_answer, status_answer, command_numbers, status_numbers}

-- a number of one bit, as a bit and back
bit_back : (n : ℕ) → is_bit n ≡ true → bit (is_one n) ≡ n
bit_back n e = bit_is_one n (omega (arith, leb-true n _ e))

-- ---- commands

module _ (address transmit sub last : ℕ) where
  abbrev fields : Command
  fields = command_of address transmit sub last

  -- a field of one bit that is larger is outside its size
  pub transmit_above : 1 < transmit → word_refused 11 ≡ command_answer address transmit sub last
  unfolding command_answer
  transmit_above h =
      sized_no (command_word address transmit sub last) (all_of_not (is_bit transmit ∷ command_in_size fields ∷ []) 0 (lt-leb transmit 1 h))

  -- with it in its size, the fields decide
  pub command_decides : transmit ≤ 1 → command_report fields ≡ command_answer address transmit sub last
  unfolding command_answer command_report
  command_decides h =
      let e = le-leb transmit 1 h in
      ap₂ if_in_size
      (sym (all_of_skip (is_bit transmit) (command_in_size fields ∷ []) e ∙ all_of_last (command_in_size fields)))
      (ap (λ (n : ℕ). command_word address n sub last) (bit_back transmit e))

  -- numbers in their sizes, to their word and back: nothing is lost
  pub command_numbers_word : (w : ℕ) → command_answer address transmit sub last ≡ word_answered w
      → command_numbers (command_fields w) ≡ record { address = address; transmit = transmit; sub = sub; last = last }
  unfolding command_answer
  command_numbers_word w e =
      let tests = is_bit transmit ∷ command_in_size fields ∷ [] in
      let h = sized_accepted _ _ w e in
      let t = bit_back transmit (all_of_at tests h.0 0) in
      let v = ap (λ (n : ℕ). command_word address n sub last) t ∙ h.1 in
      ap (λ (n : ℕ). command_numbers (command_fields n)) (sym v)
      ∙ (ap command_numbers (command_fields_word fields (all_of_at tests h.0 1))
      ∙ ap (λ (n : ℕ). record { address = address; transmit = n; sub = sub; last = last }) t)

-- any word, to its numbers and back
pub command_word_numbers : (w : ℕ) → w < 65536
    → command_answer (command_fields w).address (bit (command_fields w).transmit) (command_fields w).sub (command_fields w).last ≡ word_answered w
command_word_numbers w h =
    let c = command_fields w in
    sym (command_decides c.address (bit c.transmit) c.sub c.last (bit_le c.transmit))
    ∙ (ap (λ (b : Bool). command_report (record { address = c.address; transmit = b; sub = c.sub; last = c.last })) (is_one_bit c.transmit)
    ∙ command_word_fields w h)

-- ---- statuses

module _ (address error status failure : ℕ) where
  abbrev parts : Status
  parts = status_of address error status failure

  pub error_above : 1 < error → word_refused 11 ≡ status_answer address error status failure
  unfolding status_answer
  error_above h =
      sized_no (status_word address error status failure) (all_of_not (is_bit error ∷ is_bit failure ∷ status_in_size parts ∷ []) 0 (lt-leb error 1 h))

  pub failure_above : 1 < failure → word_refused 11 ≡ status_answer address error status failure
  unfolding status_answer
  failure_above h =
      sized_no (status_word address error status failure) (all_of_not (is_bit error ∷ is_bit failure ∷ status_in_size parts ∷ []) 1 (lt-leb failure 1 h))

  pub status_decides : error ≤ 1 → failure ≤ 1 → status_report parts ≡ status_answer address error status failure
  unfolding status_answer status_report
  status_decides h k =
      let e = le-leb error 1 h in
      let f = le-leb failure 1 k in
      ap₂ if_in_size
      (sym (all_of_skip (is_bit error) (is_bit failure ∷ status_in_size parts ∷ []) e
      ∙ (all_of_skip (is_bit failure) (status_in_size parts ∷ []) f ∙ all_of_last (status_in_size parts))))
      (ap₂ (λ (m n : ℕ). status_word address m status n) (bit_back error e) (bit_back failure f))

  pub status_numbers_word : (w : ℕ) → status_answer address error status failure ≡ word_answered w
      → status_numbers (status_fields w) ≡ record { address = address; error = error; status = status; failure = failure }
  unfolding status_answer
  status_numbers_word w e =
      let tests = is_bit error ∷ is_bit failure ∷ status_in_size parts ∷ [] in
      let h = sized_accepted _ _ w e in
      let b = bit_back error (all_of_at tests h.0 0) in
      let f = bit_back failure (all_of_at tests h.0 1) in
      let v = ap₂ (λ (m n : ℕ). status_word address m status n) b f ∙ h.1 in
      ap (λ (n : ℕ). status_numbers (status_fields n)) (sym v)
      ∙ (ap status_numbers (status_fields_word parts (all_of_at tests h.0 2))
      ∙ ap₂ (λ (m n : ℕ). record { address = address; error = m; status = status; failure = n }) b f)

pub status_word_numbers : (w : ℕ) → w < 65536
    → status_answer (status_fields w).address (bit (status_fields w).error) (status_fields w).status (bit (status_fields w).failure) ≡ word_answered w
status_word_numbers w h =
    let s = status_fields w in
    sym (status_decides s.address (bit s.error) s.status (bit s.failure) (bit_le s.error) (bit_le s.failure))
    ∙ (ap₂ (λ (a b : Bool). status_report (record { address = s.address; error = a; status = s.status; failure = b })) (is_one_bit s.error) (is_one_bit s.failure)
    ∙ status_word_fields w h)
