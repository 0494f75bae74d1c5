-- Status words and their fields turn into each other without loss.
use Rattle.std.specs.Prelude.{◌≡◌, true, [], ◌∷◌, ℕ, ◌/◌, ◌%◌, ◌<◌, ◌≤◌, leb}
use Rattle.std.proofs.Common.{sym, ◌∙◌, leb-true, le-leb}
use native.Mathlib.Omega.{arith}
use Rattle.std.proofs.Math.Nat.{div-div-eq-div-mul}
use Rattle.laws.specs.All.{all_of}
use Rattle.laws.specs.Laws.All.{all_of_at, all_of_skip, all_of_last}
use Rattle.laws.specs.Bits.{bit}
use Rattle.laws.specs.Laws.Bits.{bit_below, is_one_bit, bit_is_one}
use Rattle.status_words.specs.declared.Status.{Status}
use Rattle.word_answers.specs.Answers.{word_answered, if_in_size}
use Rattle.word_parts.specs.Packed.{status_word}
use Rattle.status_words.specs.Status.{word_of_status, status_in_size, status_report, status_fields}

-- ---- the places of the fields

module _ (address error status failure : ℕ) (e : error < 2) (s : status < 512) (f : failure < 2) where
  pub address_at : status_word address error status failure / 2048 ≡ address
  unfolding status_word
  address_at = omega arith

  pub error_at : status_word address error status failure / 1024 % 2 ≡ error
  unfolding status_word
  error_at = omega arith

  pub status_at : status_word address error status failure / 2 % 512 ≡ status
  unfolding status_word
  status_at = omega arith

  pub failure_at : status_word address error status failure % 2 ≡ failure
  unfolding status_word
  failure_at = omega arith

pub status_whole : (w : ℕ) → status_word (w / 2048) (w / 1024 % 2) (w / 2 % 512) (w % 2) ≡ w
unfolding status_word
status_whole w = omega (arith, div-div-eq-div-mul w 2 512, div-div-eq-div-mul w 1024 2)

-- ---- both ways

-- what fields in their sizes say
pub record InSize (s : Status) : Type 0 where
  pub address : s.address < 32
  pub status : s.status < 512

pub in_size : (s : Status) → status_in_size s ≡ true → InSize s
unfolding status_in_size
in_size s e =
    let tests = leb s.address 31 ∷ leb s.status 511 ∷ [] in
    record {
      address = omega (arith, leb-true s.address 31 (all_of_at tests e 0));
      status = omega (arith, leb-true s.status 511 (all_of_at tests e 1));
    }

-- with the address in its size, the status decides
pub status_decides : (s : Status) → s.address ≤ 31 → leb s.status 511 ≡ status_in_size s
unfolding status_in_size
status_decides s a =
    sym (all_of_skip (leb s.address 31) (leb s.status 511 ∷ []) (le-leb s.address 31 a) ∙ all_of_last (leb s.status 511))

-- fields in their sizes, to their word and back: nothing is lost
pub status_fields_word : (s : Status) → status_in_size s ≡ true → status_fields (word_of_status s) ≡ s
unfolding status_fields
status_fields_word s e =
    let h = in_size s e in
    let m = bit_below s.error in
    let f = bit_below s.failure in
    rw (
      address_at s.address (bit s.error) s.status (bit s.failure) m h.status f,
      error_at s.address (bit s.error) s.status (bit s.failure) m h.status f,
      status_at s.address (bit s.error) s.status (bit s.failure) m h.status f,
      failure_at s.address (bit s.error) s.status (bit s.failure) m h.status f,
      is_one_bit s.error,
      is_one_bit s.failure,
    )

-- any word, to its fields and back: the fields are in their sizes, and their word is that word
pub status_word_fields : (w : ℕ) → w < 65536 → status_report (status_fields w) ≡ word_answered w
unfolding status_report status_in_size status_fields all_of if_in_size
status_word_fields w h =
    rw (
      le-leb (w / 2048) 31 (omega arith),
      le-leb (w / 2 % 512) 511 (omega arith),
      bit_is_one (w / 1024 % 2) (omega arith),
      bit_is_one (w % 2) (omega arith),
      status_whole w,
    )
