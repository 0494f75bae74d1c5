-- Command words and their fields turn into each other without loss.
use Rattle.std.specs.Prelude.{◌≡◌, Bool, true, false, ◌&&◌, [], ◌∷◌, ℕ, ◌/◌, ◌%◌, ◌<◌, ◌≤◌, leb, eqb}
use Rattle.std.proofs.Common.{sym, ◌∙◌, leb-true, le-leb, eqb-true}
use native.Mathlib.Omega.{arith}
use Rattle.std.proofs.lemmas.Bool.{eqb-false}
use Rattle.laws.specs.All.{all_of}
use Rattle.laws.specs.Laws.All.{all_of_at, all_of_skip, all_of_last, and_left, and_right}
use Rattle.laws.specs.Bits.{bit}
use Rattle.laws.specs.Laws.Bits.{bit_below, is_one_bit, bit_is_one}
use Rattle.laws.specs.Cases.{by}
use Rattle.word_parts.specs.Packed.{command_word}
use Rattle.command_words.specs.declared.Command.{Command}
use Rattle.word_answers.specs.Answers.{word_answered, if_in_size}
use Rattle.command_words.specs.Command.{word_of_command, is_mode, last_in_size, command_in_size, command_report, last_of, command_fields}

-- ---- the last field, for a mode command or not: what is written for it is read as it was, and the other way round

last_word : (last : ℕ) → (leb 1 last && leb last 32) ≡ true → last_of false (last % 32) ≡ last
unfolding last_of
last_word last e =
    let low : 1 ≤ last = leb-true 1 last (and_left (leb 1 last) (leb last 32) e) in
    let high : last ≤ 32 = leb-true last 32 (and_right (leb 1 last) (leb last 32) e) in
    by (eqb (last % 32) 0)
    (λ z. rw z (omega (arith, eqb-true (last % 32) 0 z)))
    (λ z. rw z (omega (arith, eqb-false (last % 32) 0 z)))

pub last_there : (mode : Bool) (last : ℕ) → last_in_size mode last ≡ true → last_of mode (last % 32) ≡ last
unfolding last_in_size last_of
last_there true last e = omega (arith, leb-true last 31 e)
last_there false last e = last_word last e

pub last_back : (mode : Bool) (field : ℕ) → field < 32 → last_of mode field % 32 ≡ field
unfolding last_of
last_back true field h = omega arith
last_back false field h =
    by (eqb field 0) (λ z. rw z (omega (arith, eqb-true field 0 z))) (λ z. rw z (omega arith))

pub last_fits : (mode : Bool) (field : ℕ) → field < 32 → last_in_size mode (last_of mode field) ≡ true
unfolding last_in_size last_of
last_fits true field h = le-leb field 31 (omega arith)
last_fits false field h =
    by (eqb field 0) (λ z. rw z)
    (λ z. rw (z, le-leb 1 field (omega (arith, eqb-false field 0 z)), le-leb field 32 (omega arith)))

-- ---- the places of the fields

module _ (address transmit sub last : ℕ) (t : transmit < 2) (s : sub < 32) where
  pub address_at : command_word address transmit sub last / 2048 ≡ address
  unfolding command_word
  address_at = omega arith

  pub transmit_at : command_word address transmit sub last / 1024 % 2 ≡ transmit
  unfolding command_word
  transmit_at = omega arith

  pub sub_at : command_word address transmit sub last / 32 % 32 ≡ sub
  unfolding command_word
  sub_at = omega arith

  pub last_at : command_word address transmit sub last % 32 ≡ last % 32
  unfolding command_word
  last_at = omega arith

-- the last field may be written with or without 32 reduced
pub command_whole : (w last : ℕ) → last % 32 ≡ w % 32 → command_word (w / 2048) (w / 1024 % 2) (w / 32 % 32) last ≡ w
unfolding command_word
command_whole w last e = omega arith

-- ---- both ways

-- what fields in their sizes say
pub record InSize (c : Command) : Type 0 where
  pub address : c.address < 32
  pub sub : c.sub < 32
  pub last : last_in_size (is_mode c.sub) c.last ≡ true

pub in_size : (c : Command) → command_in_size c ≡ true → InSize c
unfolding command_in_size
in_size c e =
    let tests = leb c.address 31 ∷ leb c.sub 31 ∷ last_in_size (is_mode c.sub) c.last ∷ [] in
    record {
      address = omega (arith, leb-true c.address 31 (all_of_at tests e 0));
      sub = omega (arith, leb-true c.sub 31 (all_of_at tests e 1));
      last = all_of_at tests e 2;
    }

-- with the first two in their sizes, the last decides
pub last_decides : (c : Command) → c.address ≤ 31 → c.sub ≤ 31 → last_in_size (is_mode c.sub) c.last ≡ command_in_size c
unfolding command_in_size
last_decides c a s =
    let l = last_in_size (is_mode c.sub) c.last in
    sym (
    all_of_skip (leb c.address 31) (leb c.sub 31 ∷ l ∷ []) (le-leb c.address 31 a)
    ∙ (all_of_skip (leb c.sub 31) (l ∷ []) (le-leb c.sub 31 s) ∙ all_of_last l)
    )

-- fields in their sizes, to their word and back: nothing is lost
pub command_fields_word : (c : Command) → command_in_size c ≡ true → command_fields (word_of_command c) ≡ c
unfolding command_fields
command_fields_word c e =
    let h = in_size c e in
    let t = bit_below c.transmit in
    rw (
      address_at c.address (bit c.transmit) c.sub c.last t h.sub,
      transmit_at c.address (bit c.transmit) c.sub c.last t h.sub,
      sub_at c.address (bit c.transmit) c.sub c.last t h.sub,
      last_at c.address (bit c.transmit) c.sub c.last t h.sub,
      is_one_bit c.transmit,
      last_there (is_mode c.sub) c.last h.last,
    )

-- any word, to its fields and back: the fields are in their sizes, and their word is that word
pub command_word_fields : (w : ℕ) → w < 65536 → command_report (command_fields w) ≡ word_answered w
unfolding command_report command_in_size command_fields all_of if_in_size
command_word_fields w h =
    rw (
      le-leb (w / 2048) 31 (omega arith),
      le-leb (w / 32 % 32) 31 (omega arith),
      last_fits (is_mode (w / 32 % 32)) (w % 32) (omega arith),
      bit_is_one (w / 1024 % 2) (omega arith),
      command_whole w (last_of (is_mode (w / 32 % 32)) (w % 32)) (last_back (is_mode (w / 32 % 32)) (w % 32) (omega arith)),
    )
