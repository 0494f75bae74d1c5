-- "The monitor keeps its table, and the two are shown to agree on every word."
use Rattle.std.specs.Prelude.{◌≡◌, true, List, ℕ, ◌+◌, ◌/◌, ◌%◌, ◌<◌}
use Rattle.std.proofs.Common.{sym, ap₂, ◌∙◌, arith}
use Rattle.std.specs.Int.Count.{ones}
use Rattle.laws.specs.Tables.{at, follows}
use Rattle.laws.specs.Laws.Tables.{follows_at}
use Rattle.word_parts.specs.Parity.{parity_bit}
use Rattle.word_parts.proofs.Laws.Parity.{parity_bytes}

-- "counting the word's ones"
abbrev pub counted : ℕ → ℕ
counted word = (1 + ones word) % 2

-- "looked up byte by byte": the bit of each byte is its ones plus one, so one is added again
abbrev pub looked_up : List ℕ → ℕ → ℕ
looked_up table word = (1 + at table (word / 256) + at table (word % 256)) % 2

-- On every word of 16 bits the two answers are the same, by any table of 256 entries "whose rule holds at every entry".
pub agree : (table : List ℕ) → follows 256 parity_bit table ≡ true → (word : ℕ) → word < 65536 → counted word ≡ looked_up table word
unfolding parity_bit
agree table rule word h =
    parity_bytes word
    ∙ ap₂ (λ (m n : ℕ). (1 + m + n) % 2)
    (sym (follows_at 256 parity_bit table rule (word / 256) (omega arith)))
    (sym (follows_at 256 parity_bit table rule (word % 256) (omega arith)))
