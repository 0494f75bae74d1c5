-- THE WIRING SHEET (L11): "how often a terminal is spoken to". "64 minor cycles a major frame": in which cycles of a frame a row is due and a
-- terminal is spoken to, and how often in the whole frame. Cycle c has the counts that are c modulo 64; that any 64 accepted ticks in a row of
-- any run come to what is said here of one frame: theorem wired, crate runs.
use Rattle.std.specs.Prelude.{List, ℕ, ◌/◌, eqb}
use Rattle.laws.specs.Bits.{bit}
use Rattle.laws.specs.Tables.{how_many, sum}
use Rattle.word_parts.specs.Packed.{past_eleven}
use Rattle.rules.specs.Sizes.{minor_cycles}
use Rattle.rules.specs.Rig.{Row}
use Rattle.rules.specs.Bus.{row_due, bus_words}

-- what the cycles of a frame have together
abbrev pub a_frame : (ℕ → ℕ) → ℕ
a_frame in_cycle = sum minor_cycles in_cycle

-- a row is due in a cycle once, or not at all
abbrev pub due_in : Row → ℕ → ℕ
due_in b cycle = bit (row_due b cycle)

-- how many of the command words speak to the terminal at an address: "Command word, high bits first: address 5"
unfoldable pub commands_to : ℕ → List ℕ → ℕ
commands_to address words = how_many (λ (word : ℕ). eqb (word / past_eleven) address) words

-- how many of the bus words of a cycle
abbrev pub commands_in : ℕ → ℕ → (ℕ → Row) → ℕ → ℕ → ℕ
commands_in rows master row address cycle = commands_to address (bus_words rows master row cycle)

-- how often in a frame: a row, a terminal
unfoldable pub times_a_frame : Row → ℕ
times_a_frame b = a_frame (due_in b)

unfoldable pub commands_a_frame : ℕ → ℕ → (ℕ → Row) → ℕ → ℕ
commands_a_frame rows master row address = a_frame (commands_in rows master row address)
