-- WHAT A READ BRINGS: how many bytes fit and, of a reader whose bytes are known, which come. Which come from the system is not for a
-- contract to say.
use Rattle.std.specs.Prelude.{ℕ, ◌≤◌, ◌<◌, ◌≡◌, List, length, take, Option, Result, Ok, Err}
use Rattle.std.specs.Io.KnownBytes.{Consumes, IsAtEnd, Keeps}

-- no more bytes than there is room for; 0 is the end
abbrev pub Brings : {E : Type 0} → ℕ → Result ℕ E → Type 0
Brings room (Ok n) = n ≤ room
Brings room (Err e) = Unit {0}

-- the reader's known bytes lose those that came, and no others; with room it ends only at their end
abbrev pub Takes : {E : Type 0} → Option (List ℕ) → Option (List ℕ) → List ℕ → Result ℕ E → Type 0
Takes old new input (Ok n) = Consumes old new (take n input) × (n ≡ 0 → 0 < length input → IsAtEnd new)
Takes old new input (Err e) = Keeps old new
