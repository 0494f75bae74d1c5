-- THE RIG'S TEXT AS IT COMES, byte by byte: it ends before the line RUN, which is known once that line's LF has come; or more
-- bytes have come than a rig and that line may have.
use Rattle.std.specs.Prelude.{ℕ, ◌+◌, ◌≤◌, ◌<◌, ◌≡◌, Bool, cond, ◌&&◌, false, List, [], ◌∷◌, ◌++◌, eqb, length, take, drop}
use Rattle.bench_script.specs.Letters.{lf}
use Rattle.bench_script.specs.Input.{is_run}
use Rattle.put_text.specs.Wrote.{Wrote}
use Rattle.bench_input.specs.declared.Kept.{Kept}

-- the line RUN has three letters and LF
abbrev pub run_line : ℕ
run_line = 4

-- "rig file up to 40,960 bytes"
abbrev pub rig_limit : ℕ
rig_limit = 40960

-- so many bytes, with no line RUN among them, are no rig
abbrev pub full : ℕ
full = 40964

-- the text so far, with the place where its last line starts; or the rig's whole text
pub data Opening : Type 0 where
  still : List ℕ → ℕ → Opening
  whole : List ℕ → Opening

-- the byte ends the line RUN
unfoldable pub run_ends_at : List ℕ → ℕ → ℕ → Bool
run_ends_at text from b = eqb b lf && is_run (drop from text)

-- where the last line starts once the byte stands before `at`
unfoldable pub line_start : ℕ → ℕ → ℕ → ℕ
line_start from at b = cond (eqb b lf) at from

-- one byte more
unfoldable pub with_byte : List ℕ → ℕ → ℕ → Opening
with_byte text from b =
    cond (run_ends_at text from b) (whole (take from text))
    (cond (eqb (length text + 1) full) (whole (text ++ (b ∷ [])))
    (still (text ++ (b ∷ [])) (line_start from (length text + 1) b)))

-- after some bytes: the text goes on; or it is whole, and these bytes stand behind it
pub data Scanned : Type 0 where
  waits : List ℕ → ℕ → Scanned
  opens : List ℕ → List ℕ → Scanned

abbrev pub onward : Opening → (List ℕ → ℕ → Scanned) → List ℕ → Scanned
onward (still text from) go bytes = go text from
onward (whole text) go bytes = opens text bytes

unfoldable pub scanned : List ℕ → ℕ → List ℕ → Scanned
scanned text from [] = waits text from
scanned text from (b ∷ bytes) = onward (with_byte text from b) (λ t f. scanned t f bytes) bytes

-- what the scan of a piece leaves: the bytes that it took stand behind those that were kept, and the text goes on or is whole
pub record Scans (keep : List ℕ) (start line : ℕ) (piece : List ℕ) (r : Kept) (kept : List ℕ) : Type 0 where
  pub wrote : Wrote keep start (take r.took piece) kept r.at
  pub is : scanned (take start keep) line piece
      ≡ cond r.ready (opens (take r.from kept) (drop r.took piece)) (waits (take r.at kept) r.from)
  pub took : r.took ≤ length piece
  pub inside : (r.from ≤ r.at) × (r.at ≤ full)
  pub goes : r.ready ≡ false → (r.took ≡ length piece) × (r.at < full)
