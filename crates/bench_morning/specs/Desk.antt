-- THE MORNING BYTE BY BYTE: where it stands after some bytes, what each byte decides, and what the end of the input decides.
use Rattle.std.specs.Prelude.{ℕ, Bool, cond, List, [], ◌∷◌, ◌++◌, eqb}
use Rattle.rules.specs.Rig as G
use Rattle.rules.specs.State as S
use Rattle.rules.specs.Calls as R
use Rattle.rig_build.specs.declared.Answer.{Answer}
use Rattle.rig_meaning.proofs.Reading.{read_of}
use Rattle.bench_script.specs.Letters.{lf}
use Rattle.bench_input.specs.Opening.{Opening, still, whole, with_byte}
use Rattle.bench_input.specs.Line.{with_more, last_text}
use Rattle.bench_turn.specs.Turn.{turn_text, turn_next}
use Rattle.bench_morning.specs.Morning.{file_rig, start_text}

-- in the rig's text, with the place where its last line starts; in the script, with the line so far; or behind a refused rig. The first
-- field says whether the panel's verbs are on.
pub data Desk : Type 0 where
  opening : Bool → List ℕ → ℕ → Desk
  talking : Bool → G.Rig → S.State → List ℕ → Desk
  over : Desk

abbrev pub begun : Bool → Desk
begun panel = opening panel [] 0

-- behind the line START
unfoldable pub desk_started : Bool → Answer → Desk
desk_started panel a = cond (eqb a.no 0) (talking panel (file_rig a) (R.start (file_rig a)) []) over

abbrev pub opened : Bool → Opening → Desk
opened panel (still text from) = opening panel text from
opened panel (whole text) = desk_started panel (read_of text)

abbrev pub opened_text : Opening → List ℕ
opened_text (still text from) = []
opened_text (whole text) = start_text (read_of text)

-- one byte more
unfoldable pub next : Desk → ℕ → Desk
next (opening panel text from) b = opened panel (with_byte text from b)
next (talking panel r s line) b = cond (eqb b lf) (talking panel r (turn_next panel r s line) []) (talking panel r s (with_more line b))
next over b = over

unfoldable pub says : Desk → ℕ → List ℕ
says (opening panel text from) b = opened_text (with_byte text from b)
says (talking panel r s line) b = cond (eqb b lf) (turn_text panel r s line) []
says over b = []

-- after bytes
unfoldable pub desk_after : Desk → List ℕ → Desk
desk_after d [] = d
desk_after d (b ∷ bytes) = desk_after (next d b) bytes

unfoldable pub said : Desk → List ℕ → List ℕ
said d [] = []
said d (b ∷ bytes) = says d b ++ said (next d b) bytes

-- the input has ended
unfoldable pub last_said : Desk → List ℕ
last_said (opening panel text from) = start_text (read_of text)
last_said (talking panel r s line) = last_text line
last_said over = []
