-- Laws: the bytes of the script, one after the other.
use Rattle.std.specs.Prelude.{ℕ, ◌+◌, ◌-◌, ◌≤◌, ◌<◌, ◌≡◌, refl, Bool, List, [], ◌++◌, eqb, length, get_or, take}
use Rattle.std.proofs.Common.{sym, ap, ◌∙◌, append-nil, arith, length-take, eqb-true, eq-eqb, ne_eqb}
use Rattle.std.proofs.lemmas.Bool.{eqb-false}
use Rattle.laws.specs.Cases.{by, if_yes, if_no}
use Rattle.rules.specs.Rig as G
use Rattle.rules.specs.State as S
use Rattle.exec.specs.Sound.{rig_in, view, SoundRecord}
use Rattle.exec.specs.Call.{with_state}
use Rattle.exec.specs.declared.Exec.{Exec}
use Rattle.bench_script.specs.Letters.{lf}
use Rattle.bench_script.specs.Output.{turn_room}
use Rattle.put_text.specs.Wrote.{Wrote}
use Rattle.put_text.specs.Laws.Wrote.{wrote_then, wrote_as, wrote_none, wrote_fits}
use Rattle.bench_input.specs.Line.{line_room, with_more, Holds}
use Rattle.bench_turn.specs.Turn.{turn_text, turn_next, Turns}
use Rattle.bench_turn.specs.Laws.Ruled.{turn_ruled}
use Rattle.bench_turn.specs.declared.Turn.{Turn}
use Rattle.bench_morning.specs.Desk.{Desk, talking, next, says, desk_after, said}
use Rattle.bench_morning.specs.Laws.Desk.{after_more, said_more}

-- a record with a line so far
abbrev pub at_line : Bool → Exec → List ℕ → Desk
at_line panel e line = talking panel (rig_in e) (view e) line

-- ---- one byte

turn_next_lem : (panel : Bool) (r : G.Rig) (s : S.State) (line : List ℕ) (b : ℕ) → b ≡ lf → next (talking panel r s line) b ≡ talking panel r (turn_next panel r s line) []
unfolding next
turn_next_lem panel r s line b e = if_yes (talking panel r s (with_more line b)) (eq-eqb b lf e) refl

turn_says : (panel : Bool) (r : G.Rig) (s : S.State) (line : List ℕ) (b : ℕ) → b ≡ lf → says (talking panel r s line) b ≡ turn_text panel r s line
unfolding says
turn_says panel r s line b e = if_yes [] (eq-eqb b lf e) refl

byte_next : (panel : Bool) (r : G.Rig) (s : S.State) (line : List ℕ) (b : ℕ) → (b ≡ lf → ⊥) → next (talking panel r s line) b ≡ talking panel r s (with_more line b)
unfolding next
byte_next panel r s line b n = if_no (talking panel r (turn_next panel r s line) []) (ne_eqb b lf n) refl

byte_says : (panel : Bool) (r : G.Rig) (s : S.State) (line : List ℕ) (b : ℕ) → (b ≡ lf → ⊥) → says (talking panel r s line) b ≡ []
unfolding says
byte_says panel r s line b n = if_no (turn_text panel r s line) (ne_eqb b lf n) refl

-- ---- the loop

-- d is where the piece began
pub record Talking (panel : Bool) (d : Desk) (piece out : List ℕ) (place : ℕ) (now : List ℕ) (e : Exec) (line : List ℕ) (held at i : ℕ) : Type 0 where
  pub desk : at_line panel e (take held line) ≡ desk_after d (take i piece)
  pub wrote : Wrote out place (said d (take i piece)) now at
  pub roomy : (k : ℕ) → k < i → place + length (said d (take k piece)) + turn_room ≤ length out
  pub inside : i ≤ length piece
  pub high : held ≤ line_room
  pub size : length line ≡ line_room
  pub sound : SoundRecord e
  pub room : place ≤ length out

pub talking_start : (panel : Bool) (e : Exec) (line : List ℕ) (held : ℕ) (piece out : List ℕ) (place : ℕ) → held ≤ line_room → length line ≡ line_room → SoundRecord e → place ≤ length out
    → Talking panel (at_line panel e (take held line)) piece out place out e line held place 0
unfolding desk_after said
talking_start panel e line held piece out place h k s p =
    record {
      desk = refl;
      wrote = wrote_none out place;
      roomy = λ k l. let z : ⊥ = omega arith in absurd z;
      inside = omega arith;
      high = h;
      size = k;
      sound = s;
      room = p;
    }

module _ (panel : Bool) (d : Desk) (piece out : List ℕ) (place : ℕ) (now : List ℕ) (e : Exec) (line : List ℕ) (held at i : ℕ)
    (w : Talking panel d piece out place now e line held at i) where
  -- the bytes of the line so far
  pub prefix : held ≡ length (take held line)
  prefix = let h = w.high in let s = w.size in rw length-take (omega arith)

  module _ (h : i < length piece) (roomy_here : at + turn_room ≤ length now) where
    -- there was room here too
    rooms : (k : ℕ) → k < i + 1 → place + length (said d (take k piece)) + turn_room ≤ length out
    rooms k l =
        by (eqb k i)
        (λ t. let q : k ≡ i = eqb-true k i t in
        let a : length (said d (take k piece)) ≡ length (said d (take i piece)) = ap (λ (n : ℕ). length (said d (take n piece))) q in
        let b = w.wrote.place in
        let c = w.wrote.size in
        omega arith)
        (λ t. w.roomy k (let n = eqb-false k i t in omega arith))

    desk_more : desk_after d (take (i + 1) piece) ≡ next (at_line panel e (take held line)) (get_or piece i 0)
    desk_more = after_more d piece i h ∙ ap (λ (x : Desk). next x (get_or piece i 0)) (sym w.desk)

    text_more : said d (take (i + 1) piece) ≡ said d (take i piece) ++ says (at_line panel e (take held line)) (get_or piece i 0)
    text_more = said_more d piece i h ∙ ap (λ (x : Desk). said d (take i piece) ++ says x (get_or piece i 0)) (sym w.desk)

    -- a line's end: its turn
    pub talking_turn : get_or piece i 0 ≡ lf → (r : Turn) (then : List ℕ) → Turns panel e (take held line) now at r then
        → Talking panel d piece out place then (with_state e r.st) line 0 r.at (i + 1)
    talking_turn q r then t =
        let u = turn_ruled panel e w.sound (take held line) now at r then roomy_here t in
        let text = turn_text panel (rig_in e) (view e) (take held line) in
        let a = wrote_fits now at text then r.at (omega arith) u.wrote in
        let b = w.wrote.place in
        let c = w.wrote.size in
        let fits : place + length (said d (take i piece)) + length text ≤ length out = omega arith in
        record {
          desk =
              ap (λ (x : S.State). talking panel (rig_in e) x []) u.shows
              ∙ sym (turn_next_lem panel (rig_in e) (view e) (take held line) (get_or piece i 0) q) ∙ sym desk_more;
          wrote =
              wrote_as out then (said d (take i piece) ++ text) (said d (take (i + 1) piece)) place r.at
              (sym (text_more ∙ ap (λ (l : List ℕ). said d (take i piece) ++ l) (turn_says panel (rig_in e) (view e) (take held line) (get_or piece i 0) q)))
              (wrote_then out now then (said d (take i piece)) text place at r.at fits w.wrote u.wrote);
          roomy = rooms;
          inside = omega arith;
          high = omega arith;
          size = w.size;
          sound = u.sound;
          room = w.room;
        }

    -- any other byte
    pub talking_byte : (get_or piece i 0 ≡ lf → ⊥) → (then : List ℕ) (n : ℕ) → Holds line held (get_or piece i 0) then n
        → Talking panel d piece out place now e then n at (i + 1)
    talking_byte q then n t =
        record {
          desk =
              ap (λ (l : List ℕ). at_line panel e l) t.is
              ∙ sym (byte_next panel (rig_in e) (view e) (take held line) (get_or piece i 0) q) ∙ sym desk_more;
          wrote =
              wrote_as out now (said d (take i piece)) (said d (take (i + 1) piece)) place at
              (sym (text_more ∙ ap (λ (l : List ℕ). said d (take i piece) ++ l) (byte_says panel (rig_in e) (view e) (take held line) (get_or piece i 0) q) ∙ append-nil (said d (take i piece))))
              w.wrote;
          roomy = rooms;
          inside = omega arith;
          high = t.high;
          size = t.size ∙ w.size;
          sound = w.sound;
          room = w.room;
        }
