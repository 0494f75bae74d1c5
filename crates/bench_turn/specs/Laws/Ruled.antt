-- A TURN OF A SOUND RECORD is what the rules say: its line, the state that it shows, and that it is sound.
use Rattle.std.specs.Prelude.{◌≡◌, Bool, List, ℕ, ◌+◌, ◌≤◌, length}
use Rattle.std.proofs.Common.{sym, ap, ◌∙◌, subst, ⊎_elim, arith}
use Rattle.rules.specs.State as S
use Rattle.rules.specs.Calls as R
use Rattle.exec_state.specs.View.{view_of}
use Rattle.exec.specs.Sound.{rig_in, view, SoundRecord}
use Rattle.exec.specs.Call.{Follows}
use Rattle.exec.specs.Call.{with_state}
use Rattle.exec.specs.declared.Exec.{Exec}
use Rattle.exec.specs.declared.Step.{Step}
use Rattle.bench_script.specs.Script.{said_of}
use Rattle.bench_script.specs.Output.{turn_room}
use Rattle.put_text.specs.Wrote.{Wrote}
use Rattle.put_text.specs.Laws.Wrote.{wrote_as}
use Rattle.bench_show.specs.Shown.{text_of}
use Rattle.bench_turn.specs.Turn.{letter_of, Asked, call, none, asked_by, answer_text, step_text, asked_text, asked_next, turn_text, turn_next, Takes, Turns}
use Rattle.bench_turn.specs.declared.Turn.{Turn}

pub record Ruled (e : Exec) (text : List ℕ) (next : S.State) (out : List ℕ) (at : ℕ) (r : Turn) (after : List ℕ) : Type 0 where
  pub wrote : Wrote out at text after r.at
  pub shows : view_of r.st ≡ next
  pub sound : SoundRecord (with_state e r.st)

-- the line of a call that followed the rules
followed : (e : Exec) (verb : ℕ) (k : R.Call) (s : Step) (ws : List ℕ) → Follows e k s ws
    → answer_text verb s ws ≡ step_text verb (R.step (rig_in e) (view e) k)
followed e verb k s ws f = λ i. text_of verb (f.answer i) (f.next i).count (f.next i).running (f.lent i)

takes_ruled : (e : Exec) → SoundRecord e → (verb : ℕ) (a : Asked) (out : List ℕ) (at : ℕ) (r : Turn) (after : List ℕ) → Takes e verb a out at r after
    → Ruled e (asked_text (rig_in e) (view e) verb a) (asked_next (rig_in e) (view e) a) out at r after
unfolding asked_text asked_next
takes_ruled e h verb (call k) out at r after t =
    ⊎_elim
    (λ w. let f = w.1 in
    record {
      wrote = wrote_as out after (answer_text verb t.step t.words) (step_text verb (R.step (rig_in e) (view e) k)) at r.at (followed e verb k t.step t.words f) t.wrote;
      shows = sym (ap view t.exec) ∙ f.next;
      sound = subst SoundRecord t.exec f.sound;
    })
    (λ w. absurd (w.0 h))
    t.meets.is
takes_ruled e h verb none out at r after t =
    record { wrote = t.wrote; shows = ap view_of t.state; sound = subst (λ s. SoundRecord (with_state e s)) (sym t.state) h }

pub turn_ruled : (panel : Bool) (e : Exec) → SoundRecord e → (line out : List ℕ) (at : ℕ) (r : Turn) (after : List ℕ) → at + turn_room ≤ length out → Turns panel e line out at r after
    → Ruled e (turn_text panel (rig_in e) (view e) line) (turn_next panel (rig_in e) (view e) line) out at r after
unfolding turn_text turn_next
turn_ruled panel e h line out at r after k t =
    ⊎_elim (λ w. takes_ruled e h (letter_of (said_of panel line)) (asked_by (said_of panel line)) out at r after w.1) (λ w. absurd (omega (arith, w.0))) t.is
