-- A task's number of overruns: the call's table, that the task is there, and what is told.
use Rattle.std.specs.Prelude.{◌≡◌, ◌≢◌, ◌↔◌, Bool, true, ℕ, ◌≤◌}
use Rattle.std.proofs.Math.Path.{refl, sym}
use Rattle.std.proofs.Common.{◌∙◌}
use mathlib.Core.List.{List, []}
use Rattle.chains.specs.Held.{at}
use Rattle.rig.specs.declared.Cycle.{Cycle}
use Rattle.rig.specs.declared.Rig.{Rig}
use Rattle.rules.specs.Calls as R
use Rattle.rules_laws.specs.Acceptance.{passed, there_is}
use Rattle.exec_state.specs.View.{rig_of, view_of}
use Rattle.exec_state.specs.declared.State.{State}
use Rattle.exec_sound.specs.Sound.{SoundParts}
use Rattle.exec_sound.specs.Laws.RightRig.{rig_ok}
use Rattle.exec_refusals.specs.Rows.{judge, asked_rows}
use Rattle.exec_outcome.specs.Outcome.{Outcome, Tells, refused_by, kept_with}
use Rattle.exec_outcome.specs.Laws.Meeting.{judged_sound, judged_none, judged_tells, kept_tells}

module _ (g : Rig) (cycles : List Cycle) (s : State) (t : ℕ) where
  table : R.decide (asked_rows g.tasks t) ≡ R.refusal (rig_of g cycles) (view_of s) (R.read_overruns t)
  unfolding R.refusal R.refusals
  table = refl

  -- the question as the code judges it
  module _ (sound : Bool) (is : (sound ≡ true) ↔ SoundParts g cycles s) (n : ℕ) (j : n ≡ judge sound (asked_rows g.tasks t)) where
    -- "Refusals: 12, then 6."
    pub refused_asked : n ≢ 0 → (o : Outcome) → o ≡ refused_by s n → Tells g cycles s (R.read_overruns t) o []
    unfolding R.lent
    refused_asked z o e = judged_tells g cycles s sound is (asked_rows g.tasks t) n j (R.read_overruns t) table z o e [] refl

    module _ (z : n ≡ 0) where
      -- there is such a task, and the table has a place for each of the rig
      pub asked_low : (t ≤ g.tasks) × (g.tasks ≤ 64)
      asked_low =
          let h = judged_sound g cycles s sound is (asked_rows g.tasks t) n j z in
          let k = passed 5 (R.no_such_one g.tasks t) [] (sym (judged_none g cycles s sound is (asked_rows g.tasks t) n j z)) in
          ((there_is g.tasks t k.0).1, (rig_ok g cycles h.rig).tasks_le)

      -- the record is what it was, and the task's number is told
      pub told_overruns : (v : ℕ) → v ≡ at s.overruns t → (o : Outcome) → o ≡ kept_with s v → Tells g cycles s (R.read_overruns t) o []
      unfolding R.effect R.ended R.output
      told_overruns v e o q =
          kept_tells g cycles s (R.read_overruns t) (judged_sound g cycles s sound is (asked_rows g.tasks t) n j z) refl refl tt
          (judged_none g cycles s sound is (asked_rows g.tasks t) n j z ∙ table) v o q []
          (λ i. record { words = 0; value = sym e i; lent = [] })
