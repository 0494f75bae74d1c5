-- Why a task won't start: the call's table, that the task is there, and what is told.
use Rattle.std.specs.Prelude.{◌≡◌, ◌≢◌, ◌↔◌, Bool, true, ℕ, ◌≤◌}
use Rattle.std.proofs.Math.Path.{refl, sym}
use Rattle.std.proofs.Common.{◌∙◌, arith}
use mathlib.Core.List.{List, []}
use Rattle.rig.specs.declared.Cycle.{Cycle}
use Rattle.rig.specs.declared.Rig.{Rig}
use Rattle.rules.specs.Calls as R
use Rattle.rules_laws.specs.Acceptance.{passed, there_is}
use Rattle.exec_state.specs.View.{rig_of, view_of}
use Rattle.exec_state.specs.declared.State.{State}
use Rattle.start_levels.specs.Levels.{Sized, ReadOff}
use Rattle.start_levels.specs.Laws.Lines.{sized}
use Rattle.start_levels.specs.Laws.Meaning.{meaning}
use Rattle.exec_sound.specs.Sound.{SoundParts}
use Rattle.exec_sound.specs.Laws.RightRig.{rig_ok}
use Rattle.exec_refusals.specs.Rows.{judge, why_rows}
use Rattle.exec_outcome.specs.Outcome.{Outcome, Tells, refused_by, kept_with}
use Rattle.exec_outcome.specs.Laws.Meeting.{judged_sound, judged_none, judged_tells, kept_tells}

module _ (g : Rig) (cycles : List Cycle) (s : State) (t d : ℕ) where
  table : R.decide (why_rows g.tasks s.state t d) ≡ R.refusal (rig_of g cycles) (view_of s) (R.why_not t d)
  unfolding R.refusal R.refusals
  table = refl

  -- the question as the code judges it
  module _ (sound : Bool) (is : (sound ≡ true) ↔ SoundParts g cycles s) (n : ℕ) (j : n ≡ judge sound (why_rows g.tasks s.state t d)) where
    -- "Refusals: 12, then 6, then 8 .., then 11 .."
    pub refused_why : n ≢ 0 → (o : Outcome) → o ≡ refused_by s n → Tells g cycles s (R.why_not t d) o []
    unfolding R.lent
    refused_why z o e = judged_tells g cycles s sound is (why_rows g.tasks s.state t d) n j (R.why_not t d) table z o e [] refl

    module _ (z : n ≡ 0) where
      whole : SoundParts g cycles s
      whole = judged_sound g cycles s sound is (why_rows g.tasks s.state t d) n j z

      none : 0 ≡ R.decide (why_rows g.tasks s.state t d)
      none = judged_none g cycles s sound is (why_rows g.tasks s.state t d) n j z

      -- the rig's numbers are in their sizes, and there is such a task
      pub why_sized : Sized g
      why_sized = sized g cycles whole.rig

      pub why_low : t ≤ 64
      why_low =
          let k = there_is g.tasks t (passed 5 (R.no_such_one g.tasks t) _ (sym none)).0 in
          omega (arith, k.1, (rig_ok g cycles whole.rig).tasks_le)

      -- the record is what it was, and the lowest condition that blocks is told
      pub told_why : (v : ℕ) → ReadOff g s t d v → (o : Outcome) → o ≡ kept_with s v → Tells g cycles s (R.why_not t d) o []
      unfolding R.effect R.ended R.output
      told_why v e o q =
          kept_tells g cycles s (R.why_not t d) whole refl refl tt (none ∙ table) v o q []
          (λ i. record { words = 0; value = sym (meaning g cycles s whole.rig t d v why_low e) i; lent = [] })
