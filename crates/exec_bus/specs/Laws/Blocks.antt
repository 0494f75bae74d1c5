-- Blocks: what reading and writing ask, and what they owe.
use Rattle.std.specs.Prelude.{◌≡◌, ◌≢◌, ◌↔◌, Bool, not, List, [], ℕ, ◌+◌, ◌-◌, ◌*◌, ◌<◌, ◌≤◌, eqb, length}
use Rattle.std.proofs.Math.Path.{refl, sym}
use Rattle.std.proofs.Common.{◌∙◌, arith, eqb-true}
use Rattle.std.proofs.Math.Bool.{true, false}
use Rattle.std.proofs.lemmas.Bool.{not-false}
use Rattle.laws.specs.Cases.{or_false}
use Rattle.rules.specs.Bus.{block_at, block_words}
use Rattle.rules.specs.Calls as R
use Rattle.rules_laws.specs.Acceptance.{passed, there_is}
use Rattle.rig.specs.declared.Cycle.{Cycle}
use Rattle.rig.specs.declared.Rig.{Rig}
use Rattle.exec_state.specs.View.{rig_of, view_of}
use Rattle.exec_state.specs.declared.State.{State}
use Rattle.exec_sound.specs.Sound.{SoundParts}
use Rattle.exec_refusals.specs.Rows.{judge, block_rows, wrong_lengths}
use Rattle.exec_outcome.specs.Outcome.{Outcome, refused_by, kept_with, Tells}
use Rattle.exec_outcome.specs.Laws.Meeting.{judged_sound, judged_none, judged_tells, kept_tells}
use Rattle.exec_outcome.specs.Laws.Tables.{read_block_table, write_block_table}

-- the row is there, and its block with so many words lies in the area
pub record Fit (k area words : ℕ) : Type 0 where
  pub some : 0 < k
  pub low : k ≤ 64
  pub room : block_at k + 1 + words ≤ area

-- a call on a block: a writing, or a reading
abbrev pub block_call : Bool → ℕ → List ℕ → List ℕ → R.Call
block_call true k area words = R.write_block k area words
block_call false k area words = R.read_block k area words

-- the code has judged such a call: n is its number
pub record Judged (g : Rig) (cycles : List Cycle) (s : State) (k : ℕ) (area words : List ℕ) (n : ℕ) : Type 0 where
  pub sound : Bool
  pub is : (sound ≡ true) ↔ SoundParts g cycles s
  pub number : n ≡ judge sound (block_rows s.running g.rows g.row k (length area) (length words))

module _ {g : Rig} {cycles : List Cycle} {s : State} {k : ℕ} {area words : List ℕ} {n : ℕ} (j : Judged g cycles s k area words n) where
  abbrev rows : List R.Refusal
  rows = block_rows s.running g.rows g.row k (length area) (length words)

  table : (write : Bool) → R.decide rows ≡ R.refusal (rig_of g cycles) (view_of s) (block_call write k area words)
  table true = write_block_table g cycles s k area words
  table false = read_block_table g cycles s k area words

  pub block_refused : (write : Bool) → n ≢ 0 → (o : Outcome) → o ≡ refused_by s n → (after : List ℕ) → after ≡ R.lent (block_call write k area words)
      → Tells g cycles s (block_call write k area words) o after
  block_refused write z o q after f =
      judged_tells g cycles s j.sound j.is rows n j.number (block_call write k area words) (table write) z o q after f

  -- no number: the record is sound, and the table gives none
  module _ (z : n ≡ 0) where
    sound : SoundParts g cycles s
    sound = judged_sound g cycles s j.sound j.is rows n j.number z

    quiet : 0 ≡ R.decide rows
    quiet = judged_none g cycles s j.sound j.is rows n j.number z

    pub fit : Fit k (length area) (length words)
    fit =
        let p = passed 4 (eqb s.running 0) _ (sym quiet) in
        let q = passed 5 (R.no_such_one g.rows k) _ p.1 in
        let d = passed 9 (wrong_lengths g.rows g.row k (length area) (length words)) [] q.1 in
        let r = there_is g.rows k q.0 in
        let o = or_false (not (eqb (length area) (33 * g.rows))) (not (eqb (length words) (block_words (rig_of g cycles) k))) d.0 in
        let a : length area ≡ 33 * g.rows = eqb-true _ _ (not-false (eqb (length area) (33 * g.rows)) o.0) in
        let b : length words ≡ block_words (rig_of g cycles) k = eqb-true _ _ (not-false (eqb (length words) (block_words (rig_of g cycles) k)) o.1) in
        let w = (sound.rig.rows (k - 1) (omega (arith, r.0, r.1))).words in
        record {
          some = r.0;
          low = omega (arith, r.1, sound.rig.row_count);
          room = omega (arith, a, b, w.1, r.0, r.1);
        }

    pub block_tells : (write : Bool) (o : Outcome) → o ≡ kept_with s 0 → (after : List ℕ)
        → after ≡ (R.output (rig_of g cycles) (view_of s) (block_call write k area words)).lent
        → Tells g cycles s (block_call write k area words) o after
    unfolding R.effect R.ended R.output
    block_tells true o q after f =
        kept_tells g cycles s (R.write_block k area words) sound refl refl tt (quiet ∙ table true) 0 o q after (λ i. record { words = 0; value = 0; lent = sym f i })
    block_tells false o q after f =
        kept_tells g cycles s (R.read_block k area words) sound refl refl tt (quiet ∙ table false) 0 o q after (λ i. record { words = 0; value = 0; lent = sym f i })
