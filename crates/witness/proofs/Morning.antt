-- THE BENCH MORNING'S RIG, from its file to the rules: the file is accepted, its rig is right, and the rules see in it the rig
-- of their own bench morning.
use Rattle.std.specs.Prelude.{◌≡◌, refl, Bool, true, false, cond, [], ◌∷◌, ℕ, ◌≤◌, eqb, get_or}
use Rattle.std.proofs.Common.{sym, ◌∙◌, ap, arith, ne_eqb}
use Rattle.std.proofs.Math.ListN.{get_or-eq_default}
use Rattle.text.specs.Split.{led}
use Rattle.decimal.specs.Decimal.{dec_by, dec}
use Rattle.rig.specs.Laws.Forms.{table_of_cycles}
use Rattle.rig_lines.specs.Kinds.{name_of}
use Rattle.rig_lines.specs.Text.{line_bytes, text}
use Rattle.rig_build.specs.Read.{file_accepted}
use Rattle.rig_meaning.proofs.Reading.{read_of}
use Rattle.rig_write.specs.Kept.{kept}
use Rattle.rig_write.specs.File.{lines_from, file_of}
use Rattle.rig_meaning.proofs.Laws.Read.{read_file}
use Rattle.rules.specs.Rig.{place_of}
use Rattle.rules.specs.Scripts.{FlagLine, A, B, bench, rig, of_task, of_condition, numbers, of_line, of_cycle}
use Rattle.exec_state.specs.View.{rig_of}
use Rattle.witness.specs.Text.{bytes}
use Rattle.witness.specs.MorningText.{morning_file}
use Rattle.witness.specs.Tables.{table_from}
use Rattle.witness.specs.RightRigs.{morning_rig, morning_right}
use Rattle.witness.specs.CodeRig.{code_rig, code_table, code_cycles, Ends, code_rig_lem}

-- ---- the rules see their own bench morning in it

no_task : (t : ℕ) → 65 ≤ t → (eqb 1 t ≡ false) × (eqb 2 t ≡ false) × (eqb 3 t ≡ false)
no_task t h = (ne_eqb 1 t (λ e. omega arith), ne_eqb 2 t (λ e. omega arith), ne_eqb 3 t (λ e. omega arith))

-- the places of the two conditions
no_condition : (p : ℕ) → 1040 ≤ p → (eqb (place_of 2 0) p ≡ false) × (eqb (place_of 3 0) p ≡ false)
no_condition p h = (ne_eqb (place_of 2 0) p (λ e. omega arith), ne_eqb (place_of 3 0) p (λ e. omega arith))

no_line : (k : ℕ) → 1024 ≤ k → get_or (A 2 0 1 ∷ A 3 0 3 ∷ []) k (A 0 0 0) ≡ A 0 0 0
no_line k h = get_or-eq_default (A 2 0 1 ∷ A 3 0 3 ∷ []) (A 0 0 0) {n = k} (omega (arith, h))

no_flag : (b : Bool) (i : ℕ) → 15 ≤ i → get_or {A = ℕ} (cond b (1 ∷ []) []) i 0 ≡ 0
no_flag true i h = get_or-eq_default {A = ℕ} (1 ∷ []) 0 {n = i} (omega (arith, h))
no_flag false i h = refl

bench_ends : Ends bench
unfolding bench rig of_task of_condition numbers of_line of_cycle
bench_ends =
    record {
      controller = λ t h. rw ((no_task t h).0, (no_task t h).1, (no_task t h).2);
      priority = λ t h. rw ((no_task t h).0, (no_task t h).1, (no_task t h).2);
      privileged = λ t h. rw ((no_task t h).0, (no_task t h).1, (no_task t h).2);
      activation = λ t h. rw ((no_task t h).0, (no_task t h).1, (no_task t h).2);
      present = λ p h. rw ((no_condition p h).0, (no_condition p h).1);
      latched = λ p h. rw ((no_condition p h).0, (no_condition p h).1);
      desired = λ p h. rw ((no_condition p h).0, (no_condition p h).1);
      line_task = λ k h. ap (λ (a : FlagLine). get_or (numbers a) 0 0) (no_line k h);
      line_pos = λ k h. ap (λ (a : FlagLine). get_or (numbers a) 1 0) (no_line k h);
      line_flag = λ k h. ap (λ (a : FlagLine). get_or (numbers a) 2 0) (no_line k h);
      cycle = λ c h i. rw (ne_eqb 4 c (λ e. omega arith));
      fifteen = λ c i h. no_flag (eqb 4 c) i h;
      row = λ k h. get_or-eq_default (B 1 5 7 2 32 2 0 ∷ []) (B 0 0 0 0 0 0 0) {n = k} (omega (arith, h));
    }

-- THE RULES' BENCH: all that the rules read of the code's rig is what they read of their own
pub morning_rig_lem : rig_of morning_rig (code_cycles bench) ≡ bench
morning_rig_lem = code_rig_lem bench bench_ends

-- ---- THE FILE IS ACCEPTED

-- what the writer writes of the rig is the file, byte for byte
file_is : file_of morning_rig (code_table bench) ≡ morning_file
unfolding bytes morning_file bench rig of_task of_condition numbers of_line of_cycle code_rig code_table table_from file_of lines_from kept text line_bytes name_of led dec dec_by
file_is = refl

pub morning_read : read_of morning_file ≡ file_accepted morning_rig (code_cycles bench)
morning_read =
    ap read_of (sym file_is ∙ ap (file_of morning_rig) (sym (table_of_cycles (code_table bench))))
    ∙ read_file morning_rig (code_cycles bench) morning_right
