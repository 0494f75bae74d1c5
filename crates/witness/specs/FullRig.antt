-- THE RIG OF FULL SIZE that serves exactly 79 flags in one call (`reached`, Full) is a right rig of the code: 64 tasks, 128
-- flags, 64 conditions and A lines, fifteen flags a cycle.
use Rattle.std.specs.Prelude.{◌≡◌, refl, Bool, true, false, cond, ◌&&◌, ◌||◌, ℕ, ◌+◌, ◌%◌, eqb, ltb}
use Rattle.std.proofs.Common.{arith, le-ltb, ne_eqb}
use Rattle.std.proofs.lemmas.Bool.{lt-leb}
use Rattle.rig.specs.Forms.{table_of}
use Rattle.rig_build.specs.Read.{file_accepted}
use Rattle.rig_meaning.proofs.Reading.{read_of}
use Rattle.rig_write.specs.File.{file_of}
use Rattle.rig_meaning.proofs.Laws.Read.{read_file}
use Rattle.rules_full.specs.Full.{full}
use Rattle.exec_state.specs.View.{rig_of}
use Rattle.witness.specs.RightRigs.{full_rig, full_right}
use Rattle.witness.specs.CodeRig.{code_cycles, Ends, code_rig_lem}

-- ---- the rules see their own rig of full size in it

last_off : (a b : Bool) → ◌≡◌ {A = ℕ} (cond (a && (b && false)) 1 0) 0
last_off true true = refl
last_off true false = refl
last_off false b = refl

second_off : (a : Bool) (n : ℕ) → cond (a && false) n 0 ≡ 0
second_off true n = refl
second_off false n = refl

full_ends : Ends full
unfolding full
full_ends =
    record {
      controller = λ t h. rw (lt-leb t 64 h) (second_off (ltb 1 t) 1);
      priority = λ t h. rw (lt-leb t 64 h) (second_off (ltb 0 t) 10);
      privileged = λ t h. refl;
      activation = λ t h. rw (lt-leb t 64 h);
      present = λ p h. rw (le-ltb p 1040 h) (last_off (eqb (p % 16) 0) (ltb 15 p));
      latched = λ p h. refl;
      desired = λ p h. rw (le-ltb p 1040 h) (last_off (eqb (p % 16) 0) (ltb 15 p));
      line_task = λ k h. rw (le-ltb k 64 (omega (arith, h)));
      line_pos = λ k h. refl;
      line_flag = λ k h. rw (ne_eqb k 0 (λ e. omega (arith, h, e)), le-ltb k 64 (omega (arith, h)));
      cycle = λ c h i. rw (ne_eqb c 1 (λ e. omega (arith, h, e)), ne_eqb c 2 (λ e. omega (arith, h, e)));
      fifteen = λ c i h. rw (le-ltb i 15 h) (second_off (eqb c 1 || eqb c 2) (65 + i));
      row = λ k h. refl;
    }

-- THE RULES' RIG OF FULL SIZE: all that the rules read of the code's rig is what they read of their own
pub full_rig_lem : rig_of full_rig (code_cycles full) ≡ full
full_rig_lem = code_rig_lem full full_ends

-- and its file is accepted
pub full_read : read_of (file_of full_rig (table_of (code_cycles full))) ≡ file_accepted full_rig (code_cycles full)
full_read = read_file full_rig (code_cycles full) full_right
