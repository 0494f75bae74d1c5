-- RUNS ON THE RIG OF FULL SIZE: whatever the rules serve there, a run of the code's records serves.
use Rattle.std.specs.Prelude.{◌≡◌, refl, List, [], ◌∷◌, ◌++◌, ℕ, zero, suc}
use Rattle.std.proofs.Common.{◌∙◌, ap}
use Rattle.rules.specs.Rig as G
use Rattle.rules.specs.Proper.{Proper, ProperRun}
use Rattle.rules_laws.specs.Steps.{start_sound, run_sound}
use Rattle.rules.specs.Calls as R
use Rattle.rules.specs.Scripts.{tick₀}
use Rattle.rules_full.specs.Full.{full, schedules, before, reached}
use Rattle.exec_state.specs.View.{rig_of}
use Rattle.exec_sound.specs.Laws.RightRig.{rig_ok}
use Rattle.exec.specs.declared.Exec.{Exec}
use Rattle.runs.specs.Runs.{Made, MadeOn, Ran, calls_of, served_of, AcceptedStart}
use Rattle.witness.specs.CodeRig.{code_table, code_cycles}
use Rattle.witness.proofs.Records.{record_of, run_of, made_of, answer_is, calls_of_lem, made, ran, start_exists}
use Rattle.witness.specs.RightRigs.{full_rig, full_right}
use Rattle.witness.specs.FullRig.{full_rig_lem}

abbrev seen : G.Rig
seen = rig_of full_rig (code_cycles full)

pub full_start : Exec
full_start = record_of full_rig (code_cycles full) (R.start seen)

pub full_starts : AcceptedStart full_rig (code_table full) full_start
unfolding full_start
full_starts = start_exists full_rig (code_table full) full_right

-- the calls ks, made one after the other from the start on, and then the call k, which serves as many flags as by the rules
pub record Served (ks : List R.Call) (k : R.Call) : Type 0 where
  pub run : List Made
  pub end : Exec
  pub last : Made
  pub ran : Ran full_start run end
  pub calls : calls_of run ≡ ks
  pub call : last.call ≡ k
  pub made : MadeOn end last
  pub served : served_of last.step ≡ (R.step full (R.run full (R.start full) ks) k).answer.report.served

pub full_serves : (ks : List R.Call) → ProperRun ks → (k : R.Call) → Proper k → Served ks k
unfolding full_start
full_serves ks p k q =
    let ok = rig_ok full_rig (code_cycles full) full_right in
    let first = start_sound seen ok in
    let s = R.run seen (R.start seen) ks in
    record {
      run = run_of full_rig (code_cycles full) (R.start seen) ks;
      end = record_of full_rig (code_cycles full) s;
      last = made_of full_rig (code_cycles full) s k;
      ran = ran full_rig (code_cycles full) full_right (R.start seen) first ks p;
      calls = calls_of_lem full_rig (code_cycles full) (R.start seen) ks;
      call = refl;
      made = made full_rig (code_cycles full) full_right s (run_sound seen ok (R.start seen) first ks p) k q;
      served =
          ap (λ (a : R.Answer). a.report.served) (answer_is seen s k)
          ∙ ap (λ (r : G.Rig). (R.step r (R.run r (R.start r) ks) k).answer.report.served) full_rig_lem;
    }

-- "at most 79": the bound is reached. The first tick activates task 1, who schedules all others and finishes; the second
-- activates all 64, one by the flag of the other, and serves the fifteen flags of its cycle
schedules_proper : (k n : ℕ) → ProperRun (schedules k n ++ R.finish ∷ [])
unfolding schedules
schedules_proper k zero = (tt, tt)
schedules_proper k (suc n) = (tt, schedules_proper (suc k) n)

pub seventy_nine : (s : Served (tick₀ ∷ schedules 2 63 ++ R.finish ∷ []) tick₀) × (served_of s.last.step ≡ 79)
unfolding tick₀ before
seventy_nine =
    let s = full_serves (tick₀ ∷ schedules 2 63 ++ R.finish ∷ []) (tt, schedules_proper 2 63) tick₀ tt in
    (s, s.served ∙ reached.0)
