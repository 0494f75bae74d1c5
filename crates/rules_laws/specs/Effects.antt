-- Every accepted call but cancel hands the serving a state and a queue that it can start from.
use Rattle.std.specs.Prelude.{◌≡◌, refl, ◌≢◌, get_or, set}
use Rattle.std.proofs.Math.Path.{sym}
use Rattle.std.proofs.Common.{ap, ◌∙◌, arith, le_refl}
use mathlib.Core.List.{List, []}
use Prim.Native.Nat.{ℕ, zero, suc, ◌%◌, ◌≤◌, ◌<◌}
use Rattle.laws.specs.Laws.Iter.{iter_ind}
use Rattle.laws.specs.Laws.Tables.{has_place}
use Rattle.laws.specs.Members.{In, keep}
use Rattle.laws.specs.Laws.Members.{in_keep}
use Rattle.rules.specs.Rig.{Rig}
use Rattle.rules.specs.RigOk.{RigOk}
use Rattle.rules.specs.State.{Chain, time_chain, State, Entry, state_of, active}
use Rattle.rules.specs.Serving.{push}
use Rattle.rules.specs.Waiting.{wait_on, wait_until_count, is_due, wake_due}
use Rattle.rules.specs.Calls.{as_scheduled, scheduled, finished, terminated, queue_one, cycle_queue, ticked, quiet}
use Rattle.rules.specs.Soundness.{WakingCounts, Chains}
use Rattle.rules_laws.specs.Queued.{Fine, fine_push, look, look_other, look_absent, Absent, Agree, rest_absent, rest_one}
use Rattle.rules_laws.specs.Agreement.{restate, same_active}
use Rattle.rules_laws.specs.Rousing.{rouse_same}
use Rattle.rules_laws.specs.TableLaws.{tasks_move, tasks_invoke, tasks_rouse, conds_relax, wakes_set, overruns_set}
use Rattle.rules_laws.specs.WaitingLaws.{chains_due, chains_set, chains_flag, chains_time, chains_leave}
use Rattle.rules_laws.specs.Good.{Good, Ready, tested_ready}

-- nothing is queued
pub quiet_ready : (r : Rig) (s : State) → Good r s [] → Ready r (quiet s)
quiet_ready r s g = record { good = g; clear = λ t nz h. tt }

module _ (r : Rig) (ok : RigOk r) (s : State) (g : Good r s []) where
  -- ---- schedule

  -- an uninvoked task becomes inactive, its unlatched conditions undesired
  scheduled_good : (t : ℕ) → 1 ≤ t → t ≤ r.tasks → (t ≢ 1 → state_of s (r.controller t) ≢ 0) → state_of s t ≡ 0
      → Good r (as_scheduled r s t) []
  scheduled_good t a b c h =
      record {
        tasks = tasks_invoke r s.states t 1 a b c (λ q. omega arith) (omega arith) g.tasks;
        flags = g.flags;
        conds = conds_relax r t s.conds g.conds;
        wakes = g.wakes;
        overruns = overruns_set r s.overruns t 0 a b (omega arith) g.overruns;
        chains = chains_set s.count s.wakes s.chains s.states t 1 (λ q. omega (arith, h, q)) (λ q. omega arith) g.chains;
        agree = same_active r ok t 1 s.flags s.states [] (sym (ap active h)) g.agree;
        fine = tt;
      }

  pub scheduled_ready : (t : ℕ) → 1 ≤ t → t ≤ r.tasks → (t ≢ 1 → state_of s (r.controller t) ≢ 0) → state_of s t ≡ 0 → Ready r (scheduled r s t)
  unfolding scheduled
  scheduled_ready t a b c h = tested_ready r ok t _ (scheduled_good t a b c h)

  -- ---- finish and terminate: an active task becomes inactive

  agree_off : (t : ℕ) → state_of s t ≢ 0 → Agree r s.flags (set s.states t 1) (push (r.activation t) 0 [])
  agree_off t h = restate r ok t 1 s.flags s.states [] (has_place s.states t h) (λ nz. tt) g.agree

  fine_off : (t : ℕ) → Fine r (push (r.activation t) 0 [])
  fine_off t = fine_push r (r.activation t) 0 [] (ok.activation_le t) (omega arith) tt

  pub finished_ready : state_of s s.running ≡ 3 → Ready r (finished r s)
  unfolding finished
  finished_ready h =
      let some : state_of s s.running ≢ 0 = λ q. omega (arith, h, q) in
      record {
        good =
            record {
              tasks = tasks_move r s.states s.running 1 some (λ q. omega arith) (omega arith) g.tasks;
              flags = g.flags;
              conds = g.conds;
              wakes = g.wakes;
              overruns = g.overruns;
              chains = chains_set s.count s.wakes s.chains s.states s.running 1 (λ q. omega (arith, h, q)) (λ q. omega arith) g.chains;
              agree = agree_off s.running some;
              fine = fine_off s.running;
            };
        clear = λ u nz e. rest_one (r.activation u) (r.activation s.running) 0;
      }

  pub terminated_ready : (t : ℕ) → state_of s t ≢ 0 → Ready r (terminated r s t)
  unfolding terminated
  terminated_ready t h =
      record {
        good =
            record {
              tasks = tasks_move r s.states t 1 h (λ q. omega arith) (omega arith) g.tasks;
              flags = g.flags;
              conds = g.conds;
              wakes = g.wakes;
              overruns = g.overruns;
              chains = chains_leave s.count s.wakes s.chains s.states t 1 (λ q. omega arith) g.chains;
              agree = agree_off t h;
              fine = fine_off t;
            };
        clear = λ u nz e. rest_one (r.activation u) (r.activation t) 0;
      }

  -- ---- the waits: the running task goes over to waiting

  wait_ready : state_of s s.running ≡ 3 → (chains : Chain → List ℕ) (wakes : List ℕ) → WakingCounts r wakes
      → Chains s.count wakes chains (set s.states s.running 2)
      → Ready r (quiet (record { count = s.count; flags = s.flags; conds = s.conds; states = set s.states s.running 2; wakes = wakes; overruns = s.overruns; chains = chains; running = 0 }))
  wait_ready h chains wakes w c =
      quiet_ready r _
      (record {
        tasks = tasks_move r s.states s.running 2 (λ q. omega (arith, h, q)) (λ q. omega arith) (omega arith) g.tasks;
        flags = g.flags;
        conds = g.conds;
        wakes = w;
        overruns = g.overruns;
        chains = c;
        agree = same_active r ok s.running 2 s.flags s.states [] (sym (ap active h)) g.agree;
        fine = tt;
      })

  pub wait_on_ready : (f v : ℕ) → state_of s s.running ≡ 3 → 1 ≤ f → f ≤ 128 → v ≤ 1 → Ready r (quiet (wait_on s f v))
  unfolding wait_on
  wait_on_ready f v h a b c =
      wait_ready h _ s.wakes g.wakes
      (chains_flag s.count s.wakes s.chains s.states s.running g.chains h f v (a, b, c))

  pub wait_until_ready : (k : ℕ) → state_of s s.running ≡ 3 → s.count < k → Ready r (quiet (wait_until_count s k))
  unfolding wait_until_count
  wait_until_ready k h a =
      let in_rig = g.tasks.within s.running (λ q. omega (arith, h, q)) in
      wait_ready h _ (set s.wakes s.running k) (wakes_set r s.wakes s.running k in_rig.0 in_rig.1 g.wakes)
      (chains_time s.count s.wakes s.chains s.states s.running g.chains h k a (omega (arith, g.wakes.sized, in_rig.1, ok.tasks_le)))

  -- ---- signal: of no activation flag

  push_other : (f v d u : ℕ) → r.activation u ≢ f → look (push f v []) (r.activation u) d ≡ look [] (r.activation u) d
  push_other zero v d u n = refl
  push_other (suc f) v d u n = look_other (record { flag = suc f; value = v }) (r.activation u) d [] (λ x. n (sym x))

  pub signal_ready : (f v : ℕ) → f ≤ r.flags → v ≤ 1 → ((u : ℕ) → r.activation u ≢ 0 → r.activation u ≢ f)
      → Ready r (record { now = s; queue = push f v [] })
  signal_ready f v a b h =
      record {
        good =
            record {
              tasks = g.tasks;
              flags = g.flags;
              conds = g.conds;
              wakes = g.wakes;
              overruns = g.overruns;
              chains = g.chains;
              agree = λ u nz. push_other f v (get_or s.flags (r.activation u) 0) u (h u nz) ∙ g.agree u nz;
              fine = fine_push r f v [] a b tt;
            };
        clear = λ u nz e. rest_one (r.activation u) f v;
      }

  -- ---- tick

  minor_absent : (c t : ℕ) → c < 64 → r.activation t ≢ 0 → Absent (r.activation t) (cycle_queue (r.minor c))
  unfolding cycle_queue
  minor_absent c t a nz =
      iter_ind (λ i q. i ≤ 15 → Absent (r.activation t) q) (queue_one (r.minor c)) [] (λ l. tt)
      (λ i q h l. go (r.minor c i) q (ok.activation_not_minor t c i a (omega arith) nz) (h (omega arith))) 15 (le_refl _)
    where
      go : (f : ℕ) (q : List Entry) → f ≢ r.activation t → Absent (r.activation t) q → Absent (r.activation t) (push f 1 q)
      go zero q n h = h
      go (suc f) q n h = (n, h)

  minor_fine : (c : ℕ) → c < 64 → Fine r (cycle_queue (r.minor c))
  unfolding cycle_queue
  minor_fine c a =
      iter_ind (λ i q. i ≤ 15 → Fine r q) (queue_one (r.minor c)) [] (λ l. tt)
      (λ i q h l. fine_push r (r.minor c i) 1 q (ok.minor_le c i a (omega arith)) (omega arith) (h (omega arith))) 15 (le_refl _)

  pub ticked_ready : Ready r (ticked r s)
  unfolding ticked wake_due
  ticked_ready =
      record {
        good =
            record {
              tasks = tasks_rouse r due s.states (λ t i e. omega (arith, e, waits t i)) g.tasks;
              flags = g.flags;
              conds = g.conds;
              wakes = g.wakes;
              overruns = g.overruns;
              chains = chains_due s.count s.wakes s.chains s.states g.chains;
              agree = λ t nz.
                  look_absent (r.activation t) _ q (none t nz)
                  ∙ sym (look_absent (r.activation t) _ [] tt)
                  ∙ g.agree t nz
                  ∙ sym (rouse_same active due s.states (λ u i. sym (ap active (waits u i))) t);
              fine = minor_fine c low;
            };
        clear = λ t nz e. rest_absent (r.activation t) q (none t nz);
      }
    where
      c : ℕ
      c = suc s.count % 64

      low : c < 64
      low = omega arith

      q : List Entry
      q = cycle_queue (r.minor c)

      due : List ℕ
      due = keep (is_due s.wakes (suc s.count)) (s.chains time_chain)

      waits : (t : ℕ) → In t due → state_of s t ≡ 2
      waits t i = g.chains.listed.two t (time_chain, in_keep (is_due s.wakes (suc s.count)) t (s.chains time_chain) i)

      none : (t : ℕ) → r.activation t ≢ 0 → Absent (r.activation t) q
      none t nz = minor_absent c t low nz
