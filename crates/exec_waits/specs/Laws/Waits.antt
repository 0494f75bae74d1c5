-- The running task begins to wait.
use Rattle.std.specs.Prelude.{◌≡◌, refl, ◌≢◌, Bool, true, false, cond, ◌&&◌, List, [], ℕ, ◌+◌, ◌<◌, ◌≤◌, eqb, ltb, get_or}
use Rattle.std.proofs.Math.Path.{sym, ap}
use Rattle.std.proofs.Common.{◌∙◌, arith, ltb-false, eqb-true, eq-eqb, ne_eqb, le-leb}
use Rattle.std.proofs.lemmas.Bool.{false≢true, eqb-false, lt-leb}
use Rattle.laws.specs.Cases.{by}
use Rattle.chains.specs.Held.{at}
use Rattle.chains.specs.Laws.Read.{sound_chains}
use Rattle.rig.specs.declared.Cycle.{Cycle}
use Rattle.rig.specs.declared.Rig.{Rig}
use Rattle.rules.specs.State as S
use Rattle.rules.specs.Proper as P
use Rattle.rules.specs.Waiting.{wait_on, wait_until_count}
use Rattle.rules.specs.Rig.{is_minor}
use Rattle.rules.specs.Calls as R
use Rattle.rules_laws.specs.Acceptance.{passed, flagged_is}
use Rattle.exec_queue.specs.View.{entries_of}
use Rattle.exec_queue.specs.declared.Queue.{Queue}
use Rattle.exec_state.specs.View.{rig_of, view_of, work_of}
use Rattle.exec_state.specs.Post.{FlagOk}
use Rattle.exec_waiting.specs.Post.{MayWait}
use Rattle.exec_state.specs.declared.State.{State}
use Rattle.exec_sound.specs.Sound.{SoundParts}
use Rattle.exec_sound.specs.Laws.Check.{running_low, named}
use Rattle.laws.specs.Bits.{bit}
use Rattle.laws.specs.Laws.Bits.{bit_le}
use Rattle.exec_refusals.specs.Rows.{count_rows, flag_rows}
use Rattle.exec_outcome.specs.Laws.Meeting.{Silent}
use Rattle.exec_outcome.specs.Laws.Tables.{latched_table, unlatched_table}

-- a wait on a flag, latched or not
abbrev pub flag_wait : Bool → ℕ → ℕ → R.Call
flag_wait true f v = R.latched f v
flag_wait false f v = R.unlatched f v

pub wait_silent : (b : Bool) (f v : ℕ) → Silent (flag_wait b f v)
wait_silent true f v = tt
wait_silent false f v = tt

-- nobody is tested after it
pub wait_nobody : (s : S.State) (b : Bool) (f v : ℕ) → R.ended s (flag_wait b f v) ≡ 0
unfolding R.ended
wait_nobody s true f v = refl
wait_nobody s false f v = refl

pub wait_proper : (b : Bool) (f : ℕ) (v : Bool) → P.Proper (flag_wait b f (bit v))
wait_proper true f v = bit_le v
wait_proper false f v = bit_le v

pub wait_table : (g : Rig) (cycles : List Cycle) (s : State) (b : Bool) (f v : ℕ)
    → R.decide (flag_rows s.running g.flags cycles f) ≡ R.refusal (rig_of g cycles) (view_of s) (flag_wait b f v)
wait_table g cycles s true f v = latched_table g cycles s f v
wait_table g cycles s false f v = unlatched_table g cycles s f v

-- a waking count that is not refused is in range
pub count_there : (running n : ℕ) → 0 ≡ R.decide (count_rows running (ltb 2147483647 n)) → n ≤ 2147483647
count_there running n e = ltb-false 2147483647 n (passed 8 (ltb 2147483647 n) [] (passed 4 (eqb running 0) _ (sym e)).1).0

module _ (g : Rig) (cycles : List Cycle) (s : State) (h : SoundParts g cycles s) where
  -- the running task is in no chain
  pub may_wait : s.running ≢ 0 → MayWait s
  may_wait n =
      let t = s.running in
      let up : get_or s.state t 0 ≡ 3 = h.state.runs.up n in
      record {
        sound = h.links;
        some = omega (arith, n);
        task = running_low g cycles s h;
        idle =
            by (eqb (at s.links.on t) 0) (λ e. eqb-true (at s.links.on t) 0 e)
            (λ e.
            let w = named s.links (sound_chains s.links h.links) t (omega (arith, running_low g cycles s h)) (eqb-false (at s.links.on t) 0 e) in
            absurd (omega (arith, up, h.state.chains.listed.two t w)));
      }

  pub flag_ok : (f : ℕ) (b : Bool) → 0 ≡ R.decide (flag_rows s.running g.flags cycles f) → FlagOk f (bit b)
  flag_ok f b e =
      let k = flagged_is (rig_of g cycles) (view_of s) f (is_minor (rig_of g cycles).minor f) (sym e) in
      record { some = k.flag.0; flag = omega (arith, k.flag.1, h.rig.flag_count.1); value = bit_le b }

  -- nothing is queued
  module _ (next : State) (q : Queue) (z : entries_of q ≡ []) where
    quiet_work : (t : S.State) → view_of next ≡ t → work_of next q ≡ R.quiet t
    quiet_work t e = λ i. record { now = e i; queue = z i }

    unlatched_work : (f v : ℕ) → view_of next ≡ wait_on (view_of s) f v → work_of next q ≡ R.effect (rig_of g cycles) (view_of s) (R.unlatched f v)
    unfolding R.effect
    unlatched_work f v e = quiet_work (wait_on (view_of s) f v) e

    latched_work : (f v : ℕ) → S.value_of (view_of s) f ≢ v → view_of next ≡ wait_on (view_of s) f v
        → work_of next q ≡ R.effect (rig_of g cycles) (view_of s) (R.latched f v)
    unfolding R.effect
    latched_work f v n e =
        quiet_work (wait_on (view_of s) f v) e
        ∙ sym (ap (λ (b : Bool). R.quiet (cond b (view_of s) (wait_on (view_of s) f v))) (ne_eqb (S.value_of (view_of s) f) v n))

    pub wait_work : (b : Bool) (f v : ℕ) → (b && eqb (S.value_of (view_of s) f) v) ≡ false → view_of next ≡ wait_on (view_of s) f v
        → work_of next q ≡ R.effect (rig_of g cycles) (view_of s) (flag_wait b f v)
    wait_work true f v n e = latched_work f v (eqb-false (S.value_of (view_of s) f) v n) e
    wait_work false f v n e = unlatched_work f v e

    pub until_work : (n : ℕ) → s.count < n → view_of next ≡ wait_until_count (view_of s) n → work_of next q ≡ R.effect (rig_of g cycles) (view_of s) (R.wait_until n)
    unfolding R.effect
    until_work n b e =
        quiet_work (wait_until_count (view_of s) n) e
        ∙ sym (ap (λ (c : Bool). R.quiet (cond c (view_of s) (wait_until_count (view_of s) n))) (lt-leb n s.count b))

    pub for_work : (n : ℕ) → 0 < n → view_of next ≡ wait_until_count (view_of s) (s.count + n)
        → work_of next q ≡ R.effect (rig_of g cycles) (view_of s) (R.wait_for n)
    unfolding R.effect
    for_work n b e =
        quiet_work (wait_until_count (view_of s) (s.count + n)) e
        ∙ sym (ap (λ (c : Bool). R.quiet (cond c (view_of s) (wait_until_count (view_of s) (s.count + n))))
        (lt-leb (s.count + n) s.count (omega arith)))

  -- no wait
  latched_stays : (f v : ℕ) → S.value_of (view_of s) f ≡ v → R.effect (rig_of g cycles) (view_of s) (R.latched f v) ≡ R.quiet (view_of s)
  unfolding R.effect
  latched_stays f v e =
      ap (λ (b : Bool). R.quiet (cond b (view_of s) (wait_on (view_of s) f v))) (eq-eqb (S.value_of (view_of s) f) v e)

  pub wait_stays : (b : Bool) (f v : ℕ) → (b && eqb (S.value_of (view_of s) f) v) ≡ true → R.effect (rig_of g cycles) (view_of s) (flag_wait b f v) ≡ R.quiet (view_of s)
  wait_stays true f v e = latched_stays f v (eqb-true (S.value_of (view_of s) f) v e)
  wait_stays false f v e = absurd (false≢true e)

  pub until_stays : (n : ℕ) → n ≤ s.count → R.effect (rig_of g cycles) (view_of s) (R.wait_until n) ≡ R.quiet (view_of s)
  unfolding R.effect
  until_stays n b = ap (λ (c : Bool). R.quiet (cond c (view_of s) (wait_until_count (view_of s) n))) (le-leb n s.count b)

  pub for_stays : (n : ℕ) → n ≡ 0 → R.effect (rig_of g cycles) (view_of s) (R.wait_for n) ≡ R.quiet (view_of s)
  unfolding R.effect
  for_stays n e =
      ap (λ (c : Bool). R.quiet (cond c (view_of s) (wait_until_count (view_of s) (s.count + n))))
      (le-leb (s.count + n) s.count (omega arith))
