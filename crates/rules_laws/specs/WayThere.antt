-- A YES AT d = 0 TIED TO THE EXECUTIVE (L13): an inactive task that can start within no links has, for each of its conditions that does not
-- stand, a call or tick that serves a flag which brings it there, once the one runs who may make the call, or the cycle comes. That it
-- is not so in every state, since a call needs a running task: theorem nobody_serves.
use Rattle.std.specs.Prelude.{◌≡◌, ◌≢◌, ◌⊎◌, Bool, cond, ◌&&◌}
use Rattle.std.proofs.Math.Path.{refl, ap, subst}
use Rattle.std.proofs.Common.{sym, ◌∙◌, inl, inr, arith}
use Rattle.std.proofs.Math.Logic.{⊎_elim}
use Rattle.std.proofs.Math.Bool.{true, false}
use mathlib.Core.List.{List, [], ◌∷◌}
use Prim.Native.Nat.{ℕ, zero, suc, ◌+◌, ◌-◌, ◌%◌, ◌≤◌, ◌<◌}
use Rattle.std.proofs.Math.Dec.{eqb}
use Rattle.std.proofs.Math.ListN.{length, get_or}
use Rattle.laws.specs.Cases.{dec_eq}
use Rattle.laws.specs.All.{all}
use Rattle.laws.specs.Any.{any}
use Rattle.laws.specs.Lowest.{lowest}
use Rattle.laws.specs.Tables.{total, over}
use Rattle.laws.specs.Iter.{iter}
use Rattle.laws.specs.Laws.Iter.{iter_ind}
use Rattle.laws.specs.Laws.Stores.{stores_length}
use Rattle.rules.specs.Sizes.{positions, minor_cycles, flags_a_cycle}
use Rattle.rules.specs.Rig.{Rig, place_of, in_cycle, is_minor, is_activation}
use Rattle.rules.specs.RigOk.{RigOk}
use Rattle.rules.specs.State.{State, Entry, Work, Done, with_count, state_of, active, on, off, blank}
use Rattle.rules.specs.Conditions.{relax, met, drive, names}
use Rattle.rules.specs.Serving.{push, activate, too_soon, most_overruns, more_by_one, overrun, takes, rouse, wake, ready, offer, offer_next, offers, serve_flag, made, inactives, serving, serve}
use Rattle.rules.specs.Waiting.{wait_until_count, leave, wake_due}
use Rattle.rules.specs.Running.{best, chosen, dispatch}
use Rattle.rules.specs.Calls.{Call, schedule, cancel, terminate, finish, tick, wait_until, wait_for, latched, unlatched, signal, read_flag, read_block, write_block, next_waking, read_overruns, why_not}
use Rattle.rules.specs.Calls.{tested, scheduled, finished, terminated, queue_one, cycle_queue, ticked, effect, ended, again, settled, decide, no_such_one, last_count, refusals, refusal, lent, output, accepted, after, step, run, started, start}
use Rattle.rules.specs.Soundness.{Sound}
use Rattle.rules.specs.Starting.{flag_of, comes_on, goes_off, comes_to, brought, starts, starts_below, lowest_blocking}
use Rattle.rules.specs.Scripts.{rig, of_task, of_condition, numbers, of_line, of_cycle}
use Rattle.rules.specs.AnAnswerForEachWay.{alone}
use Rattle.rules.specs.Overruns.{Event, service, serving_events, serve_events, again_events, scheduling_of, accepted_events}
use Rattle.rules.specs.Reasons.{MinorCycleFlag, reasons}
use Rattle.rules.specs.WhyNot.{HasCondition, Stands, ItsFlag, PlainFlag, CanBeBrought, CanStart, BringsThere, Happens, ServedBy, BySignal, ByTick, ByEnding}
use Rattle.rules_laws.specs.ConditionLaws.{driven}
use Rattle.rules_laws.specs.Good.{serve_flag_keeps}
use Rattle.rules_laws.specs.Serve.{serve_flag_load}
use Rattle.rules_laws.specs.RefusedExactly.{refused_exactly}

-- ---- whatever is queued is served

abbrev Queued : Entry → List Entry → Type 0
Queued e [] = ⊥
Queued e (x ∷ q) = (e ≡ x) ⊎ Queued e q

queued_push : (e : Entry) (f v : ℕ) (q : List Entry) → Queued e q → Queued e (push f v q)
queued_push e zero v q h = h
queued_push e (suc f) v q h = inr h

push_queued : (f v : ℕ) (q : List Entry) → f ≢ 0 → Queued (record { flag = f; value = v }) (push f v q)
push_queued zero v q n = absurd (n refl)
push_queued (suc f) v q n = inl refl

module _ (r : Rig) where
  -- a service leaves what is queued behind it
  queued_offer : (x : Entry) (f t : ℕ) (w : Work) → Queued x w.queue → Queued x (offer r f t w).queue
  unfolding offer activate
  queued_offer x f t w h = go (eqb (state_of w.now t) 1 && ready r f t w.now)
    where
      go : (b : Bool) → Queued x (cond b (activate r t w) w).queue
      go true = queued_push x (r.activation t) 1 w.queue h
      go false = h

  queued_serve_flag : (x e : Entry) (s : State) (q : List Entry) → Queued x q → Queued x (serve_flag r e s q).queue
  unfolding serve_flag offers
  queued_serve_flag x e s q h = iter_ind (λ i w. Queued x w.queue) (offer_next r e.flag) _ h (λ i w g. queued_offer x e.flag (i + 1) w g) 64

  -- the conditions are as many as before
  many : (n : ℕ) (e : Entry) (s : State) (q : List Entry) → length s.conds ≡ n → length (serve_flag r e s q).now.conds ≡ n
  unfolding takes drive wake activate relax
  many n e s q h =
      serve_flag_keeps r (λ s. length s.conds ≡ n)
      (λ e s h. stores_length (λ k. eqb (r.line_flag k) e.flag) (λ k. place_of (r.line_task k) (r.line_pos k)) (λ k. e.value) r.lines s.conds ∙ h)
      (λ f v s h. h)
      (λ t w g h. stores_length (λ p. eqb (r.present (place_of t p)) 1 && eqb (r.latched (place_of t p)) 0) (place_of t) (λ p. 1 - r.desired (place_of t p)) 16 w.now.conds ∙ h)
      e s q h

  -- what happened stays in the history
  stays : (x : Event) (k : ℕ) (s : State) (q : List Entry) (h : List Event) → Happens x h → Happens x (serving_events r k s q h)
  unfolding serving_events
  stays x zero s q h i = i
  stays x (suc k) s [] h i = i
  stays x (suc k) s (e ∷ q) h i = stays x k (serve_flag r e s q).now (serve_flag r e s q).queue (service s e ∷ h) (inr i)

  record Service (n : ℕ) (x : Entry) (h : List Event) : Type 0 where
    before : State
    sized : length before.conds ≡ n
    happens : Happens (service before x) h

  served : (n : ℕ) (x : Entry) (k : ℕ) (s : State) (q : List Entry) (h : List Event) → length s.conds ≡ n
      → length q + inactives s.states ≤ k → Queued x q → Service n x (serving_events r k s q h)
  unfolding serving_events
  served n x zero s [] h z b i = absurd i
  served n x zero s (e ∷ q) h z b i = absurd (omega arith)
  served n x (suc k) s [] h z b i = absurd i
  served n x (suc k) s (e ∷ q) h z b (inl i) =
      record {
        before = s;
        sized = z;
        happens = stays (service s x) k (serve_flag r e s q).now (serve_flag r e s q).queue (service s e ∷ h) (inl (ap (service s) i));
      }
  served n x (suc k) s (e ∷ q) h z b (inr i) =
      served n x k (serve_flag r e s q).now (serve_flag r e s q).queue (service s e ∷ h) (many n e s q z)
      (omega (arith, serve_flag_load r e s q, b)) (queued_serve_flag x e s q i)

  -- of a call: what it queues is served
  call_serves : (n : ℕ) (x : Entry) (s : State) (k : Call) → length (effect r s k).now.conds ≡ n → Queued x (effect r s k).queue
      → Service n x (accepted_events r s k [])
  unfolding accepted_events serve_events again_events
  call_serves n x s k z i =
      let w = effect r s k in
      let v = served n x (length w.queue + inactives w.now.states) w.now w.queue (scheduling_of k []) z (omega arith) i in
      record { before = v.before; sized = v.sized; happens = kept (ended s k) _ _ (service v.before x) v.happens }
    where
      kept : (t : ℕ) (d : Done) (h : List Event) (y : Event) → Happens y h → Happens y (again_events r t d h)
      kept zero d h y i = i
      kept (suc t) d h y i = stays y _ _ _ h i

-- ---- such a service brings the condition there

module _ (r : Rig) (ok : RigOk r) (t p : ℕ) where
  -- the flag's value is the desired one
  brings : (w : State) (f v : ℕ) → length w.conds ≡ 1040 → ItsFlag r t p f → v ≡ r.desired (place_of t p) → BringsThere r t p w (record { flag = f; value = v })
  unfolding takes
  brings w f v z its e =
      let k = its.0 in
      let place : place_of (r.line_task k) (r.line_pos k) ≡ place_of t p = omega (arith, its.2.0, its.2.1) in
      let there = ok.present_task (place_of (r.line_task k) (r.line_pos k)) (ok.line_present k its.1) in
      record {
        its = its;
        there =
            subst (λ (i : ℕ). get_or (drive r.lines r.line_task r.line_pos r.line_flag f v w.conds) i 0 ≡ v) place
            (driven r.lines r.line_task r.line_pos r.line_flag f v w.conds k its.1 its.2.2 (omega (arith, there.1, ok.tasks_le, z)))
            ∙ e;
      }

  by_call : (s : State) (k : Call) (f v : ℕ) → length (effect r s k).now.conds ≡ 1040 → refusal r s k ≡ 0 → Queued (record { flag = f; value = v }) (effect r s k).queue
      → ItsFlag r t p f → v ≡ r.desired (place_of t p) → ServedBy r s k t p
  by_call s k f v z fine q its e =
      let x = call_serves r 1040 (record { flag = f; value = v }) s k z q in
      record { fine = fine; before = x.before; entry = record { flag = f; value = v }; served = x.happens; brings = brings x.before f v x.sized its e }

  -- a line's flag is one of the rig's
  its_number : (f : ℕ) → ItsFlag r t p f → (1 ≤ f) × (f ≤ r.flags)
  its_number f its = let h = ok.line_flag_named its.0 its.1 in (omega (arith, h.0, its.2.2), omega (arith, h.1, its.2.2))

  by_signal : (f : ℕ) → ItsFlag r t p f → PlainFlag r f → BySignal r t p
  unfolding effect
  by_signal f its plain = (
    f,
    λ s h runs.
        let number = its_number f its in
        by_call s (signal f (r.desired (place_of t p))) f (r.desired (place_of t p)) h.conds.sized
        ((refused_exactly r s (signal f (r.desired (place_of t p)))).none.1
        (runs, (λ w. ⊎_elim (λ z. omega (arith, z, number.0)) (λ z. omega (arith, z, number.1)) w), plain, (λ z. z), (λ z. z), (λ z. z), (λ z. z)))
        (push_queued f (r.desired (place_of t p)) [] (λ z. omega (arith, z, number.0))) its refl,
  )

  -- a flag of a cycle's list is queued on
  in_list : (flags : ℕ → ℕ) (i n : ℕ) → i < n → flags i ≢ 0 → Queued (record { flag = flags i; value = on }) (iter n (queue_one flags) [])
  unfolding iter
  in_list flags i zero l z = absurd (omega arith)
  in_list flags i (suc n) l z = go (dec_eq i n) (λ b. in_list flags i n b z)
    where
      go : Dec (i ≡ n) → (i < n → Queued (record { flag = flags i; value = on }) (iter n (queue_one flags) []))
          → Queued (record { flag = flags i; value = on }) (push (flags n) on (iter n (queue_one flags) []))
      go (yes e) rest = subst (λ (j : ℕ). Queued (record { flag = flags i; value = on }) (push (flags j) on (iter n (queue_one flags) []))) e (push_queued (flags i) on _ z)
      go (no e) rest = queued_push _ (flags n) on _ (rest (omega (arith, e)))

  by_tick : (f : ℕ) → ItsFlag r t p f → MinorCycleFlag r f → r.desired (place_of t p) ≡ on → ByTick r t p
  unfolding effect ticked cycle_queue wake_due
  by_tick f its (c, lc, (i, li, e)) d = (
    c,
    lc,
    λ s buffer h below cycle room.
        let number = its_number f its in
        by_call s (tick buffer) f on h.conds.sized
        ((refused_exactly r s (tick buffer)).none.1
        ((λ z. z), (λ z. z), (λ z. z), (λ z. z), (λ z. omega (arith, z, below)), (λ z. omega (arith, z, room)), (λ z. z)))
        (subst (λ (g : ℕ). Queued (record { flag = g; value = on }) (iter flags_a_cycle (queue_one (r.minor (suc s.count % minor_cycles))) []))
        (ap (λ (j : ℕ). r.minor j i) cycle ∙ e)
        (in_list (r.minor (suc s.count % minor_cycles)) i flags_a_cycle li (λ z. omega (arith, z, ap (λ (j : ℕ). r.minor j i) cycle, e, number.0))))
        its (sym d),
  )

  by_ending : (s : State) → Sound r s → (f : ℕ) → ItsFlag r t p f → (u : ℕ) → r.activation u ≡ f → active (state_of s u) ≡ on
      → r.desired (place_of t p) ≢ on → ByEnding r s t p
  unfolding effect terminated finished
  by_ending s h f its u e a d =
      let number = its_number f its in
      let low : off ≡ r.desired (place_of t p) = omega (arith, d, ok.desired_le (place_of t p)) in
      let own : r.activation u ≢ 0 = λ z. omega (arith, z, e, number.0) in
      let task = ok.activation_task u own in (
        u,
        a,
        (
          (λ runs control.
              by_call s (terminate u) f off h.conds.sized
              ((refused_exactly r s (terminate u)).none.1
              (runs, (λ w. ⊎_elim (λ z. omega (arith, z, task.0)) (λ z. omega (arith, z, task.1)) w), (λ n. n control), (λ z. omega (arith, z, a)), (λ z. z), (λ z. z), (λ z. z)))
              (subst (λ (g : ℕ). Queued (record { flag = g; value = off }) (push (r.activation u) off [])) e (push_queued (r.activation u) off [] own)) its low),
          (λ runs self.
              by_call s finish f off h.conds.sized
              ((refused_exactly r s finish).none.1 (runs, (λ z. z), (λ z. z), (λ z. z), (λ z. z), (λ z. z), (λ z. z)))
              (subst (λ (x : ℕ). Queued (record { flag = f; value = off }) (push (r.activation x) off [])) (sym self)
              (subst (λ (g : ℕ). Queued (record { flag = g; value = off }) (push (r.activation u) off [])) e (push_queued (r.activation u) off [] own))) its low),
        ),
      )

  -- A YES AT d = 0: each condition that does not stand can be brought there by a signal, by a tick, or by the end of a task
  pub way_there : (s : State) → Sound r s → CanStart r s 0 t → HasCondition r t p → (Stands r s t p → ⊥) → BySignal r t p ⊎ (ByTick r t p ⊎ ByEnding r s t p)
  way_there s h can c n = ⊎_elim (λ x. absurd (n x)) (λ x. go (dec_eq (r.desired (place_of t p)) on) x) (can.1 p c)
    where
      go : Dec (r.desired (place_of t p) ≡ on) → CanBeBrought r s (λ u. ⊥) t p → BySignal r t p ⊎ (ByTick r t p ⊎ ByEnding r s t p)
      go (yes d) x = ⊎_elim (λ m. inr (inl (by_tick x.0 x.1 m d))) (λ y. ⊎_elim (λ m. inl (by_signal x.0 x.1 m)) (λ w. absurd w.4) y) (x.2.0 d)
      go (no d) x =
          ⊎_elim (λ m. inl (by_signal x.0 x.1 m)) (λ w. inr (inr (by_ending s h x.0 x.1 w.0 w.3 w.4 d))) (x.2.1 d)

-- ---- not in every state: while nobody runs and the next cycle's list is empty, no call or tick serves a flag

module _ (r : Rig) (s : State) (nobody : s.running ≡ 0) (empty : (i : ℕ) → r.minor (suc s.count % minor_cycles) i ≡ 0) where
  nothing_queued : (n : ℕ) → iter n (queue_one (r.minor (suc s.count % minor_cycles))) [] ≡ []
  unfolding iter
  nothing_queued zero = refl
  nothing_queued (suc n) = rw (empty n) (nothing_queued n)

  -- a call that needs a running task is refused
  refuses : (k : Call) → (reasons r s k).five → refusal r s k ≡ 0 → ⊥
  refuses k five fine = ((refused_exactly r s k).none.0 fine).0 five

  -- nothing queued, nothing served
  none : (n : ℕ) → serving_events r n s [] [] ≡ []
  unfolding serving_events
  none zero = refl
  none (suc n) = refl

  nothing_served : (k : Call) → refusal r s k ≡ 0 → accepted_events r s k [] ≡ []
  unfolding accepted_events serve_events serving_events again_events scheduling_of effect ended ticked cycle_queue
  nothing_served (schedule u) fine = absurd (refuses (schedule u) nobody fine)
  nothing_served (cancel u) fine = absurd (refuses (cancel u) nobody fine)
  nothing_served (terminate u) fine = absurd (refuses (terminate u) nobody fine)
  nothing_served finish fine = absurd (refuses finish nobody fine)
  nothing_served (tick buffer) fine = go (iter flags_a_cycle (queue_one (r.minor (suc s.count % minor_cycles))) []) (nothing_queued flags_a_cycle) (wake_due (with_count s (suc s.count))) (length (cycle_queue (r.minor (suc s.count % minor_cycles))) + inactives (wake_due (with_count s (suc s.count))).states)
    where
      go : (q : List Entry) → q ≡ [] → (w : State) (n : ℕ) → serving_events r n w q [] ≡ []
      go q e w zero = refl
      go q e w (suc n) = rw e
  nothing_served (wait_until u) fine = absurd (refuses (wait_until u) nobody fine)
  nothing_served (wait_for u) fine = absurd (refuses (wait_for u) nobody fine)
  nothing_served (latched f v) fine = absurd (refuses (latched f v) nobody fine)
  nothing_served (unlatched f v) fine = absurd (refuses (unlatched f v) nobody fine)
  nothing_served (signal f v) fine = absurd (refuses (signal f v) nobody fine)
  nothing_served (read_flag f) fine = absurd (refuses (read_flag f) nobody fine)
  nothing_served (read_block k area buffer) fine = absurd (refuses (read_block k area buffer) nobody fine)
  nothing_served (write_block k area buffer) fine = absurd (refuses (write_block k area buffer) nobody fine)
  nothing_served next_waking fine = none (0 + inactives s.states)
  nothing_served (read_overruns u) fine = none (0 + inactives s.states)
  nothing_served (why_not u d) fine = none (0 + inactives s.states)

  pub nobody_serves : (k : Call) (t p : ℕ) → ServedBy r s k t p → ⊥
  nobody_serves k t p w = subst (Happens (service w.before w.entry)) (nothing_served k w.fine) w.served

-- such a state there is: task 1 sleeps and nobody runs; a signal of plain flag 1 would bring the condition of task 2 there, and nobody can make it
pub asleep : State
asleep = run alone (start alone) (schedule 2 ∷ wait_until 9 ∷ [])

pub yes_but_nobody : (lowest_blocking alone asleep 0 2 ≡ positions) × (get_or asleep.conds (place_of 2 0) 0 ≢ alone.desired (place_of 2 0)) × ((k : Call) → ServedBy alone asleep k 2 0 → ⊥)
unfolding asleep alone rig of_task of_condition numbers of_line of_cycle iter all any lowest total over blank relax met drive names activate too_soon most_overruns more_by_one overrun takes rouse wake ready offer offers serve_flag made serving serve wait_until_count leave best chosen dispatch flag_of comes_on goes_off comes_to brought starts starts_below lowest_blocking tested scheduled effect ended again settled decide no_such_one in_cycle is_minor is_activation last_count refusals refusal lent output accepted after step run started start
yes_but_nobody = (refl, (λ z. omega (arith, z)), λ k. nobody_serves alone asleep refl (λ i. refl) k 2 0)
