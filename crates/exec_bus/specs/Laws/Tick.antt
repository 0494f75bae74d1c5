-- The tick: what its parts ask, and what it owes.
use Rattle.std.specs.Prelude.{◌≡◌, Bool, true, false, cond, leb, ltb, get_or}
use Rattle.std.proofs.Common.{sym, ◌∙◌, arith, length-append}
use Rattle.std.proofs.Math.Path.{ap}
use mathlib.Core.List.{List, [], ◌++◌}
use Prim.Native.Nat.{ℕ, suc, ◌+◌, ◌%◌, ◌≤◌}
use Rattle.std.proofs.Math.ListN.{length}
use borrow.Author.Tests.{leb-false, ltb-false}
use Rattle.laws.specs.Laws.Iter.{iter_ind}
use Rattle.laws.specs.Put.{put}
use Rattle.chains.specs.Held.{at}
use Rattle.rig.specs.Rules.{no_cycle}
use Rattle.rig.specs.declared.Cycle.{Cycle}
use Rattle.rig.specs.declared.Rig.{Rig}
use Rattle.rules.specs.Rig as G
use Rattle.rules.specs.State as S
use Rattle.rules.specs.Bus.{row_due, row_words, bus_one, bus_words}
use Rattle.rules.specs.Calls as R
use Rattle.rules.specs.Calls.{is_tick, last_count}
use Rattle.rules.specs.Waiting.{wake_due}
use Rattle.rules_laws.specs.Acceptance.{passed}
use Rattle.rules_laws.specs.Heeding.{heard_by}
use Rattle.exec_queue.specs.View.{minor_of}
use Rattle.compool.specs.View.{rows_of}
use Rattle.compool.specs.Laws.Words.{row_short}
use Rattle.exec_state.specs.View.{rig_of, view_of, work_of}
use Rattle.exec_waking.specs.Post.{TickOk, Ticked}
use Rattle.exec_state.specs.Work.{Work}
use Rattle.exec_state.specs.declared.State.{State}
use Rattle.exec_sound.specs.Sound.{SoundParts}
use Rattle.exec_refusals.specs.Rows.{tick_rows}
use Rattle.exec_outcome.specs.Outcome.{Outcome, Tells}
use Rattle.exec_outcome.specs.Laws.Meeting.{accepted_tells}
use Rattle.exec_outcome.specs.Laws.Settling.{Settled, next_is, told_is}

-- at most two words a row
bus_few : (n master : ℕ) (row : ℕ → G.Row) (count : ℕ) → length (bus_words n master row count) ≤ n + n
unfolding bus_words
bus_few n master row count =
    iter_ind (λ i l. length l ≤ i + i) (bus_one master row count) [] (omega arith) (λ i l h. go i l h (row_due (row i) count)) n
  where
    go : (i : ℕ) (l : List ℕ) → length l ≤ i + i → (b : Bool) → length (cond b (l ++ row_words master (row i)) l) ≤ suc i + suc i
    go i l h true = omega (arith, length-append l (row_words master (row i)), row_short master (row i))
    go i l h false = omega arith

-- whatever the count
pub bus_fits : (n master : ℕ) (row : ℕ → G.Row) (count r : ℕ) → r ≡ length (bus_words n master row count) → n ≤ 64 → r ≤ 128
bus_fits n master row count r e h = omega (arith, e, bus_few n master row count)

module _ (g : Rig) (cycles : List Cycle) (s : State) (h : SoundParts g cycles s) where
  pub tick_ok : (words : ℕ) → 0 ≡ R.decide (tick_rows s.count words) → TickOk s
  unfolding last_count
  tick_ok words e =
      record {
        ordered = h.state.chains.ordered;
        ahead = h.state.chains.ahead;
        range = leb-false last_count s.count (passed 8 (leb last_count s.count) _ (sym e)).0;
      }

  pub tick_room : (words : ℕ) → 0 ≡ R.decide (tick_rows s.count words) → 128 ≤ words
  tick_room words e =
      ltb-false words 128 (passed 9 (ltb words 128) [] (passed 8 (leb last_count s.count) _ (sym e)).1).0

  module _ (w : Work) (m : Ticked s cycles w) (buffer : List ℕ) where
    pub ticked_work : work_of w.st w.queue ≡ R.effect (rig_of g cycles) (view_of s) (R.tick buffer)
    unfolding R.effect
    ticked_work = m.is g

    -- the cycle of the count that the tick made is the list of the call
    its_list : (cycle : Cycle) → cycle ≡ get_or cycles (w.st.count % 64) no_cycle → at cycle.flags ≡ heard_by (rig_of g cycles) (view_of s) (R.tick buffer)
    unfolding heard_by is_tick R.ticked wake_due
    its_list cycle e =
        ap (λ (c : Cycle). at c.flags) e ∙ ap (λ (n : ℕ). minor_of cycles (n % 64)) (ap (λ (y : S.Work). y.now.count) (m.is g))

    -- the bus words of the count that the tick made, their number told beside what the serving came to
    pub tick_tells : 0 ≡ R.refusal (rig_of g cycles) (view_of s) (R.tick buffer) → (cycle : Cycle) → cycle ≡ get_or cycles (w.st.count % 64) no_cycle
        → (o : Outcome) → Settled g cycle w 0 o → (n : ℕ) (after : List ℕ)
        → n ≡ length (bus_words g.rows g.master (rows_of g.row) o.st.count)
        → after ≡ put buffer 0 (bus_words g.rows g.master (rows_of g.row) o.st.count)
        → Tells g cycles s (R.tick buffer) (record { st = o.st; refusal = o.refusal; served = o.served; woken = o.woken; activated = o.activated; words = n; value = o.value }) after
    unfolding R.ended R.accepted R.output R.words_at
    tick_tells e cycle x o k n after f b =
        let q = next_is g cycles s h (R.tick buffer) tt e w ticked_work cycle (its_list cycle x) o k in
        let c : o.st.count ≡ (R.accepted (rig_of g cycles) (view_of s) (R.tick buffer)).next.count = ap (λ (v : S.State). v.count) q in
        let ws : ℕ → List ℕ = bus_words g.rows g.master (rows_of g.row) in
        let u : n ≡ length (ws (R.accepted (rig_of g cycles) (view_of s) (R.tick buffer)).next.count) = f ∙ ap (λ (a : ℕ). length (ws a)) c in
        let t = told_is g cycles s h (R.tick buffer) tt e w ticked_work cycle (its_list cycle x) o k in
        accepted_tells g cycles s (R.tick buffer) h tt e (record { st = o.st; refusal = o.refusal; served = o.served; woken = o.woken; activated = o.activated; words = n; value = o.value }) after k.accepted q
        (λ i. record { served = (t i).served; woken = (t i).woken; activated = (t i).activated; words = u i; value = (t i).value })
        (b ∙ ap (λ (a : ℕ). put buffer 0 (ws a)) c) k.sound k.sized
