-- The running task begins to wait: at the end of a flag's chain, or in its place in the time chain.
use Rattle.std.proofs.Common.{sym, arith, lit<}
use Rattle.std.proofs.Math.Path.{ap, subst}
use mathlib.Core.List.{List, [], ◌∷◌, ◌++◌}
use Rattle.std.specs.Prelude.{ℕ, ◌+◌, ◌*◌, ◌<◌}
use Rattle.std.proofs.Math.ListN.{set}
use Rattle.laws.specs.Functions.{upd}
use Rattle.laws.specs.Order.{insert_by}
use Rattle.chains.specs.Held.{at, Held, Puts, Joins, Places}
use Rattle.chains.specs.Read.{chains_of}
use Rattle.chains.specs.Laws.Read.{sound_chains}
use Rattle.chains.specs.declared.Links.{Links}
use Rattle.exec_family.specs.Anchors.{anchor_of}
use Rattle.exec_family.proofs.Laws.Anchors.{anchor_flag, named_put}
use Rattle.rules.specs.State.{Chain, time_chain, chain_of, with_chains, with_running, with_wakes}
use Rattle.rules.specs.Soundness.{IsChain}
use Rattle.rules.specs.Waiting.{wait_on, wait_until_count}
use Rattle.exec_state.specs.View.{view_of}
use Rattle.exec_state.specs.Set.{put_state, put_links, put_running, put_wake}
use Rattle.exec_state.specs.Post.{FlagOk}
use Rattle.exec_waiting.specs.Post.{MayWait, WaitsOn, WaitsUntil}
use Rattle.exec_state.specs.declared.State.{State}

module _ (s : State) (m : MayWait s) where
  puts_at : (c : ℕ) → 64 < c → c < 322 → Puts s.links c c s.running
  puts_at c a b =
      record { low = a; high = b; some = m.some; task = m.task; idle = m.idle; node = omega (arith, a); inside = b }

  module _ (f v : ℕ) (k : FlagOk f v) where
    pub puts_flag : Puts s.links (64 + 2 * f + v) (64 + 2 * f + v) s.running
    puts_flag = puts_at (64 + 2 * f + v) (omega (arith, k.some)) (omega (arith, k.flag, k.value))

    pub waits_on : (l : Links) → Joins s.links (64 + 2 * f + v) s.running l
        → WaitsOn s f v (put_running (put_links (put_state s (set s.state s.running 2)) l) 0)
    unfolding wait_on
    waits_on l j =
        let X = chains_of s.links in
        let c = chain_of f v in
        let o : IsChain (chain_of f v) = (k.some, k.flag, k.value) in
        let a = anchor_of c in
        let ys = X a ++ s.running ∷ [] in
        let h : Held l (upd X a ys) =
        subst (λ (n : ℕ). Joins s.links n s.running l) (sym (anchor_flag f v o)) j X (sound_chains s.links m.sound) in
        record {
          is = ap (λ (Y : Chain → List ℕ). with_running (with_chains (view_of s) (set s.state s.running 2) Y) 0) (named_put c o ys s.links l h);
          sound = (upd X a ys, h);
        }

  pub puts_time : Puts s.links 65 65 s.running
  puts_time = puts_at 65 (lit< tt) (lit< tt)

  pub waits_until : (count : ℕ) (l : Links) → Places s.links (set s.wake s.running count) 65 s.running l
      → WaitsUntil s count (put_running (put_links (put_state (put_wake s (set s.wake s.running count)) (set s.state s.running 2)) l) 0)
  unfolding wait_until_count
  waits_until count l p =
      let X = chains_of s.links in
      let w = set s.wake s.running count in
      let ys = insert_by (at w) s.running (X 65) in
      let h : Held l (upd X 65 ys) = p X (sound_chains s.links m.sound) in
      record {
        is = ap (λ (Y : Chain → List ℕ). with_running (with_chains (with_wakes (view_of s) w) (set s.state s.running 2) Y) 0) (named_put time_chain tt ys s.links l h);
        sound = (upd X 65 ys, h);
      }
