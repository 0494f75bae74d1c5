-- The soundness check: the tests that the code makes, and that they all hold exactly when the record is sound.
use Rattle.std.specs.Prelude.{◌≡◌, ◌≢◌, ◌↔◌, Bool, true, cond, List, [], ◌∷◌, ℕ, zero, suc, ◌+◌, ◌<◌, ◌≤◌, eqb, leb, length, get_or}
use Rattle.std.proofs.Math.Path.{sym, ap, subst}
use Rattle.std.proofs.Common.{◌∙◌, ⊎_elim, arith}
use borrow.Author.Tests.{leb-true, le-leb, eqb-true, eqb-false, eq-eqb}
use Rattle.laws.specs.Cases.{by}
use Rattle.laws.specs.All.{all_of}
use Rattle.laws.specs.Laws.All.{all_of_at, all_of_cons, all_of_nil, all_of_skip, all_of_last}
use Rattle.laws.specs.Members.{In, Distinct}
use Rattle.laws.specs.Laws.Tables.{has_place}
use Rattle.chains.specs.Held.{at, Held, Sized}
use Rattle.chains.specs.Held as L
use Rattle.chains.specs.Read.{chain_at, chains_of, inside}
use Rattle.chains.specs.Laws.Read.{chains_at, sound_chains, read_once, inside_low, inside_high, only_of}
use Rattle.chains.specs.declared.Links.{Links}
use Rattle.chain_tests.specs.Order.{risingb}
use Rattle.chain_tests.specs.Laws.Order.{rising_sorted, sorted_rising}
use Rattle.rig.specs.Rules.{Right}
use Rattle.rig.specs.declared.Cycle.{Cycle}
use Rattle.rig.specs.declared.Rig.{Rig}
use Rattle.rules.specs.State.{Chain, time_chain}
use Rattle.rules.specs.Serving.{most_overruns}
use Rattle.rules.specs.Running.{chosen}
use Rattle.rules.specs.Calls.{last_count}
use Rattle.rules_laws.specs.Ranks.{chosen_runs, runs_chosen}
use Rattle.rules.specs.Soundness as R
use Rattle.sound_tables.specs.Tests.{within_b, empty_b, conds_b, tree_b, waits_b, flags_b}
use Rattle.sound_tables.specs.Exact.{within_facts, within_back, empty_facts, empty_back, conds_facts, conds_back, tree_facts, tree_back, waits_facts, waits_back, flags_facts, flags_back}
use Rattle.exec_family.specs.Anchors.{anchor_of, name_of, by_name}
use Rattle.exec_family.proofs.Laws.Anchors.{anchor_chain, anchor_same, name_anchor}
use Rattle.exec_state.specs.declared.State.{State}
use Rattle.exec_sound.specs.Sound.{SoundParts}
use Rattle.exec_sound.specs.Laws.RightRig.{rig_ok}

-- the tables have these lengths in every record that a program holds, and a number of overruns is of sixteen bits
pub record Sizes (s : State) : Type 0 where
  pub state : length s.state ≡ 65
  pub value : length s.value ≡ 129
  pub cond : length s.cond ≡ 1040
  pub wake : length s.wake ≡ 65
  pub overruns : length s.overruns ≡ 65
  pub low : (t : ℕ) → get_or s.overruns t 0 ≤ 65535

-- what a rig's numbers name is there in the tables, and only its tasks have activation flags
pub record Placed (tasks : ℕ) (controllers activations : List ℕ) : Type 0 where
  pub few : tasks ≤ 64
  pub controller : (t : ℕ) → t < 65 → at controllers t < 65
  pub activation : (t : ℕ) → t < 65 → at activations t < 129
  pub flagged : R.Within tasks activations

-- the links hold chains, the time chain in order, all of it above the count
pub record ChainsSound (count : ℕ) (wake : List ℕ) (l : Links) : Type 0 where
  pub sized : Sized l
  pub links : L.HoldsChains l
  pub order : risingb (at wake) (count + 1) (by_name (chains_of l) time_chain) ≡ true

-- who runs by the rules
abbrev pub runner : Rig → State → ℕ
runner g s = chosen (at g.privileged) (at g.priority) s.state s.running

-- the tests by the tables that they look at
unfoldable pub table_tests_of : ℕ → ℕ → List ℕ → List ℕ → List ℕ → List ℕ → List ℕ → ℕ → List ℕ → List ℕ → List ℕ → List ℕ → List ℕ → List ℕ → ℕ → List Bool
table_tests_of tasks flags controller priority privileged activation present count value cond state wake overruns on running =
    leb count 2147483647 ∷
    within_b state tasks 3 ∷
    tree_b controller state ∷
    within_b value flags 1 ∷
    conds_b present cond ∷
    empty_b wake tasks ∷
    empty_b overruns tasks ∷
    flags_b activation state value ∷
    waits_b state on ∷
    leb running 64 ∷
    eqb running (chosen (at privileged) (at priority) state running) ∷
    []

abbrev pub table_tests : Rig → State → List Bool
table_tests g s =
    table_tests_of g.tasks g.flags g.controller g.priority g.privileged g.activation g.present s.count s.value s.cond s.state s.wake s.overruns s.links.on s.running

module _ (tasks flags : ℕ) (controller priority privileged activation present : List ℕ) (count : ℕ) (value cond state wake overruns on : List ℕ) (running : ℕ) where
  -- where all tests but the last hold, the last is the answer
  pub last_test : leb count 2147483647 ≡ true → within_b state tasks 3 ≡ true
      → tree_b controller state ≡ true → within_b value flags 1 ≡ true → conds_b present cond ≡ true
      → empty_b wake tasks ≡ true → empty_b overruns tasks ≡ true → flags_b activation state value ≡ true
      → waits_b state on ≡ true → leb running 64 ≡ true
      → (n : ℕ) → n ≡ chosen (at privileged) (at priority) state running
      → eqb running n ≡ all_of (table_tests_of tasks flags controller priority privileged activation present count value cond state wake overruns on running)
  unfolding table_tests_of
  last_test a b c d e f g h i j n q =
      ap (eqb running) q
      ∙ sym
      (all_of_skip _ _ a ∙ all_of_skip _ _ b ∙ all_of_skip _ _ c ∙ all_of_skip _ _ d ∙ all_of_skip _ _ e ∙ all_of_skip _ _ f ∙ all_of_skip _ _ g ∙ all_of_skip _ _ h ∙ all_of_skip _ _ i ∙ all_of_skip _ _ j ∙ all_of_last _)

-- ---- the chains that sound links show

module _ (l : Links) (h : Held l (chains_of l)) where
  seen_inside : (t s : ℕ) → In t (chains_of l s) → inside s ≡ true
  seen_inside t s i = by (inside s) (λ e. e) (λ e. absurd (subst (λ (ys : List ℕ). In t ys) (only_of l s e) i))

  abbrev shown : Chain → List ℕ
  shown = by_name (chains_of l)

  -- who is in a chain names its anchor
  pub seen : (t : ℕ) (c : Chain) → In t (shown c) → (t ≤ 64) × (at l.on t ≡ anchor_of c) × (64 < anchor_of c)
  seen t c i =
      let s = anchor_of c in
      let e = seen_inside t s i in
      let k = h.own s (inside_low s e) (inside_high s e) t i in
      (k.1, k.2, inside_low s e)

  seen_once : (s : ℕ) → Distinct (chains_of l s)
  seen_once s =
      by (inside s) (λ e. read_once l (chains_of l) h s (inside_low s e) (inside_high s e))
      (λ e. rw (only_of l s e) tt)

  seen_apart : R.Apart shown
  seen_apart t c d i j = let k = seen t c i in anchor_same c d k.2 (sym k.1 ∙ (seen t d j).1)

  -- a task names an anchor exactly when it is in a chain
  pub named : (t : ℕ) → t < 65 → at l.on t ≢ 0 → R.Somewhere t shown
  named t b n =
      let s = at l.on t in
      ⊎_elim (λ q. absurd (n q.0))
      (λ q. (name_of s, subst (λ (a : ℕ). In t (chains_of l a)) (sym (name_anchor s q.0 q.1)) q.2)) (h.task t (omega arith))

  pub names : (t : ℕ) → R.Somewhere t shown → at l.on t ≢ 0
  names t w = let k = seen t w.0 w.1 in λ q. omega (arith, k.1, k.2)

  pub chains_sound : (n : ℕ) (wakes states : List ℕ) → length states ≡ 65
      → ((t : ℕ) → t < 65 → (get_or states t 0 ≡ 2) ↔ (at l.on t ≢ 0))
      → risingb (at wakes) (n + 1) (shown time_chain) ≡ true
      → R.Chains n wakes shown states
  chains_sound n wakes states z w e =
      let k = rising_sorted (at wakes) (n + 1) (shown time_chain) e in
      record {
        listed =
            record {
              there = λ t q. let b = waiting t q in named t b ((w t b).0 q);
              two = λ t s. (w t (omega (arith, (seen t s.0 s.1).0))).1 (names t s);
            };
        apart = seen_apart;
        once = λ c. seen_once (anchor_of c);
        only = λ t c i. anchor_chain c (seen t c i).2;
        ordered = k.0;
        ahead = λ t i. omega (arith, k.1 t i);
      }
    where
      waiting : (t : ℕ) → get_or states t 0 ≡ 2 → t < 65
      waiting t q = omega (arith, has_place states t (λ y. omega (arith, q, y)))

  pub waits_agree : (n : ℕ) (wakes states : List ℕ) → R.Chains n wakes shown states
      → (t : ℕ) → t < 65 → (get_or states t 0 ≡ 2) ↔ (at l.on t ≢ 0)
  waits_agree n wakes states c t b = ((λ e. names t (c.listed.there t e)), (λ m. c.listed.two t (named t b m)))

-- ---- the time chain's test

module _ (count : ℕ) (wake : List ℕ) (l : Links) (h : L.HoldsChains l) (b : Bool) (e : b ≡ risingb (at wake) (count + 1) (chain_at l 65)) where
  is : b ≡ risingb (at wake) (count + 1) (by_name (chains_of l) time_chain)
  is = e ∙ ap (risingb (at wake) (count + 1)) (sym (chains_at l 65 (omega arith) (omega arith)))

  pub order_facts : Sized l → b ≡ true → ChainsSound count wake l
  order_facts z q = record { sized = z; links = h; order = sym is ∙ q }

  pub order_back : ChainsSound count wake l → b ≡ true
  order_back c = is ∙ c.order

-- ---- the tests and what they say

module _ (g : Rig) (cycles : List Cycle) (s : State) (z : Sizes s) (right : Right g cycles) where
  pub tests_sound : all_of (table_tests g s) ≡ true → ChainsSound s.count s.wake s.links → SoundParts g cycles s
  unfolding table_tests_of last_count most_overruns
  tests_sound e c =
      let k = all_of_at (table_tests g s) e in
      let small = within_facts s.state g.tasks 3 (k 1) in
      let values = within_facts s.value g.flags 1 (k 3) in
      let conds = conds_facts g.present s.cond z.cond (k 4) in
      record {
        rig = right;
        links = c.links;
        sized = c.sized;
        state =
            record {
              range = leb-true s.count 2147483647 (k 0);
              tasks =
                  record { sized = z.state; small = small.0; within = small.1; tree = tree_facts g.controller s.state z.state (k 2) };
              flags = record { sized = z.value; small = values.0; within = values.1 };
              conds = record { sized = z.cond; small = conds.0; within = conds.1 };
              wakes = record { sized = z.wake; within = empty_facts s.wake g.tasks z.wake (k 5) };
              overruns = record { sized = z.overruns; small = z.low; within = empty_facts s.overruns g.tasks z.overruns (k 6) };
              chains =
                  chains_sound s.links (sound_chains s.links c.links) s.count s.wake s.state z.state
                  (waits_facts s.state s.links.on (k 8)) c.order;
              agree = flags_facts g.activation s.state s.value right.shaped.activation (k 7);
              runs =
                  subst (λ (n : ℕ). R.Runs (at g.privileged) (at g.priority) s.state n)
                  (sym (eqb-true s.running (runner g s) (k 10)))
                  (chosen_runs (at g.privileged) (at g.priority) s.state z.state s.running);
            };
      }

pub running_low : (g : Rig) (cycles : List Cycle) (s : State) → SoundParts g cycles s → s.running ≤ 64
running_low g cycles s h = go s.running h.state.runs.up
  where
    go : (n : ℕ) → (n ≢ 0 → get_or s.state n 0 ≡ 3) → n ≤ 64
    go zero f = omega arith
    go (suc n) f =
        let e = f (λ q. omega arith) in
        omega (arith, has_place s.state (suc n) (λ q. omega (arith, e, q)), h.state.tasks.sized)

pub sound_tests : (g : Rig) (cycles : List Cycle) (s : State) → SoundParts g cycles s → all_of (table_tests g s) ≡ true
unfolding table_tests_of last_count
sound_tests g cycles s h =
    let p = h.state in
    all_of_cons _ _ (le-leb s.count 2147483647 p.range)
    (all_of_cons _ _ (within_back s.state g.tasks 3 p.tasks.small p.tasks.within)
    (all_of_cons _ _ (tree_back g.controller s.state p.tasks.tree)
    (all_of_cons _ _ (within_back s.value g.flags 1 p.flags.small p.flags.within)
    (all_of_cons _ _ (conds_back g.present s.cond p.conds.small p.conds.within)
    (all_of_cons _ _ (empty_back s.wake g.tasks p.wakes.within)
    (all_of_cons _ _ (empty_back s.overruns g.tasks p.overruns.within)
    (all_of_cons _ _ (flags_back g.activation s.state s.value p.agree)
    (all_of_cons _ _
    (waits_back s.state s.links.on (waits_agree s.links (sound_chains s.links h.links) s.count s.wake s.state p.chains))
    (all_of_cons _ _ (le-leb s.running 64 (running_low g cycles s h))
    (all_of_cons _ _
    (eq-eqb s.running (runner g s)
    (sym (runs_chosen (at g.privileged) (at g.priority) s.state p.tasks.sized s.running p.runs)))
    all_of_nil))))))))))

pub sound_order : (g : Rig) (cycles : List Cycle) (s : State) → SoundParts g cycles s → ChainsSound s.count s.wake s.links
sound_order g cycles s h =
    record {
      sized = h.sized;
      links = h.links;
      order =
          sorted_rising (at s.wake) (s.count + 1) (by_name (chains_of s.links) time_chain) h.state.chains.ordered
          (λ a i. omega (arith, h.state.chains.ahead a i));
    }

-- what the tests ask of the rig and of the count
pub placed : (g : Rig) (cycles : List Cycle) → Right g cycles → Placed g.tasks g.controller g.activation
placed g cycles h =
    let ok = rig_ok g cycles h in
    record {
      few = ok.tasks_le;
      controller = λ t b.
          by (eqb t 0)
          (λ e. let z : t ≡ 0 = eqb-true t 0 e in omega (arith, ap (at g.controller) z, ok.controller_none))
          (λ e. omega (arith, ok.controller_low t (eqb-false t 0 e)));
      activation = λ t b. omega (arith, ok.activation_le t, h.flag_count.1);
      flagged = ok.activation_task;
    }

pub count_low : (g : Rig) (s : State) → all_of (table_tests g s) ≡ true → s.count ≤ 2147483647
unfolding table_tests_of
count_low g s e = leb-true s.count 2147483647 (all_of_at (table_tests g s) e 0)
