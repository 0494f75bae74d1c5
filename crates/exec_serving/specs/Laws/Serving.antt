-- One entry is served; then the next, until the queue is empty.
use Rattle.std.specs.Prelude.{◌≡◌, refl, true, false, ◌&&◌, List, [], ◌∷◌, ℕ, suc, ◌+◌, ◌*◌, ◌≤◌, ◌<◌, eqb, length, get_or, set, replicate}
use Rattle.std.proofs.Math.Path.{sym, ap}
use Rattle.std.proofs.Common.{◌∙◌, subst, true≢false}
use native.Mathlib.Omega.{arith}
use Rattle.laws.specs.Cases.{and_true}
use Rattle.laws.specs.Laws.Stores.{stores_keep}
use Rattle.chains.specs.Held.{at, HoldsChains}
use Rattle.chains.specs.Read.{chains_of}
use Rattle.chains.specs.declared.Links.{Links}
use Rattle.exec_family.specs.Anchors.{anchor_of}
use Rattle.exec_family.proofs.Laws.Anchors.{anchor_flag}
use Rattle.rig.specs.declared.Cycle.{Cycle}
use Rattle.rig.specs.declared.Rig.{Rig}
use Rattle.rules.specs.Rig as G
use Rattle.rules.specs.Rig.{in_cycle, is_minor}
use Rattle.rules.specs.State as S
use Rattle.rules.specs.State.{Chain, chain_of, Entry, state_of}
use Rattle.rules.specs.Conditions.{drive, names}
use Rattle.rules.specs.Serving.{push, too_soon, more_by_one, overrun, takes, wake, offers, serve_flag, made, woken_by, activated_by, another, serve, inactives}
use Rattle.rules_laws.specs.Serve.{load, wake_load, serve_flag_load, serve_nil, serve_cons}
use Rattle.rules_laws.specs.Heard.{ChainsIn, service_woken, service_activated, service_chains}
use Rattle.rules_laws.specs.Heeding.{each_push, each_serve_flag}
use Rattle.exec_conditions.specs.Lines.{marked}
use Rattle.exec_conditions.specs.Laws.Driving.{marked_names}
use Rattle.exec_queue.specs.View.{entries_of}
use Rattle.exec_queue.specs.Laws.Cycles.{one_cycle}
use Rattle.exec_queue.specs.Laws.Queued.{queue_length}
use Rattle.exec_queue.specs.declared.Queue.{Queue}
use Rattle.exec_state.specs.View.{view_of, work_of}
use Rattle.exec_state.specs.Set.{put_value, put_cond, put_state, put_overruns, put_links}
use Rattle.exec_state.specs.Post.{FlagOk}
use Rattle.exec_serving.specs.View.{rig_in_cycle}
use Rattle.exec_serving.specs.Post.{Servable, CountsSoon, Served, Emptied}
use Rattle.exec_overruns.specs.Post.{Counted}
use Rattle.exec_waking.specs.Post.{Woken, Rouses}
use Rattle.exec_offers.specs.Post.{Offered}
use Rattle.exec_state.specs.declared.State.{State}
use Rattle.exec_state.specs.Work.{Work}

-- ---- those whose start comes too soon

-- nobody's, by a flag that is no minor-cycle flag
overrun_plain : (r : G.Rig) (f : ℕ) (s : S.State) → is_minor r.minor f ≡ false → s.overruns ≡ overrun r f s
unfolding overrun too_soon
overrun_plain r f s e =
    stores_keep (λ i. too_soon r f s (i + 1)) (λ i. i + 1) (λ i. more_by_one (S.overruns_of s (i + 1))) (λ l. s.overruns ≡ l) 64
    (λ i l a t h. absurd (true≢false (sym (minor (i + 1) t) ∙ e))) s.overruns refl
  where
    minor : (t : ℕ) → too_soon r f s t ≡ true → is_minor r.minor f ≡ true
    minor t h =
        let k = names r.lines r.line_task r.line_flag t f in
        (and_true k (is_minor r.minor f) (and_true (eqb (S.active (state_of s t)) 1) (k && is_minor r.minor f) h).1).1

module _ (cycle : Cycle) (f : ℕ) (named states numbers : List ℕ) where
  -- the flag is on the cycle's list
  pub counts_minor : (after : List ℕ) → in_cycle (at cycle.flags) f ≡ true → Counted named states numbers after
      → CountsSoon cycle f named states numbers after
  counts_minor after e c g s some m =
      c (rig_in_cycle g cycle) f (view_of s)
      (record {
        minor = one_cycle cycle f some ∙ e;
        those = λ t b. marked_names g.lines (at g.line_task) (at g.line_flag) f t b ∙ ap (λ (l : List ℕ). eqb (get_or l t 0) 1) (sym m);
      })

  -- or not
  pub counts_other : in_cycle (at cycle.flags) f ≡ false → CountsSoon cycle f named states numbers numbers
  counts_other e g s some m = overrun_plain (rig_in_cycle g cycle) f (view_of (put_overruns (put_state s states) numbers)) (one_cycle cycle f some ∙ e)

-- ---- one service

module _ (s : State) (q : Queue) (g : Rig) (cycle : Cycle) (f v : ℕ) (c : List ℕ)
    (e : c ≡ drive g.lines (at g.line_task) (at g.line_pos) (at g.line_flag) f v s.cond) (n : List ℕ)
    (x : n ≡ overrun (rig_in_cycle g cycle) f (view_of s)) (s2 : State)
    (w : Woken (put_overruns (put_cond (put_value s (set s.value f v)) c) n) (chain_of f v) s2) where
  abbrev took : State
  took = put_overruns (put_cond (put_value s (set s.value f v)) c) n

  taken : view_of took ≡ takes (rig_in_cycle g cycle) (record { flag = f; value = v }) (view_of s)
  unfolding takes
  taken i = view_of (put_overruns (put_cond (put_value s (set s.value f v)) (e i)) (x i))

  pub served_room : load (work_of s q) ≤ 79 → load (work_of s2 q) ≤ 79
  served_room h =
      omega (
        arith,
        ap (λ (x : S.State). inactives x.states) w.is,
        wake_load (chain_of f v) (view_of took),
      )

  module _ (r : Work) (o : Offered (record { st = s2; queue = q }) g f r) (h : ChainsIn (view_of s)) where
    abbrev entry : Entry
    entry = record { flag = f; value = v }

    after_is : work_of r.st r.queue ≡ serve_flag (rig_in_cycle g cycle) entry (view_of s) (entries_of q)
    unfolding serve_flag
    after_is =
        o.is (cycle ∷ [])
        ∙ ap (λ (y : S.State). offers (rig_in_cycle g cycle) f 64 (record { now = y; queue = entries_of q }))
        (w.is ∙ ap (wake (chain_of f v)) taken)

    all_woken : (n : ℕ) → n ≡ length ((view_of s).chains (chain_of f v)) → n ≡ made 2 s.state r.st.state
    all_woken n e =
        e ∙ sym (service_woken (rig_in_cycle g cycle) entry (view_of s) (entries_of q) h)
        ∙ ap (λ (y : S.Work). made 2 s.state y.now.states) (sym after_is)

    all_activated : (n : ℕ) → n ≡ made 1 s2.state r.st.state → n ≡ made 1 s.state r.st.state
    all_activated n e =
        e ∙ ap (λ (y : S.State). made 1 y.states r.st.state) (w.is ∙ ap (wake (chain_of f v)) taken)
        ∙ service_activated (rig_in_cycle g cycle) entry (view_of s) (entries_of q) h r.st.state

    pub served_is : (n m : ℕ) → n ≡ length ((view_of s).chains (chain_of f v)) → m ≡ made 1 s2.state r.st.state → Served s q g cycle f v r n m
    served_is n m a b =
        record {
          is = after_is;
          sound = subst (λ (l : Links). HoldsChains l) (sym o.links) w.sound;
          woken_is = all_woken n a;
          activated_is = all_activated m b;
        }

-- all who waited in a chain are woken, where m were before: then they are n
pub record MoreWoken (s : State) (c : Chain) (r : State) (m n : ℕ) : Type 0 where
  pub woken : Woken s c r
  pub few : length ((view_of s).chains c) ≤ 64
  pub sum : n ≡ m + length ((view_of s).chains c)

pub more_woken : (l : Links) (states : List ℕ) (a : ℕ) (k : Links) (w : ℕ) (after : List ℕ) → Rouses l states a (record { links = k; woken = w }) after
    → (s : State) (c : Chain) → anchor_of c ≡ a → (m n : ℕ) → n ≡ m + w → MoreWoken (put_links (put_state s states) l) c (put_links (put_state s after) k) m n
more_woken l states a k w after h s c e m n q =
    let many = h.many ∙ ap (λ (b : ℕ). length (chains_of l b)) (sym e) in
    record { woken = h.awoken s c e; few = omega (arith, many, h.few); sum = omega (arith, many, q) }

-- the entry of a flag and a value is stored and its lines driven, who starts too soon is counted, and who waited is woken
module _ (g : Rig) (cycle : Cycle) (s : State) (f v : ℕ) (ok : FlagOk f v) (conds who numbers states : List ℕ) (links : Links) (n : ℕ)
    (d : (conds ≡ drive g.lines (at g.line_task) (at g.line_pos) (at g.line_flag) f v s.cond) × (who ≡ marked g.lines (at g.line_task) (at g.line_flag) f (replicate 65 0)))
    (c : CountsSoon cycle f who s.state s.overruns numbers)
    (w : Rouses s.links s.state (64 + 2 * f + v) (record { links = links; woken = n }) states) where
  abbrev stored : State
  stored = put_overruns (put_cond (put_value s (set s.value f v)) conds) numbers

  abbrev pub heard : State
  heard = put_links (put_state stored states) links

  anchor : anchor_of (chain_of f v) ≡ 64 + 2 * f + v
  anchor = anchor_flag f v (ok.some, ok.flag, ok.value)

  counted : numbers ≡ overrun (rig_in_cycle g cycle) f (view_of s)
  counted = c g s (λ z. omega (arith, ok.some, z)) d.1

  awoken : Woken stored (chain_of f v) heard
  awoken = w.awoken stored (chain_of f v) anchor

  pub heard_room : (q : Queue) → load (work_of s q) ≤ 79 → load (work_of heard q) ≤ 79
  heard_room q = served_room s q g cycle f v conds d.0 numbers counted heard awoken

  -- and the flag is offered
  pub heard_served : (q : Queue) (r : Work) (m : ℕ) → Offered (record { st = heard; queue = q }) g f r → ChainsIn (view_of s)
      → m ≡ made 1 heard.state r.st.state → Served s q g cycle f v r n m
  heard_served q r m o h e =
      served_is s q g cycle f v conds d.0 numbers counted heard awoken r o h n m (w.many ∙ ap (λ (a : ℕ). length (chains_of s.links a)) (sym anchor)) e

-- ---- what is queued stays flags and values

pub servable_push : (f v : ℕ) (q : List Entry) → f ≤ 128 → v ≤ 1 → Servable q → Servable (push f v q)
servable_push f v q a b h = each_push _ f v q (λ n. record { some = omega (arith, n); flag = a; value = b }) h

pub servable_serve_flag : (r : G.Rig) → ((t : ℕ) → r.activation t ≤ 128) → (e : Entry) (s : S.State) (q : List Entry) → Servable q
    → Servable (serve_flag r e s q).queue
servable_serve_flag r ok e s q h =
    each_serve_flag r (λ x. FlagOk x.flag x.value) (λ t n. record { some = omega (arith, n); flag = ok t; value = omega arith }) e s q h

-- ---- the loop

-- d with k flags more served, m tasks more woken, and n more activated
abbrev pub more : ℕ → ℕ → ℕ → S.Done → S.Done
more k m n d = record { now = d.now; served = k + d.served; woken = m + d.woken; activated = n + d.activated }

-- k entries are served
pub record Turned (g : Rig) (cycle : Cycle) (s₀ : State) (q₀ : Queue) (s : State) (q : Queue) (k m n : ℕ) : Type 0 where
  pub is : serve (rig_in_cycle g cycle) (work_of s₀ q₀) ≡ more k m n (serve (rig_in_cycle g cycle) (work_of s q))
  pub sound : HoldsChains s.links
  pub chains : ChainsIn (view_of s)
  pub room : k + load (work_of s q) ≤ 79
  pub few : (m ≤ 64 * k) × (n ≤ 64 * k)
  pub entries : Servable (entries_of q)

module _ (g : Rig) (cycle : Cycle) (s₀ : State) (q₀ : Queue) where
  pub turned_start : HoldsChains s₀.links → ChainsIn (view_of s₀) → load (work_of s₀ q₀) ≤ 79 → Servable (entries_of q₀) → Turned g cycle s₀ q₀ s₀ q₀ 0 0 0
  turned_start a h b c =
      record {
        is =
            let d = serve (rig_in_cycle g cycle) (work_of s₀ q₀) in
            λ i. record { now = d.now; served = zero_left d.served i; woken = zero_left d.woken i; activated = zero_left d.activated i };
        sound = a;
        chains = h;
        room = omega (arith, b);
        few = (omega arith, omega arith);
        entries = c;
      }
    where
      zero_left : (n : ℕ) → n ≡ 0 + n
      zero_left n = omega arith

  module _ (s : State) (q : Queue) (k m n : ℕ) (h : Turned g cycle s₀ q₀ s q k m n) where
    pub short : q.n ≤ 79
    short = omega (arith, h.room, queue_length q)

    pub turned_done : entries_of q ≡ [] → Emptied g cycle s₀ q₀ (record { st = s; served = k; woken = m; activated = n })
    turned_done e =
        record {
          is =
              sym
              (h.is
              ∙ ap (λ (l : List Entry). more k m n (serve (rig_in_cycle g cycle) (record { now = view_of s; queue = l }))) e
              ∙ ap (more k m n) (serve_nil (rig_in_cycle g cycle) (view_of s))
              ∙ (λ i. record { now = view_of s; served = zero_right k i; woken = zero_right m i; activated = zero_right n i }));
          sound = h.sound;
          chains = h.chains;
          few = omega (arith, h.room);
          small = h.few;
        }
      where
        zero_right : (n : ℕ) → n + 0 ≡ n
        zero_right n = omega arith

    -- one entry, the last, is taken off
    module _ (f v : ℕ) (popped : Queue) (split : entries_of q ≡ record { flag = f; value = v } ∷ entries_of popped) where
      pub last_ok : FlagOk f v
      last_ok = (subst (λ (l : List Entry). Servable l) split h.entries).0

      rest_load : suc (load (work_of s popped)) ≡ load (work_of s q)
      rest_load = omega (arith, ap length split)

      pub rest_room : load (work_of s popped) ≤ 79
      rest_room = omega (arith, h.room, rest_load)

      module _ (a : (t : ℕ) → at g.activation t ≤ 128) (r : Work) (x y : ℕ) (z : Served s popped g cycle f v r x y) where
        load_is : load (work_of r.st r.queue) ≤ load (work_of s popped)
        load_is = omega (arith, ap load z.is, serve_flag_load (rig_in_cycle g cycle) (record { flag = f; value = v }) (view_of s) (entries_of popped))

        pub turned_falls : load (work_of r.st r.queue) < load (work_of s q)
        turned_falls = omega (arith, load_is, rest_load)

        next_is : serve (rig_in_cycle g cycle) (work_of s₀ q₀) ≡ more (k + 1) (m + x) (n + y) (serve (rig_in_cycle g cycle) (work_of r.st r.queue))
        next_is =
            let d = serve (rig_in_cycle g cycle) (work_of r.st r.queue) in
            h.is
            ∙ ap (λ (l : List Entry). more k m n (serve (rig_in_cycle g cycle) (record { now = view_of s; queue = l }))) split
            ∙ ap (more k m n) (serve_cons (rig_in_cycle g cycle) (view_of s) (record { flag = f; value = v }) (entries_of popped))
            ∙ ap (λ (w : S.Work). more k m n (another (woken_by (view_of s) w) (activated_by (view_of s) w) (serve (rig_in_cycle g cycle) w))) (sym z.is)
            ∙ (λ i. record {
              now = d.now;
              served = shift k d.served i;
              woken = join m x (made 2 s.state r.st.state) d.woken z.woken_is i;
              activated = join n y (made 1 s.state r.st.state) d.activated z.activated_is i;
            })
          where
            shift : (a b : ℕ) → a + suc b ≡ a + 1 + b
            shift a b = omega arith

            join : (a b c d : ℕ) → b ≡ c → a + (c + d) ≡ a + b + d
            join a b c d e = omega arith

        pub turned_step : x ≤ 64 → y ≤ 64 → (p : ℕ) → p ≡ m + x → Turned g cycle s₀ q₀ r.st r.queue (k + 1) p (n + y)
        turned_step b c p d =
            record {
              is = next_is ∙ ap (λ (w : ℕ). more (k + 1) w (n + y) (serve (rig_in_cycle g cycle) (work_of r.st r.queue))) (sym d);
              sound = z.sound;
              chains =
                  subst (λ (w : S.Work). ChainsIn w.now) (sym z.is)
                  (service_chains (rig_in_cycle g cycle) (record { flag = f; value = v }) (view_of s) (entries_of popped) h.chains);
              room = omega (arith, load_is, rest_load, h.room);
              few = (omega (arith, h.few.0), omega (arith, h.few.1));
              entries =
                  subst (λ (w : S.Work). Servable w.queue) (sym z.is)
                  (servable_serve_flag (rig_in_cycle g cycle) a (record { flag = f; value = v }) (view_of s) (entries_of popped)
                  (subst (λ (l : List Entry). Servable l) split h.entries).1);
            }
