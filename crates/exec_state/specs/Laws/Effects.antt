-- What each call does before its queue is served.
use Rattle.std.specs.Prelude.{◌≡◌, refl, List, [], ℕ, set, replicate}
use Rattle.std.proofs.Common.{◌∙◌, ap}
use Rattle.chains.specs.Held.{at, Empty, Sized}
use Rattle.chains.specs.Read.{chains_of}
use Rattle.chains.specs.Laws.Read.{held_chains}
use Rattle.chains.specs.declared.Links.{Links}
use Rattle.exec_family.specs.Anchors.{by_name}
use Rattle.exec_family.specs.Post.{Left, Deserted}
use Rattle.exec_queue.specs.Post.{Pushed}
use Rattle.exec_queue.specs.View.{entries_of}
use Rattle.exec_queue.specs.declared.Queue.{Queue}
use Rattle.rig.specs.declared.Rig.{Rig}
use Rattle.rules.specs.State.{Chain, Entry, with_chains, blank}
use Rattle.rules.specs.Serving.{push}
use Rattle.rules.specs.Running.{chosen, dispatch}
use Rattle.rules.specs.Family.{family, cleared, deserted, offs}
use Rattle.rules.specs.Calls.{finished, terminated, cancelled}
use Rattle.exec_state.specs.View.{view_of}
use Rattle.exec_state.specs.Set.{put_state, put_links, put_running, with_ranks}
use Rattle.exec_state.specs.Post.{Finished, Terminated, Cancelled, Dispatched, Blank}
use Rattle.exec_state.specs.declared.State.{State}

-- what one push onto an empty queue makes
pub pushed_one : (q p : Queue) (f v : ℕ) → entries_of q ≡ [] → Pushed q f v p → entries_of p ≡ push f v []
pushed_one q p f v e m = m.is ∙ ap (push f v) e

pub finished_is : (s : State) (g : Rig) (q : Queue) → entries_of q ≡ push (at g.activation s.running) 0 []
    → Finished s g (record { st = put_running (put_state s (set s.state s.running 1)) 0; queue = q })
unfolding finished
finished_is s g q e =
    record {
      is = λ cycles. ap (λ (x : List Entry). record { now = view_of (put_running (put_state s (set s.state s.running 1)) 0); queue = x }) e;
      links = refl;
    }

pub terminated_is : (s : State) (g : Rig) (t : ℕ) (q : Queue) → entries_of q ≡ push (at g.activation t) 0 [] → (l : Links) → Left s.links t l
    → Terminated s g t (record { st = put_links (put_state s (set s.state t 1)) l; queue = q })
unfolding terminated
terminated_is s g t q e l m =
    record {
      is = λ cycles.
          ap (λ (x : List Entry). record { now = view_of (put_links (put_state s (set s.state t 1)) l); queue = x }) e
          ∙ ap (λ (X : Chain → List ℕ). record { now = with_chains (view_of s) (set s.state t 1) X; queue = push (at g.activation t) 0 [] }) m.is;
      sound = m.sound;
    }

pub cancelled_is : (s : State) (g : Rig) (t : ℕ) (marks : List ℕ) → marks ≡ family (at g.controller) t → (q : Queue)
    → entries_of q ≡ offs (at g.activation) marks s.state → (l : Links) → Deserted s.links marks l → (states : List ℕ)
    → states ≡ cleared marks s.state → Cancelled s g t (record { st = put_links (put_state s states) l; queue = q })
unfolding cancelled
cancelled_is s g t marks k q e l m states c =
    record {
      is = λ cycles.
          ap (λ (x : List Entry). record { now = view_of (put_links (put_state s states) l); queue = x }) e
          ∙ ap (λ (X : Chain → List ℕ). record { now = with_chains (view_of s) states X; queue = offs (at g.activation) marks s.state }) m.is
          ∙ ap (λ (x : List ℕ). record { now = with_chains (view_of s) x (deserted marks (by_name (chains_of s.links))); queue = offs (at g.activation) marks s.state }) c
          ∙ ap (λ (x : List ℕ). record { now = with_chains (view_of s) (cleared x s.state) (deserted x (by_name (chains_of s.links))); queue = offs (at g.activation) x s.state }) k;
      sound = m.sound;
    }

-- ---- dispatch

pub dispatched_is : (s : State) (g : Rig) (n : ℕ) → n ≡ chosen (at g.privileged) (at g.priority) s.state s.running → Sized s.links
    → Dispatched s g (put_running s n)
unfolding dispatch
dispatched_is s g n e z = record { is = λ cycles. ap (λ (x : ℕ). view_of (put_running s x)) e; links = refl; sized = z }

-- it looks at privileges and priorities alone: so it is the dispatch of any rig that has them
pub dispatched_ranks : (s : State) (g h : Rig) (r : State) → Dispatched s g r → Dispatched s (with_ranks g.privileged g.priority h) r
unfolding dispatch
dispatched_ranks s g h r d = record { is = d.is; links = d.links; sized = d.sized }

-- ---- the blank state

pub blank_is : (l : Links) → Empty l
    → Blank (record { count = 0; value = replicate 129 0; cond = replicate 1040 0; state = replicate 65 0; wake = replicate 65 0; overruns = replicate 65 0; links = l; running = 0 })
unfolding blank
blank_is l h =
    record {
      is = ap
          (λ (X : ℕ → List ℕ).
          record { count = 0; flags = replicate 129 0; conds = replicate 1040 0; states = replicate 65 0; wakes = replicate 65 0; overruns = replicate 65 0; chains = by_name X; running = 0 })
          (held_chains l (λ (s : ℕ). []) h (λ s e. refl));
      sound = ((λ (s : ℕ). []), h);
    }
