-- Laws of the definitions of Read.antt.
use Rattle.std.specs.Prelude.{◌≡◌, true, List, reverse, ℕ, ◌≤◌, ◌<◌, ltb}
use Rattle.std.proofs.Common.{sym, ◌∙◌, ap, subst, inl, inr, ⊎_elim, true≢false, ltb-true, lt-ltb}
use Rattle.std.proofs.Math.Path.{fun_ext}
use Rattle.laws.specs.Cases.{by}
use Rattle.laws.specs.Laws.All.{and_left, and_right}
use Rattle.laws.specs.Functions.{upd}
use Rattle.laws.specs.Laws.Functions.{upd_other}
use Rattle.laws.specs.Members.{In, Distinct}
use Rattle.chains.specs.Link.{Chain}
use Rattle.chains.specs.Chains.{LinkedChains}
use Rattle.chains.specs.Laws.Chains.{nodes_distinct}
use Rattle.chains.specs.Laws.Ops.{forward, reversed}
use Rattle.chains.specs.Laws.Check.{accepted_sound, sound_accepted}
use Rattle.chains.specs.Held.{at, Held, HoldsChains}
use Rattle.chains.specs.declared.Links.{Links}
use Rattle.chains.specs.Read.{chain_at, back_at, chains_of, inside, Only}

module _ (l : Links) (X : ℕ → List ℕ) (h : Held l X) (s : ℕ) (ls : 64 < s) (hs : s < 322) where
  pub read_forward : chain_at l s ≡ X s
  read_forward = forward 64 322 (at l.next) (at l.prev) (at l.on) X h s ls hs

  pub read_backward : back_at l s ≡ reverse (X s)
  read_backward = reversed 64 322 (at l.next) (at l.prev) (at l.on) X h s ls hs

  pub read_once : Distinct (X s)
  read_once = (nodes_distinct 64 322 (at l.next) (at l.prev) (at l.on) X h s ls hs).1

-- sound links hold the chains that one reads in them
pub sound_held : (l : Links) → HoldsChains l → Held l (chain_at l)
sound_held l h =
    accepted_sound 64 322 (at l.next) (at l.prev) (at l.on)
    (sound_accepted 64 322 (at l.next) (at l.prev) (at l.on) h.0 h.1)

-- ---- all chains at once, as one function of the links: what is no anchor has no chain

pub inside_low : (s : ℕ) → inside s ≡ true → 64 < s
inside_low s e = ltb-true 64 s (and_left (ltb 64 s) (ltb s 322) e)

pub inside_high : (s : ℕ) → inside s ≡ true → s < 322
inside_high s e = ltb-true s 322 (and_right (ltb 64 s) (ltb s 322) e)

pub inside_is : (s : ℕ) → 64 < s → s < 322 → inside s ≡ true
inside_is s a b = rw (lt-ltb 64 s a, lt-ltb s 322 b)

pub only_of : (l : Links) → Only (chains_of l)
unfolding chains_of
only_of l s e = rw e

pub only_upd : (X : ℕ → List ℕ) (s : ℕ) (ys : List ℕ) → 64 < s → s < 322 → Only X → Only (upd X s ys)
only_upd X s ys a b h d e =
    upd_other X s ys d (λ q. true≢false (sym (inside_is s a b) ∙ ap inside (sym q) ∙ e)) ∙ h d e

-- the links show the chains that they hold
pub held_chains : (l : Links) (X : ℕ → List ℕ) → Held l X → Only X → chains_of l ≡ X
unfolding chains_of
held_chains l X h o =
    fun_ext λ s.
    by (inside s)
    (λ e. rw e (read_forward l X h s (inside_low s e) (inside_high s e)))
    (λ e. rw e (sym (o s e)))

-- chains that are the same at each anchor are held by the same links
pub chains_ext : (T M : ℕ) (N P O : ℕ → ℕ) (X Y : ℕ → List ℕ) → LinkedChains T M N P O X → ((s : ℕ) → T < s → s < M → X s ≡ Y s) → LinkedChains T M N P O Y
chains_ext T M N P O X Y h e =
    record {
      link = λ s a b. subst (λ (l : List ℕ). Chain N P s l) (e s a b) (h.link s a b);
      own = λ s a b x i. h.own s a b x (subst (λ (l : List ℕ). In x l) (sym (e s a b)) i);
      task = λ x x_t. ⊎_elim (λ k. inl k) (λ k. inr (k.0, k.1, subst (λ (l : List ℕ). In x l) (e (O x) k.0 k.1) k.2)) (h.task x x_t);
    }

pub chains_at : (l : Links) (s : ℕ) → 64 < s → s < 322 → chains_of l s ≡ chain_at l s
unfolding chains_of
chains_at l s a b = rw (inside_is s a b)

-- sound links hold the chains that they show
pub sound_chains : (l : Links) → HoldsChains l → Held l (chains_of l)
sound_chains l h =
    chains_ext 64 322 (at l.next) (at l.prev) (at l.on) (chain_at l) (chains_of l) (sound_held l h) (λ s a b. sym (chains_at l s a b))

-- a task that is in no chain names none
pub idle_out : (l : Links) → HoldsChains l → (t : ℕ) → t ≤ 64 → ((s : ℕ) → In t (chains_of l s) → ⊥) → at l.on t ≡ 0
idle_out l h t b n = ⊎_elim (λ k. k.0) (λ k. absurd (n (at l.on t) k.2)) ((sound_chains l h).task t b)
