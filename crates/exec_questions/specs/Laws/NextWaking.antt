-- The head of the time chain: who it is, and that its waking count is what is asked for.
use Rattle.std.specs.Prelude.{◌≡◌, ◌≢◌, ℕ, ◌≤◌, eqb}
use Rattle.std.proofs.Math.Path.{refl, sym}
use Rattle.std.proofs.Common.{◌∙◌, inr, ⊎_elim, arith, lit<, eqb-true}
use mathlib.Core.List.{List, [], append-nil}
use Rattle.std.proofs.lemmas.Bool.{eqb-false}
use Rattle.laws.specs.Cases.{by}
use Rattle.chains.specs.Link.{last}
use Rattle.chains.specs.Laws.Link.{in_last}
use Rattle.chains.specs.Laws.Chains.{at_place}
use Rattle.chains.specs.Held.{at}
use Rattle.chains.specs.Read.{chains_of}
use Rattle.chains.specs.Laws.Front.{Leaving, leaving_start, left_start, left_none, leaving_task, leaving_own}
use Rattle.chains.specs.Laws.Read.{sound_chains}
use Rattle.rig.specs.declared.Cycle.{Cycle}
use Rattle.rig.specs.declared.Rig.{Rig}
use Rattle.rules.specs.Rig as G
use Rattle.rules.specs.Calls as R
use Rattle.rules.specs.NextWaking.{lowest_waking}
use Rattle.rules_laws.specs.NextWaking.{nobody_there, head_lowest}
use Rattle.exec_state.specs.View.{rig_of, view_of}
use Rattle.exec_state.specs.declared.State.{State}
use Rattle.exec_sound.specs.Sound.{SoundParts}
use Rattle.exec_refusals.specs.Numbers.{not_sound_no}
use Rattle.exec_outcome.specs.Outcome.{Outcome, Tells, refused_by, kept_with}
use Rattle.exec_outcome.specs.Laws.Meeting.{kept_tells}

module _ (g : Rig) (cycles : List Cycle) (s : State) where
  asked_lent : [] ≡ R.lent R.next_waking
  unfolding R.lent
  asked_lent = refl

  -- "Refusals: 12 alone."
  pub asked_unsound : (SoundParts g cycles s → ⊥) → (o : Outcome) → o ≡ refused_by s not_sound_no → Tells g cycles s R.next_waking o []
  asked_unsound n o e = record { is = inr (n, e, asked_lent) }

  module _ (h : SoundParts g cycles s) where
    r : G.Rig
    r = rig_of g cycles

    -- the record is what it was, and v is told
    told : (v : ℕ) → v ≡ lowest_waking (view_of s) → (o : Outcome) → o ≡ kept_with s v → Tells g cycles s R.next_waking o []
    unfolding R.effect R.ended R.refusal R.refusals R.decide R.output r
    told v e o q =
        kept_tells g cycles s R.next_waking h refl refl tt refl v o q []
        (λ i. record { words = 0; value = sym e i; lent = [] })

    front : Leaving 65 s.links (at s.links.next 65) (chains_of s.links)
    front = leaving_start 65 (lit< tt) (lit< tt) (chains_of s.links) s.links (sound_chains s.links h.links)

    same : front.left ≡ chains_of s.links 65
    unfolding front
    same = left_start 65 (lit< tt) (lit< tt) (chains_of s.links) s.links (sound_chains s.links h.links)

    -- the anchor is linked to itself: nobody is in the chain
    pub told_none : at s.links.next 65 ≡ 65 → (o : Outcome) → o ≡ kept_with s 0 → Tells g cycles s R.next_waking o []
    unfolding r
    told_none e =
        told 0
        (nobody_there r (view_of s) h.state (sym same ∙ left_none 65 (lit< tt) (lit< tt) (chains_of s.links) s.links _ front e))

    -- the first and the last of the chain are tasks, or the anchor where nobody is in it
    pub ends_low : (at s.links.next 65 ≤ 65) × (at s.links.prev 65 ≤ 65)
    ends_low =
        let X = chains_of s.links in
        let k = sound_chains s.links h.links in
        let e = at_place (at s.links.next) (at s.links.prev) 65 (X 65) [] (rw append-nil (k.link 65 (lit< tt) (lit< tt))) in (
          by (eqb (at s.links.next 65) 65) (λ q. omega (arith, eqb-true (at s.links.next 65) 65 q))
              (λ q. omega (arith, (leaving_own 65 (lit< tt) (lit< tt) X s.links (at s.links.next 65) front (eqb-false (at s.links.next 65) 65 q)).1)),
          ⊎_elim (λ q. omega (arith, e.1, q)) (λ i. omega (arith, e.1, (k.own 65 (lit< tt) (lit< tt) (last 65 (X 65)) i).1)) (in_last 65 (X 65)),
        )

    -- the head
    pub told_head : at s.links.next 65 ≢ 65 → (o : Outcome) → o ≡ kept_with s (at s.wake (at s.links.next 65)) → Tells g cycles s R.next_waking o []
    unfolding r
    told_head n =
        let k = leaving_task 65 (lit< tt) (lit< tt) (chains_of s.links) s.links _ front n in
        told (at s.wake (at s.links.next 65)) (head_lowest r (view_of s) h.state _ k.0 (sym same ∙ k.1))
