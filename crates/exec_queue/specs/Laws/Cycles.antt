-- Where a single cycle stands beside the rig, its flags are the minor-cycle flags.
use Rattle.std.specs.Prelude.{◌≡◌, refl, ◌≢◌, true, false, [], ◌∷◌, ℕ, zero, suc}
use Rattle.std.proofs.Common.{sym, ◌∙◌, true≢false, arith, eqb-true}
use Rattle.laws.specs.Cases.{by, by_bool}
use Rattle.laws.specs.Laws.Any.{any_at, any_some}
use Rattle.chains.specs.Held.{at}
use Rattle.rig.specs.declared.Cycle.{Cycle}
use Rattle.rules.specs.Rig.{minor_one, in_cycle, is_minor}
use Rattle.exec_queue.specs.View.{minor_of}

pub one_cycle : (cycle : Cycle) (f : ℕ) → f ≢ 0 → is_minor (minor_of (cycle ∷ [])) f ≡ in_cycle (at cycle.flags) f
unfolding is_minor in_cycle
one_cycle cycle f n =
    by (in_cycle (at cycle.flags) f)
    (λ e. any_at 64 (minor_one (minor_of (cycle ∷ [])) f) 0 (omega arith) e ∙ sym e)
    (λ e. by_bool (is_minor (minor_of (cycle ∷ [])) f) (λ b. b ≡ false) (λ i. let w = any_some 64 (minor_one (minor_of (cycle ∷ [])) f) i in absurd (no w.0 e w.2)) (λ i. refl) ∙ sym e)
  where
    -- it is on no other list: the others are empty
    no : (c : ℕ) → in_cycle (at cycle.flags) f ≡ false → minor_one (minor_of (cycle ∷ [])) f c ≡ true → ⊥
    no zero e i = true≢false (sym i ∙ e)
    no (suc c) e i = n (sym (eqb-true 0 f (any_some 15 _ i).2))
