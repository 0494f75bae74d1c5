-- The rig of full size is a right rig: so a right rig reaches the bound of 79, and no lower one would do.
use Rattle.std.specs.Prelude.{◌≡◌, refl, ◌≢◌, ◌⊎◌, ◌&&◌, ◌||◌, ℕ, ◌+◌, ◌*◌, ◌%◌, ◌≤◌, ◌<◌, eqb, leb, ltb}
use Rattle.std.proofs.Common.{sym, ◌∙◌, inl, inr, ⊎_elim, arith, ltb-true, leb-true, lt-ltb, le-leb, eq-eqb}
use Rattle.std.proofs.Math.Nat.{mul-add-mod_self_left}
use Rattle.std.proofs.lemmas.Bool.{eqb-false}
use Rattle.laws.specs.Cases.{by, and_true}
use Rattle.rules.specs.Rig.{place_of}
use Rattle.rules.specs.RigOk.{RigOk}
use Rattle.rules_full.specs.Full.{full}

-- task t has activation flag t, or none
own_flag : (t : ℕ) → (full.activation t ≡ 0) ⊎ ((full.activation t ≡ t) × (t ≤ 64))
unfolding full
own_flag t = by (leb t 64) (λ e. rw e (inr (refl, leb-true t 64 e))) (λ e. rw e (inl refl))

own : (t : ℕ) → full.activation t ≢ 0 → (full.activation t ≡ t) × (t ≤ 64)
own t n = ⊎_elim (λ z. absurd (n z)) (λ h. h) (own_flag t)

minor_flag : (c i : ℕ) → (full.minor c i ≡ 0) ⊎ (full.minor c i ≡ 65 + i)
unfolding full
minor_flag c i = by ((eqb c 1 || eqb c 2) && ltb i 15) (λ e. rw e (inr refl)) (λ e. rw e (inl refl))

priorities : (t : ℕ) → full.priority t ≤ 255
unfolding full
priorities t = by (ltb 0 t && leb t 64) (λ e. rw e (omega arith)) (λ e. rw e (omega arith))

controllers : (t : ℕ) → t ≢ 0 → full.controller t < t
unfolding full
controllers t n =
    by (ltb 1 t && leb t 64)
    (λ e. rw e (ltb-true 1 t (and_true (ltb 1 t) (leb t 64) e).0))
    (λ e. rw e (omega arith))

controlled : (t : ℕ) → 2 ≤ t → t ≤ 64 → full.controller t ≢ 0
unfolding full
controlled t a b e = omega (arith, rw (lt-ltb 1 t a, le-leb t 64 b) at e)

conditions : (i : ℕ) → full.present i ≡ 1 → (16 ≤ i) × (i < 1040)
unfolding full
conditions i =
    by (eqb (i % 16) 0 && (ltb 15 i && ltb i 1040))
    (λ e h.
    let a = and_true (ltb 15 i) (ltb i 1040) (and_true (eqb (i % 16) 0) (ltb 15 i && ltb i 1040) e).1 in
    (ltb-true 15 i a.0, ltb-true i 1040 a.1))
    (λ e. rw e (λ h. absurd (omega arith)))

line_there : (k : ℕ) → k < 64 → full.present (place_of (full.line_task k) (full.line_pos k)) ≡ 1
unfolding full
line_there k l =
    rw (
      lt-ltb k 64 l,
      eq-eqb ((16 * (k + 1) + 0) % 16) 0 (mul-add-mod_self_left 16 (k + 1) 0),
      lt-ltb 15 (16 * (k + 1) + 0) (omega arith),
      lt-ltb (16 * (k + 1) + 0) 1040 (omega arith),
    )

desires : (i : ℕ) → full.desired i ≤ 1
unfolding full
desires i = by (eqb (i % 16) 0 && (ltb 15 i && ltb i 1040)) (λ e. rw e (omega arith)) (λ e. rw e (omega arith))

line_flags : (k : ℕ) → k < 64 → (1 ≤ full.line_flag k) × (full.line_flag k ≤ full.flags)
unfolding full
line_flags k l = by (eqb k 0) (λ e. rw e (omega arith, omega arith)) (λ e. rw (e, lt-ltb k 64 l) (omega (arith, eqb-false k 0 e), omega arith))

pub full_ok : RigOk full
unfolding full
full_ok =
    record {
      tasks_some = omega arith;
      tasks_le = omega arith;
      flags_le = omega arith;
      priority_le = priorities;
      activation_task = λ t n. let a = own t n in let m : t ≢ 0 = λ z. n (a.0 ∙ z) in (omega arith, a.1);
      activation_le = λ t. ⊎_elim (λ z. omega (arith, z)) (λ a. omega (arith, a.0, a.1)) (own_flag t);
      activation_unique = λ t u n e. sym (own t n).0 ∙ e ∙ (own u (λ z. n (e ∙ z))).0;
      activation_not_minor = λ t c i lc li n e.
          let a = own t n in
          ⊎_elim (λ z. n (sym e ∙ z)) (λ z. omega (arith, z, e, a.0, a.1)) (minor_flag c i);
      minor_le = λ c i lc li. ⊎_elim (λ z. omega (arith, z)) (λ z. omega (arith, z)) (minor_flag c i);
      controller_none = refl;
      controller_low = controllers;
      controller_some = controlled;
      present_task = conditions;
      line_present = line_there;
      line_position = λ k l. omega arith;
      line_flag_named = line_flags;
      desired_le = desires;
    }
