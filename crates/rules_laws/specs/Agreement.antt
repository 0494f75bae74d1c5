-- An activation flag is on exactly when its task is active: what the parts of a serving do to that law.
use Rattle.std.specs.Prelude.{◌≡◌, ◌≢◌, List, ◌∷◌, length, get_or, set}
use Rattle.std.proofs.Math.Path.{refl, sym}
use Rattle.std.proofs.Common.{◌∙◌, arith, get_or-set_same, get_or-set_other}
use Prim.Native.Nat.{ℕ, zero, suc, ◌<◌}
use Rattle.laws.specs.Cases.{dec_eq}
use Rattle.laws.specs.Laws.Tables.{get_d_set, same_under, in_range}
use Rattle.rules.specs.Rig.{Rig}
use Rattle.rules.specs.RigOk.{RigOk}
use Rattle.rules.specs.State.{Entry, active}
use Rattle.rules.specs.Serving.{push}
use Rattle.rules_laws.specs.Queued.{look, look_other, look_same, look_absent, Absent, Agree, Clear}

module _ (r : Rig) (ok : RigOk r) where
  -- entries of t's flag and of u's are told apart
  pub push_absent : (t u b : ℕ) (q : List Entry) → u ≢ t → r.activation u ≢ 0 → Absent (r.activation u) q → Absent (r.activation u) (push (r.activation t) b q)
  push_absent t u b q ne nz h = go (r.activation t) refl
    where
      go : (f : ℕ) → r.activation t ≡ f → Absent (r.activation u) (push f b q)
      go zero e = h
      go (suc f) e = (λ x. ne (ok.activation_unique u t nz (sym x ∙ sym e)), h)

  pub push_look : (t u b d : ℕ) (q : List Entry) → u ≢ t → r.activation u ≢ 0 → look (push (r.activation t) b q) (r.activation u) d ≡ look q (r.activation u) d
  unfolding look
  push_look t u b d q ne nz = go (r.activation t) refl
    where
      go : (f : ℕ) → r.activation t ≡ f → look (push f b q) (r.activation u) d ≡ look q (r.activation u) d
      go zero e = refl
      go (suc f) e = look_other _ (r.activation u) d q (λ x. ne (ok.activation_unique u t nz (sym x ∙ sym e)))

  pub push_look_self : (t b d : ℕ) (q : List Entry) → r.activation t ≢ 0 → Absent (r.activation t) q → look (push (r.activation t) b q) (r.activation t) d ≡ b
  unfolding look
  push_look_self t b d q nz h = go (r.activation t) nz h
    where
      go : (f : ℕ) → f ≢ 0 → Absent f q → look (push f b q) f d ≡ b
      go zero nz h = absurd (nz refl)
      go (suc f) nz h = look_same _ (suc f) d q refl ∙ look_absent (suc f) b q h

  -- task t goes over to state v, and its flag is queued with what it is then to be
  pub restate : (t v : ℕ) (fs l : List ℕ) (q : List Entry) → t < length l → (r.activation t ≢ 0 → Absent (r.activation t) q) → Agree r fs l q
      → Agree r fs (set l t v) (push (r.activation t) (active v) q)
  restate t v fs l q h no_entry a u nz = go (dec_eq u t)
    where
      go : Dec (u ≡ t) → look (push (r.activation t) (active v) q) (r.activation u) (get_or fs (r.activation u) 0) ≡ active (get_or (set l t v) u 0)
      go (yes e) =
          rw (e, get_or-set_same l t v 0 h) (push_look_self t (active v) (get_or fs (r.activation t) 0) q (rw e at nz) (no_entry (rw e at nz)))
      go (no ne) = rw (get_or-set_other l t u v 0 ne, push_look t u (active v) (get_or fs (r.activation u) 0) q ne nz) (a u nz)

  -- task t goes over to a state that is as active as its last
  pub same_active : (t v : ℕ) (fs l : List ℕ) (q : List Entry) → active v ≡ active (get_or l t 0) → Agree r fs l q → Agree r fs (set l t v) q
  same_active t v fs l q h a u nz = a u nz ∙ sym (same_under active l t u v h)

  -- an entry is taken off and its flag takes its value
  pub popped : (e : Entry) (fs l : List ℕ) (q : List Entry) → length fs ≡ 129 → Agree r fs l (e ∷ q) → Agree r (set fs e.flag e.value) l q
  unfolding look
  popped e fs l q z a u nz = rw (get_d_set fs e.flag (r.activation u) e.value (omega (arith, z, ok.activation_le u, ok.flags_le))) (a u nz)

  -- an inactive task is activated
  pub clear_activate : (t : ℕ) (l : List ℕ) (q : List Entry) → get_or l t 0 ≡ 1 → Clear r l q → Clear r (set l t 3) (push (r.activation t) 1 q)
  clear_activate t l q h c u nz e = go (dec_eq u t)
    where
      go : Dec (u ≡ t) → Absent (r.activation u) (push (r.activation t) 1 q)
      go (yes x) = absurd (omega (arith, sym (get_or-set_same l t 3 0 (in_range l t 0 h)) ∙ (rw x at e)))
      go (no ne) = push_absent t u 1 q ne nz (c u nz (sym (get_or-set_other l t u 3 0 ne) ∙ e))
