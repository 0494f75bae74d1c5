-- Each refusal number is given exactly when its words hold and those of no number before it.
use Rattle.std.specs.Prelude.{◌≡◌, refl, ◌≢◌, ◌⊎◌, ◌↔◌, Bool, true, ◌||◌, List, [], ◌∷◌, ℕ, zero, suc, ◌+◌, ◌<◌, eqb, ltb, leb, length}
use Rattle.std.proofs.Math.Bool.{false, not}
use Rattle.std.proofs.lemmas.Bool.{false≢true}
use Rattle.std.proofs.Common.{arith, add-one}
use Rattle.laws.specs.Decides.{Is}
use Rattle.laws.specs.Laws.Decides.{is_eqb, is_leb, is_ltb, is_not, is_or, is_any, is_said}
use Rattle.rules.specs.Rig.{Rig, in_cycle, is_minor, is_activation, not_plain}
use Rattle.rules.specs.State.{State, state_of, active, inactive}
use Rattle.rules.specs.Bus.{area_words, block_words}
use Rattle.rules.specs.Starting.{most_links}
use Rattle.rules.specs.Calls.{Call, schedule, cancel, terminate, finish, tick, wait_until, wait_for, latched, unlatched, signal, read_flag, read_block, write_block, next_waking, read_overruns, why_not}
use Rattle.rules.specs.Calls.{row, decide, refusals, refusal, nobody_runs, no_such_one, not_controller, is_uninvoked, is_invoked, not_active, not_inactive, last_count, wrong_block}
use Rattle.rules.specs.Reasons.{Reasons, NoSuch, MinorCycleFlag, ActivationFlag, reasons, naming, flagging, waking, blocking, Exactly}

-- ---- what the tests of the table say

pub is_no_such : (many n : ℕ) → Is (no_such_one many n) (NoSuch many n)
unfolding no_such_one
is_no_such many n = is_or (is_eqb n 0) (is_ltb many n)

pub is_minor_lem : (r : Rig) (f : ℕ) → Is (is_minor r.minor f) (MinorCycleFlag r f)
unfolding is_minor in_cycle
is_minor_lem r f = is_any 64 (λ c h. is_any 15 (λ i k. is_eqb (r.minor c i) f))

pub is_activation_lem : (r : Rig) (f : ℕ) → Is (is_activation r.activation f) (ActivationFlag r f)
unfolding is_activation
is_activation_lem r f = is_said (is_any 64 (λ i h. is_eqb (r.activation (i + 1)) f)) there back
  where
    there : (i : ℕ) × (i < 64) × (r.activation (i + 1) ≡ f) → ActivationFlag r f
    there w = (w.0 + 1, omega arith, omega (arith, w.1), w.2)

    back : ActivationFlag r f → (i : ℕ) × (i < 64) × (r.activation (i + 1) ≡ f)
    back (zero, a, b, e) = absurd (omega arith)
    back (suc t, a, b, e) = (t, omega arith, rw add-one e)

-- ---- a table of all seven numbers

-- what a test says, case by case
abbrev Says : Bool → Type 0 → Type 0
Says true P = P
Says false P = P → ⊥

told : (b : Bool) {P : Type 0} → Is b P → Says b P
told true h = h.0 refl
told false h = λ p. false≢true (h.1 p)

-- a number that the call's rows do not have
none : Is false ⊥
none = (false≢true, λ z. absurd z)

never : {A B : Type 0} → (A → ⊥) → (B → ⊥) → A ↔ B
never f g = ((λ a. absurd (f a)), (λ b. absurd (g b)))

by_cases : (a b c d e f g : Bool) (w : Reasons) → Says a w.five → Says b w.six → Says c w.seven → Says d w.eight → Says e w.nine → Says f w.ten → Says g w.eleven
    → Exactly (decide (row 5 a ∷ row 6 b ∷ row 7 c ∷ row 8 d ∷ row 9 e ∷ row 10 f ∷ row 11 g ∷ [])) w
unfolding decide
by_cases true b c d e f g w h5 h6 h7 h8 h9 h10 h11 =
    record {
      five = ((λ q. h5), (λ q. refl));
      six = never (λ q. omega arith) (λ p. p.1 h5);
      seven = never (λ q. omega arith) (λ p. p.1 h5);
      eight = never (λ q. omega arith) (λ p. p.1 h5);
      nine = never (λ q. omega arith) (λ p. p.1 h5);
      ten = never (λ q. omega arith) (λ p. p.1 h5);
      eleven = never (λ q. omega arith) (λ p. p.1 h5);
      none = never (λ q. omega arith) (λ p. p.0 h5);
    }
by_cases false true c d e f g w h5 h6 h7 h8 h9 h10 h11 =
    record {
      five = never (λ q. omega arith) h5;
      six = ((λ q. (h6, h5)), (λ q. refl));
      seven = never (λ q. omega arith) (λ p. p.2 h6);
      eight = never (λ q. omega arith) (λ p. p.2 h6);
      nine = never (λ q. omega arith) (λ p. p.2 h6);
      ten = never (λ q. omega arith) (λ p. p.2 h6);
      eleven = never (λ q. omega arith) (λ p. p.2 h6);
      none = never (λ q. omega arith) (λ p. p.1 h6);
    }
by_cases false false true d e f g w h5 h6 h7 h8 h9 h10 h11 =
    record {
      five = never (λ q. omega arith) h5;
      six = never (λ q. omega arith) (λ p. h6 p.0);
      seven = ((λ q. (h7, h5, h6)), (λ q. refl));
      eight = never (λ q. omega arith) (λ p. p.3 h7);
      nine = never (λ q. omega arith) (λ p. p.3 h7);
      ten = never (λ q. omega arith) (λ p. p.3 h7);
      eleven = never (λ q. omega arith) (λ p. p.3 h7);
      none = never (λ q. omega arith) (λ p. p.2 h7);
    }
by_cases false false false true e f g w h5 h6 h7 h8 h9 h10 h11 =
    record {
      five = never (λ q. omega arith) h5;
      six = never (λ q. omega arith) (λ p. h6 p.0);
      seven = never (λ q. omega arith) (λ p. h7 p.0);
      eight = ((λ q. (h8, h5, h6, h7)), (λ q. refl));
      nine = never (λ q. omega arith) (λ p. p.4 h8);
      ten = never (λ q. omega arith) (λ p. p.4 h8);
      eleven = never (λ q. omega arith) (λ p. p.4 h8);
      none = never (λ q. omega arith) (λ p. p.3 h8);
    }
by_cases false false false false true f g w h5 h6 h7 h8 h9 h10 h11 =
    record {
      five = never (λ q. omega arith) h5;
      six = never (λ q. omega arith) (λ p. h6 p.0);
      seven = never (λ q. omega arith) (λ p. h7 p.0);
      eight = never (λ q. omega arith) (λ p. h8 p.0);
      nine = ((λ q. (h9, h5, h6, h7, h8)), (λ q. refl));
      ten = never (λ q. omega arith) (λ p. p.5 h9);
      eleven = never (λ q. omega arith) (λ p. p.5 h9);
      none = never (λ q. omega arith) (λ p. p.4 h9);
    }
by_cases false false false false false true g w h5 h6 h7 h8 h9 h10 h11 =
    record {
      five = never (λ q. omega arith) h5;
      six = never (λ q. omega arith) (λ p. h6 p.0);
      seven = never (λ q. omega arith) (λ p. h7 p.0);
      eight = never (λ q. omega arith) (λ p. h8 p.0);
      nine = never (λ q. omega arith) (λ p. h9 p.0);
      ten = ((λ q. (h10, h5, h6, h7, h8, h9)), (λ q. refl));
      eleven = never (λ q. omega arith) (λ p. p.6 h10);
      none = never (λ q. omega arith) (λ p. p.5 h10);
    }
by_cases false false false false false false true w h5 h6 h7 h8 h9 h10 h11 =
    record {
      five = never (λ q. omega arith) h5;
      six = never (λ q. omega arith) (λ p. h6 p.0);
      seven = never (λ q. omega arith) (λ p. h7 p.0);
      eight = never (λ q. omega arith) (λ p. h8 p.0);
      nine = never (λ q. omega arith) (λ p. h9 p.0);
      ten = never (λ q. omega arith) (λ p. h10 p.0);
      eleven = ((λ q. (h11, h5, h6, h7, h8, h9, h10)), (λ q. refl));
      none = never (λ q. omega arith) (λ p. p.6 h11);
    }
by_cases false false false false false false false w h5 h6 h7 h8 h9 h10 h11 =
    record {
      five = never (λ q. omega arith) h5;
      six = never (λ q. omega arith) (λ p. h6 p.0);
      seven = never (λ q. omega arith) (λ p. h7 p.0);
      eight = never (λ q. omega arith) (λ p. h8 p.0);
      nine = never (λ q. omega arith) (λ p. h9 p.0);
      ten = never (λ q. omega arith) (λ p. h10 p.0);
      eleven = never (λ q. omega arith) (λ p. h11 p.0);
      none = ((λ q. (h5, h6, h7, h8, h9, h10, h11)), (λ q. refl));
    }

exactly : (a b c d e f g : Bool) (w : Reasons) → Is a w.five → Is b w.six → Is c w.seven → Is d w.eight → Is e w.nine → Is f w.ten
    → Is g w.eleven → Exactly (decide (row 5 a ∷ row 6 b ∷ row 7 c ∷ row 8 d ∷ row 9 e ∷ row 10 f ∷ row 11 g ∷ [])) w
exactly a b c d e f g w h5 h6 h7 h8 h9 h10 h11 =
    by_cases a b c d e f g w (told a h5) (told b h6) (told c h7) (told d h8) (told e h9) (told f h10) (told g h11)

-- ---- THE REFUSALS: each number exactly when its words hold and none before it

module _ (r : Rig) (s : State) where
  no_one : Is (nobody_runs s) (s.running ≡ 0)
  no_one = is_eqb s.running 0

  naming_is : (t : ℕ) (wrong : Bool) (P : Type 0) → Is wrong P
      → Exactly (decide (row 5 (nobody_runs s) ∷ row 6 (no_such_one r.tasks t) ∷ row 7 (not_controller r s t) ∷ row 8 wrong ∷ [])) (naming r s t P)
  unfolding decide
  naming_is t wrong P h =
      exactly (nobody_runs s) (no_such_one r.tasks t) (not_controller r s t) wrong false false false (naming r s t P) no_one (is_no_such r.tasks t)
      (is_not (is_eqb (r.controller t) s.running)) h none none none

  flagging_is : (f : ℕ) (wrong : Bool) (P : Type 0) → Is wrong P
      → Exactly (decide (row 5 (nobody_runs s) ∷ row 6 (no_such_one r.flags f) ∷ row 7 wrong ∷ [])) (flagging r s f P)
  unfolding decide
  flagging_is f wrong P h =
      exactly (nobody_runs s) (no_such_one r.flags f) wrong false false false false (flagging r s f P) no_one (is_no_such r.flags f) h none none none none

  waking_is : (count : ℕ) → Exactly (decide (row 5 (nobody_runs s) ∷ row 9 (ltb last_count count) ∷ [])) (waking s count)
  unfolding decide
  waking_is count =
      exactly (nobody_runs s) false false false (ltb last_count count) false false (waking s count) no_one none none none (is_ltb last_count count) none none

  blocking_is : (k : ℕ) (area buffer : List ℕ)
      → Exactly (decide (row 5 (nobody_runs s) ∷ row 6 (no_such_one r.rows k) ∷ row 10 (wrong_block r k area buffer) ∷ [])) (blocking r s k area buffer)
  unfolding decide wrong_block
  blocking_is k area buffer =
      exactly (nobody_runs s) (no_such_one r.rows k) false false false
      (not (eqb (length area) (area_words r)) || not (eqb (length buffer) (block_words r k))) false (blocking r s k area buffer) no_one (is_no_such r.rows k) none none none
      (is_or (is_not (is_eqb (length area) (area_words r))) (is_not (is_eqb (length buffer) (block_words r k)))) none

  pub refused_exactly : (k : Call) → Exactly (refusal r s k) (reasons r s k)
  unfolding refusal refusals decide
  refused_exactly (schedule t) =
      naming_is t (is_invoked s t) (state_of s t ≢ 0) (is_not (is_eqb (state_of s t) 0))
  refused_exactly (cancel t) = naming_is t (is_uninvoked s t) (state_of s t ≡ 0) (is_eqb (state_of s t) 0)
  refused_exactly (terminate t) = naming_is t (not_active s t) (active (state_of s t) ≡ 0) (is_eqb (active (state_of s t)) 0)
  refused_exactly finish =
      exactly (nobody_runs s) false false false false false false (reasons r s finish) no_one none none none none none none
  refused_exactly (tick buffer) =
      exactly false false false false (leb last_count s.count) (ltb (length buffer) 128) false (reasons r s (tick buffer)) none none none none
      (is_leb last_count s.count) (is_ltb (length buffer) 128) none
  refused_exactly (wait_until t) = waking_is t
  refused_exactly (wait_for n) = waking_is (s.count + n)
  refused_exactly (latched f v) = flagging_is f (is_minor r.minor f) (MinorCycleFlag r f) (is_minor_lem r f)
  refused_exactly (unlatched f v) = flagging_is f (is_minor r.minor f) (MinorCycleFlag r f) (is_minor_lem r f)
  refused_exactly (signal f v) =
      flagging_is f (not_plain r f) (MinorCycleFlag r f ⊎ ActivationFlag r f)
      (is_or (is_minor_lem r f) (is_activation_lem r f))
  refused_exactly (read_flag f) = flagging_is f (is_minor r.minor f) (MinorCycleFlag r f) (is_minor_lem r f)
  refused_exactly (read_block k area buffer) = blocking_is k area buffer
  refused_exactly (write_block k area buffer) = blocking_is k area buffer
  refused_exactly next_waking = exactly false false false false false false false (reasons r s next_waking) none none none none none none none
  refused_exactly (read_overruns t) =
      exactly false (no_such_one r.tasks t) false false false false false (reasons r s (read_overruns t)) none (is_no_such r.tasks t) none none none none none
  refused_exactly (why_not t d) =
      exactly false (no_such_one r.tasks t) false (not_inactive s t) false false (ltb most_links d) (reasons r s (why_not t d)) none (is_no_such r.tasks t) none
      (is_not (is_eqb (state_of s t) inactive)) none none (is_ltb most_links d)
