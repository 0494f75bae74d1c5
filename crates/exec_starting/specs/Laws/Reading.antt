-- What the loops ask for holds of a rig whose numbers are in their sizes, and what they leave is the answer that is read off the tables.
use Rattle.std.specs.Prelude.{◌≡◌, refl, List, ℕ, zero, suc, ◌≤◌}
use Rattle.std.proofs.Common.{sym, ◌∙◌, subst, arith}
use Rattle.laws.specs.Owners.{owners}
use Rattle.laws.specs.Laws.Owners.{owner_key}
use Rattle.rig_tables.specs.Places.{at}
use Rattle.rig.specs.declared.Rig.{Rig}
use Rattle.exec_state.specs.declared.State.{State}
use Rattle.start_tests.specs.Tables.{Fits, Kept, standing_of, brought_in, place_at, link_one, link_task, lowest_in}
use Rattle.start_levels.specs.Levels.{Sized, ReadOff, owners_of, conditions_at}

-- an owner is a task, by its number and 1 more, or nobody
owner_low : (n m : ℕ) (key : ℕ → ℕ) (f : ℕ) → at (owners n key m) f ≤ n
owner_low n m key f = go (at (owners n key m) f) refl
  where
    go : (o : ℕ) → at (owners n key m) f ≡ o → o ≤ n
    go zero e = omega arith
    go (suc i) e = omega (arith, (owner_key key m n f i e).0)

pub fits : (g : Rig) (owner : List ℕ) → Sized g → owner ≡ owners_of g → Fits g.lines g.line_task g.line_pos g.line_flag owner
fits g owner s e = record {
  few = s.few;
  task = s.task;
  pos = s.pos;
  flag = s.flag;
  owned = λ f. subst (λ (l : List ℕ). at l f ≤ 65) (sym e) (owner_low 65 129 (at g.activation) f);
}

-- the tables one after the other
module _ (g : Rig) (s : State) (t d : ℕ) where
  abbrev KeptBy : List ℕ → ℕ → List ℕ → List ℕ → Type 0
  KeptBy owner m task place =
      Kept g.lines (link_one g.line_task g.line_pos g.line_flag g.desired owner s.state) (link_task g.line_flag owner)
      (place_at g.line_task g.line_pos) m task place

  pub read_off : (owner stand base : List ℕ) (m : ℕ) (task place table : List ℕ) (n : ℕ) → owner ≡ owners_of g
      → stand ≡ standing_of g.present g.desired s.cond
      → base ≡ brought_in g.lines g.line_task g.line_pos g.line_flag g.desired owner s.state stand
      → KeptBy owner m task place
      → table ≡ conditions_at task place m s.state base d
      → n ≡ lowest_in table t
      → ReadOff g s t d n
  read_off owner stand base m task place table n eo es eb k et en = record {
    many = m;
    task = task;
    place = place;
    kept = subst (λ (o : List ℕ). KeptBy o m task place) eo k;
    answer = en ∙ rw (et, eb, es, eo);
  }
