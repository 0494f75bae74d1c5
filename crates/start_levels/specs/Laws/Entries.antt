-- The entries of each table, one by one: a bit for each test of the table.
use Rattle.std.specs.Prelude.{◌≡◌, refl, Bool, true, ◌&&◌, ◌||◌, List, ℕ, ◌-◌, ◌≤◌, ◌<◌, length, replicate}
use Rattle.std.proofs.Common.{sym, ◌∙◌, arith, eqb-true}
use Rattle.std.proofs.Math.Path.{ap}
use Rattle.std.proofs.Math.Bool.{cond}
use Rattle.std.proofs.Math.Dec.{eqb}
use Rattle.std.proofs.lemmas.List.{length-replicate}
use Rattle.laws.specs.Any.{any}
use Rattle.laws.specs.Bits.{bit}
use Rattle.laws.specs.Laws.All.{all_at}
use Rattle.laws.specs.Laws.Bits.{mark_bit}
use Rattle.laws.specs.Laws.Stores.{stores_keep, stores_length, stores_mark, each_bit, each_mark}
use Rattle.rig_tables.specs.Places.{at}
use Rattle.rig.specs.declared.Rig.{Rig}
use Rattle.exec_state.specs.declared.State.{State}
use Rattle.start_tests.specs.Tables.{stands_at, standing_of, place_at, owner_at, helps_one, brought_in, Linked, nobody, open_one, opened_in, clear, able_in}
use Rattle.start_levels.specs.Levels.{owners_of, base_of, link_of, KeptOf}

standing_length : (present desired conds : List ℕ) → length (standing_of present desired conds) ≡ 1040
unfolding standing_of
standing_length present desired conds =
    stores_length (λ i. true) (λ i. i) (λ i. bit (stands_at present desired conds i)) 1040 (replicate 1040 0) ∙ length-replicate {A = ℕ} 1040 0

standing_at : (present desired conds : List ℕ) (i : ℕ) → i < 1040 → at (standing_of present desired conds) i ≡ bit (stands_at present desired conds i)
unfolding standing_of
standing_at present desired conds i h = each_bit 1040 (stands_at present desired conds) i h

pub able_at : (state table : List ℕ) (t : ℕ) → t ≤ 64 → at (able_in state table) t ≡ bit (eqb (at state t) 1 && clear table t)
unfolding able_in
able_at state table t h = each_mark 65 (λ u. eqb (at state u) 1 && clear table u) t (omega (arith, h))

-- of A line k: the place of its condition, and the owner of its flag
abbrev pub place_g : Rig → ℕ → ℕ
place_g g k = place_at g.line_task g.line_pos k

abbrev pub owner_g : Rig → ℕ → ℕ
owner_g g k = owner_at g.line_flag (owners_of g) k

module _ (g : Rig) (s : State) where
  -- whether it helps with no link
  abbrev pub helps_g : ℕ → Bool
  helps_g k = helps_one g.line_task g.line_pos g.line_flag g.desired (owners_of g) s.state k

  -- a condition that stands as desired, or that a line's flag brings there with no link
  abbrev pub base_test : ℕ → Bool
  base_test i = stands_at g.present g.desired s.cond i || any g.lines (λ k. helps_g k && eqb (place_g g k) i)

  base_length : length (base_of g s) ≡ 1040
  unfolding brought_in
  base_length =
      stores_length helps_g (place_g g) (λ k. 1) g.lines (standing_of g.present g.desired s.cond)
      ∙ standing_length g.present g.desired s.cond

  pub base_at : (i : ℕ) → i < 1040 → at (base_of g s) i ≡ bit (base_test i)
  unfolding brought_in
  base_at i h =
      stores_mark helps_g (place_g g) g.lines (standing_of g.present g.desired s.cond) i
      (omega (arith, h, standing_length g.present g.desired s.cond))
      ∙ ap (λ (x : ℕ). cond (any g.lines (λ k. helps_g k && eqb (place_g g k) i)) 1 x) (standing_at g.present g.desired s.cond i h)
      ∙ mark_bit (any g.lines (λ k. helps_g k && eqb (place_g g k) i)) (stands_at g.present g.desired s.cond i)

  -- a link to a task that can start, where the links are kept in lists
  pub opened_at : (m : ℕ) (task place can : List ℕ) → KeptOf g s m task place → (i : ℕ) → i < 1040
      → at (opened_in m task place can (base_of g s)) i
      ≡ bit (base_test i || any g.lines (λ k. link_of g s k && (eqb (at can (owner_g g k - 1)) 1 && eqb (place_g g k) i)))
  unfolding opened_in
  opened_at m task place can kept i h =
      stores_mark (open_one task can) (at place) m (base_of g s) i (omega (arith, h, base_length))
      ∙ ap (λ (b : Bool). cond b 1 (at (base_of g s) i)) (sym (kept.same (λ t p. eqb (at can t) 1 && eqb p i)))
      ∙ ap (λ (x : ℕ). cond (any g.lines (λ k. link_of g s k && (eqb (at can (owner_g g k - 1)) 1 && eqb (place_g g k) i))) 1 x) (base_at i h)
      ∙ mark_bit (any g.lines (λ k. link_of g s k && (eqb (at can (owner_g g k - 1)) 1 && eqb (place_g g k) i))) (base_test i)

-- where nobody can start, no link is open
pub opened_none : (m : ℕ) (task place can table : List ℕ) → Linked m task place → nobody can ≡ true → opened_in m task place can table ≡ table
unfolding opened_in nobody
opened_none m task place can table linked none =
    stores_keep (open_one task can) (at place) (λ j. 1) (λ l. l ≡ table) m (λ j l a e h. absurd (shut j a e)) table refl
  where
    shut : (j : ℕ) → j < m → open_one task can j ≡ true → ⊥
    shut j a e =
        let z = eqb-true (at can (at task j)) 0 (all_at 65 (λ t. eqb (at can t) 0) none (at task j) (omega (arith, linked.tasks j a))) in
        omega (arith, z, eqb-true (at can (at task j)) 1 e)
