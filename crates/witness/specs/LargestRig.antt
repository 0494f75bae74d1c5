-- A RIG WITH EVERY SIZE AT ITS LARGEST is right, as is the one with every size at its least (RightRigs): no rule allows less than
-- the paper. "Tasks 1 to 64, flags 1 to 128, up to 16 conditions a task .., priority 0 to 255, .. sixty-four cycles of up to fifteen
-- flags each, bus rows 0 to 64 of 1 to 32 words, addresses 0 to 31, data sub-addresses 1 to 30, periods 1, .., 64, phase below the
-- period", "A .. (at most 1,024 lines)".
use Rattle.std.specs.Prelude.{◌≡◌, refl, ◌≢◌, ◌⊎◌, Bool, true, false, cond, ◌&&◌, [], ℕ, ◌+◌, ◌-◌, ◌/◌, ◌%◌, ◌≤◌, ◌<◌, eqb, leb, ltb, length, get_or}
use Rattle.std.proofs.Common.{sym, ◌∙◌, ap, subst, inl, inr, ⊎_elim, arith, lt-ltb, le-ltb, le-leb, ltb-true, ltb-false, eqb-true}
use Rattle.std.proofs.lemmas.List.{length-map}
use Rattle.std.proofs.Math.ListN.{get_or-map}
use Rattle.std.proofs.lemmas.Bool.{lt-leb, eqb-false}
use Rattle.laws.specs.Cases.{by}
use Rattle.rig.specs.Rules.{Right, RowSizes, Rises, Minor, no_row, no_cycle, flag_at, row_at}
use Rattle.rig.specs.Forms.{cycle_of, cycles_of, table_of}
use Rattle.rig.specs.declared.Cycle.{Cycle}
use Rattle.rig.specs.declared.Rig.{Rig}
use Rattle.rig.specs.declared.Row.{Row}
use Rattle.rig_build.specs.Read.{file_accepted}
use Rattle.rig_meaning.proofs.Reading.{read_of}
use Rattle.rig_write.specs.File.{file_of}
use Rattle.rig_meaning.proofs.Laws.Read.{read_file}
use Rattle.rules.specs.Rig as G
use Rattle.rules.specs.Scripts.{B}
use Rattle.exec_state.specs.View.{rig_of}
use Rattle.witness.specs.Tables.{table, table_length, table_at}
use Rattle.witness.specs.CodeRig.{code_row, code_rig, code_table, code_cycles, Ends, code_rig_lem}

-- 64 tasks, each the controller of the next; 16 conditions each, latched, all of flag 128 by 1,024 A lines in order; flags 65 to
-- 79 in every cycle; 64 rows of 32 words, between addresses 31 and 30
unfoldable pub largest : G.Rig
largest =
    record {
      tasks = 64;
      flags = 128;
      master = 31;
      controller = λ t. cond (leb t 64) (t - 1) 0;
      priority = λ t. cond (ltb 0 t && leb t 64) 255 0;
      privileged = λ t. cond (ltb 0 t && leb t 64) 1 0;
      activation = λ t. cond (leb t 64) t 0;
      present = λ p. cond (ltb 15 p && ltb p 1040) 1 0;
      latched = λ p. cond (ltb 15 p && ltb p 1040) 1 0;
      desired = λ p. cond (ltb 15 p && ltb p 1040) 1 0;
      lines = 1024;
      line_task = λ k. cond (ltb k 1024) (k / 16 + 1) 0;
      line_pos = λ k. cond (ltb k 1024) (k % 16) 0;
      line_flag = λ k. cond (ltb k 1024) 128 0;
      minor = λ c i. cond (ltb c 64 && ltb i 15) (65 + i) 0;
      rows = 64;
      row = λ k. cond (ltb k 63) (B 31 30 30 30 32 64 63) (cond (ltb k 64) (B 30 30 31 30 32 64 63) (B 0 0 0 0 0 0 0));
    }

abbrev pub largest_rig : Rig
largest_rig = code_rig largest

-- ---- what it holds at each number

controller_at : (t : ℕ) → t ≤ 64 → largest.controller t ≡ t - 1
unfolding largest
controller_at t h = rw (le-leb t 64 h)

activation_at : (t : ℕ) → t ≤ 64 → largest.activation t ≡ t
unfolding largest
activation_at t h = rw (le-leb t 64 h)

line_at : (k : ℕ) → k < 1024 → (largest.line_task k ≡ k / 16 + 1) × (largest.line_pos k ≡ k % 16) × (largest.line_flag k ≡ 128)
unfolding largest
line_at k h = (rw (lt-ltb k 1024 h), rw (lt-ltb k 1024 h), rw (lt-ltb k 1024 h))

condition_at_lem : (p : ℕ) → 16 ≤ p → p < 1040 → largest.present p ≡ 1
unfolding largest
condition_at_lem p a b = rw (lt-ltb 15 p a, lt-ltb p 1040 b)

minor_at : (c i : ℕ) → c < 64 → i < 15 → largest.minor c i ≡ 65 + i
unfolding largest
minor_at c i a b = rw (lt-ltb c 64 a, lt-ltb i 15 b)

-- ---- nothing beyond the tables

second_off : (a : Bool) (n : ℕ) → cond (a && false) n 0 ≡ 0
second_off true n = refl
second_off false n = refl

largest_ends : Ends largest
unfolding largest
largest_ends =
    record {
      controller = λ t h. rw (lt-leb t 64 h);
      priority = λ t h. rw (lt-leb t 64 h) (second_off (ltb 0 t) 255);
      privileged = λ t h. rw (lt-leb t 64 h) (second_off (ltb 0 t) 1);
      activation = λ t h. rw (lt-leb t 64 h);
      present = λ p h. rw (le-ltb p 1040 h) (second_off (ltb 15 p) 1);
      latched = λ p h. rw (le-ltb p 1040 h) (second_off (ltb 15 p) 1);
      desired = λ p h. rw (le-ltb p 1040 h) (second_off (ltb 15 p) 1);
      line_task = λ k h. rw (le-ltb k 1024 h);
      line_pos = λ k h. rw (le-ltb k 1024 h);
      line_flag = λ k h. rw (le-ltb k 1024 h);
      cycle = λ c h i. rw (le-ltb c 64 h);
      fifteen = λ c i h. rw (le-ltb i 15 h) (second_off (ltb c 64) (65 + i));
      row = λ k h. rw (le-ltb k 63 (omega (arith, h)), le-ltb k 64 h);
    }

pub largest_rig_lem : rig_of largest_rig (code_cycles largest) ≡ largest
largest_rig_lem = code_rig_lem largest largest_ends

-- ---- each rule, said of what the rules see; the code's rig is that

-- what holds of the rules' rig holds of what they see of the code's
seen : (P : G.Rig → Type 0) → P largest → P (rig_of largest_rig (code_cycles largest))
seen P h = subst P (sym largest_rig_lem) h

at_most : (b : Bool) (n m : ℕ) → n ≤ m → cond b n 0 ≤ m
at_most true n m h = h
at_most false n m h = omega arith

priorities : (t : ℕ) → largest.priority t ≤ 255
unfolding largest
priorities t = at_most (ltb 0 t && leb t 64) 255 255 (omega arith)

privileges : (t : ℕ) → largest.privileged t ≤ 1
unfolding largest
privileges t = at_most (ltb 0 t && leb t 64) 1 1 (omega arith)

conditions : (p : ℕ) → (largest.present p ≤ 1) × (largest.latched p ≤ largest.present p) × (largest.desired p ≤ largest.present p)
unfolding largest
conditions p = (at_most (ltb 15 p && ltb p 1040) 1 1 (omega arith), omega arith, omega arith)

condition_numbers : (p : ℕ) → largest.present p ≢ 0 → (16 ≤ p) × (p < 1040)
unfolding largest
condition_numbers p =
    by (ltb 15 p)
    (λ a. by (ltb p 1040) (λ b n. (ltb-true 15 p a, ltb-true p 1040 b)) (λ b. rw (a, b) (λ n. absurd (n refl))))
    (λ a. rw a (λ n. absurd (n refl)))

-- "A line .. judged for .. order": by task, then position
line_order : (k : ℕ) → k + 1 < 1024
    → Rises (largest.line_task k) (largest.line_pos k) (largest.line_flag k) (largest.line_task (k + 1)) (largest.line_pos (k + 1)) (largest.line_flag (k + 1))
line_order k h =
    let a = line_at k (omega arith) in
    let b = line_at (k + 1) h in
    by (eqb ((k + 1) % 16) 0)
    (λ e. inl (omega (arith, a.0, b.0, eqb-true ((k + 1) % 16) 0 e)))
    (λ e.
    let n = eqb-false ((k + 1) % 16) 0 e in
    inr (omega (arith, a.0, b.0, n), inl (omega (arith, a.1, b.1, n))))

lines : (k : ℕ) → k < 1024 → (1 ≤ largest.line_task k) × (largest.line_task k ≤ 64) × (largest.line_pos k ≤ 15) × (largest.line_flag k ≡ 128)
lines k h =
    let a = line_at k h in
    (omega (arith, a.0), omega (arith, a.0, h), omega (arith, a.1), a.2)

line_place_lem : (k : ℕ) → k < 1024 → G.place_of (largest.line_task k) (largest.line_pos k) ≡ 16 + k
line_place_lem k h = let a = line_at k h in omega (arith, a.0, a.1)

activations : (t : ℕ) → t < 65 → largest.activation t ≡ t
activations t h = activation_at t (omega arith)

row_sizes : (s r : ℕ) → s ≤ 31 → r ≤ 31 → RowSizes (code_row (B s 30 r 30 32 64 63))
row_sizes s r a b =
    record {
      sender = a;
      sender_sub = (omega arith, omega arith);
      receiver = b;
      receiver_sub = (omega arith, omega arith);
      words = (omega arith, omega arith);
      period = inr (inr (inr (inr (inr (inr (inl refl))))));
      phase = omega arith;
    }

rows : (k : ℕ) → k < 64 → RowSizes (code_row (largest.row k)) × ((largest.row k).sender ≢ (largest.row k).receiver)
unfolding largest
rows k h =
    by (ltb k 63)
    (λ e. rw e (row_sizes 31 30 (omega arith) (omega arith), (λ q. omega arith)))
    (λ e. rw (e, lt-ltb k 64 h) (row_sizes 30 31 (omega arith) (omega arith), (λ q. omega arith)))

-- row k of the code's rig, and cycle c
row_is : (k : ℕ) → k < 64 → row_at largest_rig k ≡ code_row (largest.row k)
unfolding code_rig
row_is k h = table_at 64 (λ (k : ℕ). code_row (largest.row k)) k no_row h

cycle_is : (c : ℕ) → c < 64 → get_or (code_cycles largest) c no_cycle ≡ cycle_of (table 15 (largest.minor c))
unfolding cycles_of code_table
cycle_is c h =
    get_or-map cycle_of (code_table largest) c []
    ∙ ap cycle_of (table_at 64 (λ (c : ℕ). table 15 (largest.minor c)) c [] h)

flag_is : (c i : ℕ) → c < 64 → i < 15 → flag_at (code_cycles largest) c i ≡ 65 + i
flag_is c i a b = seen (λ (r : G.Rig). r.minor c i ≡ 65 + i) (minor_at c i a b)

-- no activation flag, nor flag 128, is a minor-cycle flag
not_minor : (f : ℕ) → (f < 65) ⊎ (79 < f) → Minor (code_cycles largest) f → ⊥
not_minor f o m =
    let e = flag_is m.1 m.2 m.3 m.4 in
    ⊎_elim (λ h. omega (arith, e, m.5, h)) (λ h. omega (arith, e, m.4, m.5, h)) o

sixty_four : length (code_cycles largest) ≡ 64
unfolding cycles_of code_table
sixty_four = length-map (code_table largest) cycle_of ∙ table_length 64 (λ (c : ℕ). table 15 (largest.minor c))

-- place 0 is no task's
no_task : (t : ℕ) → t < 65 → ((1 ≤ t) × (t ≤ 64) → ⊥)
    → (largest.controller t ≡ 0) × (largest.priority t ≡ 0) × (largest.privileged t ≡ 0) × (largest.activation t ≡ 0)
unfolding largest
no_task t h n =
    let z : t ≡ 0 = by (ltb 0 t) (λ e. absurd (n (ltb-true 0 t e, omega arith))) (λ e. omega (arith, ltb-false 0 t e)) in
    rw z (refl, refl, refl, refl)

-- THE RIG IS RIGHT
pub largest_right : Right largest_rig (code_cycles largest)
unfolding largest code_rig
largest_right =
    record {
      task_count = (omega arith, omega arith);
      flag_count = (omega arith, omega arith);
      master_address = omega arith;
      line_count = omega arith;
      row_count = omega arith;
      priorities = λ t h. seen (λ (r : G.Rig). r.priority t ≤ 255) (priorities t);
      privileges = λ t h. seen (λ (r : G.Rig). r.privileged t ≤ 1) (privileges t);
      conditions = λ p h.
          let c = seen (λ (r : G.Rig). (r.present p ≤ 1) × (r.latched p ≤ r.present p) × (r.desired p ≤ r.present p)) (conditions p) in
          record { present = c.0; latched = c.1; desired = c.2 };
      rows = λ k h. subst RowSizes (sym (row_is k h)) (rows k h).0;
      line_order = λ k h.
          seen (λ (r : G.Rig). Rises (r.line_task k) (r.line_pos k) (r.line_flag k) (r.line_task (k + 1)) (r.line_pos (k + 1)) (r.line_flag (k + 1)))
          (line_order k h);
      cycle_order = λ c h i b n.
          let e = flag_is c i h (omega arith) in
          let f = flag_is c (i + 1) h (omega arith) in
          ((λ z. omega (arith, e, z)), omega (arith, e, f));
      activation_numbers = λ t h. seen (λ (r : G.Rig). r.activation t ≤ 128) (omega (arith, activations t h));
      condition_numbers = λ p h. seen (λ (r : G.Rig). r.present p ≢ 0 → (16 ≤ p) × (p < 1040)) (condition_numbers p);
      lines = λ k h.
          let l = seen (λ (r : G.Rig). (1 ≤ r.line_task k) × (r.line_task k ≤ 64) × (r.line_pos k ≤ 15) × (r.line_flag k ≡ 128)) (lines k h) in
          record { task = (l.0, l.1); position = l.2; flag = (omega (arith, l.3), omega (arith, l.3)) };
      cycle_numbers = λ c h i b. omega (arith, flag_is c i h b);
      controllers =
          record {
            first = seen (λ (r : G.Rig). r.controller 1 ≡ 0) (controller_at 1 (omega arith));
            others = λ t a b. inl (seen (λ (r : G.Rig). r.controller t ≡ t - 1) (controller_at t b));
          };
      activation_serves_one = λ t u h b n.
          seen (λ (r : G.Rig). r.activation t ≡ r.activation u → t ≡ u) (λ e. sym (activations t h) ∙ e ∙ activations u b);
      activation_not_minor = λ t h. not_minor _ (inl (seen (λ (r : G.Rig). r.activation t < 65) (omega (arith, activations t h))));
      line_has_condition = λ k h.
          seen (λ (r : G.Rig). r.present (G.place_of (r.line_task k) (r.line_pos k)) ≡ 1)
          (ap largest.present (line_place_lem k h) ∙ condition_at_lem (16 + k) (omega arith) (omega arith));
      condition_has_line = λ p h n.
          let c = seen (λ (r : G.Rig). r.present p ≢ 0 → (16 ≤ p) × (p < 1040)) (condition_numbers p) n in
          let b : p - 16 < 1024 = omega (arith, c.0, h) in
          (p - 16, b, seen (λ (r : G.Rig). G.place_of (r.line_task (p - 16)) (r.line_pos (p - 16)) ≡ p) (omega (arith, line_place_lem (p - 16) b, c.0)));
      minor_conditions = λ k h m. absurd (not_minor _ (inr (seen (λ (r : G.Rig). 79 < r.line_flag k) (omega (arith, (lines k h).3)))) m);
      sender_differs = λ k h. subst (λ (b : Row). b.sender ≢ b.receiver) (sym (row_is k h)) (rows k h).1;
      task_zeros = λ t h n.
          let z = seen (λ (r : G.Rig). (r.controller t ≡ 0) × (r.priority t ≡ 0) × (r.privileged t ≡ 0) × (r.activation t ≡ 0)) (no_task t h n) in
          record { controller = z.0; priority = z.1; privileged = z.2; activation = z.3 };
      line_zeros = λ k h b. absurd (omega arith);
      row_zeros = λ k h b. absurd (omega arith);
      shaped =
          record {
            controller = table_length 65 largest.controller;
            priority = table_length 65 largest.priority;
            privileged = table_length 65 largest.privileged;
            activation = table_length 65 largest.activation;
            present = table_length 1040 largest.present;
            latched = table_length 1040 largest.latched;
            desired = table_length 1040 largest.desired;
            line_task = table_length 1024 largest.line_task;
            line_pos = table_length 1024 largest.line_pos;
            line_flag = table_length 1024 largest.line_flag;
            row = table_length 64 (λ (k : ℕ). code_row (largest.row k));
            sixty_four = sixty_four;
            fifteen = λ c h. ap (λ (y : Cycle). length y.flags) (cycle_is c h) ∙ table_length 15 (largest.minor c);
          };
    }
