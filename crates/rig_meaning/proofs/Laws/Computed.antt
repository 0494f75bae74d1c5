-- The computation (rig_build/Read) answers what Reads.antt says, and nothing else is said there.
--     computed_reads    Reads s (read_computed s)
--     reads_same        two answers of one file agree in number, line, rig and cycles
-- Assumes nothing.
use Rattle.std.specs.Prelude.{ℕ, zero, suc, ◌+◌, ◌≤◌, ◌≡◌, List, length}
use Rattle.std.proofs.Common.{sym, ap, ◌∙◌, arith}
use Rattle.rig.specs.declared.Cycle.{Cycle}
use Rattle.rig.specs.declared.Rig.{Rig}
use Rattle.rig_lines.specs.File.{Fault, fault, fault_of}
use Rattle.rig_lines.specs.Words.{Wrong, unended, shape, size, order, FirstFaulty}
use Rattle.rig_lines.proofs.Laws.FirstFaulty.{first_faulty, none_faulty}
use Rattle.rig_build.specs.declared.Answer.{Answer}
use Rattle.rig_build.specs.Read.{file_refused, read_computed}
use Rattle.rig_build.specs.Laws.Exactly.{Way, long, line, whole, right, way, file_place, too_long, faulty, whole_broken_lem, all_right}
use Rattle.rig_write.specs.File.{FileOfRight}
use Rattle.rig_round_trips.specs.Exact.{accepted_exactly}
use Rattle.rig_meaning.specs.Reads.{RefusedAt, Reads, over_long, faulty_line, whole_broken, of_right}

module _ (s : List ℕ) where
  refused : (number place rule : ℕ) → read_computed s ≡ file_refused number place rule → RefusedAt number place (read_computed s)
  refused number place rule e =
      record {
        no = ap (λ (a : Answer). a.no) e;
        line = ap (λ (a : Answer). a.line) e;
        rig = ap (λ (a : Answer). a.rig) e;
        cycles = ap (λ (a : Answer). a.cycles) e;
      }

  -- a refused file is that of no right rig
  none_right : (k : ℕ) → read_computed s ≡ file_refused 4 0 k → (g : Rig) (cycles : List Cycle) → FileOfRight s g cycles → ⊥
  none_right k e g cycles f = let z : ◌≡◌ {A = ℕ} 4 0 = ap (λ (a : Answer). a.no) (sym e ∙ (accepted_exactly s g cycles).1 f) in omega arith

  pub computed_reads : Reads s (read_computed s)
  computed_reads = go (way s)
    where
      at_line : (j n : ℕ) → length s ≤ 40960 → fault_of s ≡ fault (suc j) n → Reads s (read_computed s)
      at_line j zero h f =
          let e = ap (λ (a : Fault). a.no) f in
          let l : (fault_of s).line ≡ 0 = ap (λ (a : Fault). a.line) f in
          absurd (omega (arith, l, file_place s (λ z. omega (arith, e, z))))
      at_line j (suc n) h f =
          faulty_line n (suc j) (omega arith) ((first_faulty s j n).0 f)
          (refused (suc j) _ 0 (faulty s h j (suc n) f ∙ ap (λ (p : ℕ). file_refused (suc j) p 0) (omega arith)))

      go : Way s → Reads s (read_computed s)
      go (long h) = over_long (omega arith) (refused 2 0 0 (too_long s h))
      go (line j n h f _) = at_line j n h f
      go (whole k h c r) = let e = whole_broken_lem s h c k r in whole_broken h ((none_faulty s).0 c) (none_right (suc k) e) (refused 4 0 (suc k) e)
      go (right h c r) =
          let e = all_right s h c r in
          let w = (accepted_exactly s _ _).0 e in
          of_right (rw e w) (ap (λ (a : Answer). a.no) e) (ap (λ (a : Answer). a.line) e)

-- what Reads.antt fixes of an answer
pub record SameAnswer (a b : Answer) : Type 0 where
  pub no : a.no ≡ b.no
  pub line : a.line ≡ b.line
  pub rig : a.rig ≡ b.rig
  pub cycles : a.cycles ≡ b.cycles

refused_same : (number place : ℕ) (a b : Answer) → RefusedAt number place a → RefusedAt number place b → SameAnswer a b
refused_same number place a b p q = record { no = p.no ∙ sym q.no; line = p.line ∙ sym q.line; rig = p.rig ∙ sym q.rig; cycles = p.cycles ∙ sym q.cycles }

-- a refusal that is due to a line has a number
wrong_some : (s : List ℕ) (n : ℕ) → Wrong s n 0 → ⊥
wrong_some s n (unended e _ _) = omega arith
wrong_some s n (shape e _ _) = omega arith
wrong_some s n (size e _ _) = omega arith
wrong_some s n (order e _ _) = omega arith

module _ (s : List ℕ) (a : Answer) where
  computed_same : Reads s a → SameAnswer a (read_computed s)
  computed_same (over_long h r) = refused_same 2 0 a (read_computed s) r (refused s 2 0 0 (too_long s h))
  computed_same (faulty_line n j h f r) = at_line n j f r
    where
      at_line : (n j : ℕ) → FirstFaulty s n j → RefusedAt j (n + 1) a → SameAnswer a (read_computed s)
      at_line n zero f r = absurd (wrong_some s n f.here)
      at_line n (suc j) f r = refused_same (suc j) (n + 1) a (read_computed s) r (refused s (suc j) (n + 1) 0 (faulty s h j (suc n) ((first_faulty s j n).1 f) ∙ ap (λ (p : ℕ). file_refused (suc j) p 0) (omega arith)))
  computed_same (whole_broken h c n r) = go (way s)
    where
      go : Way s → SameAnswer a (read_computed s)
      go (long k) = absurd (omega arith)
      go (line j m k f _) = let e = ap (λ (x : Fault). x.no) f in absurd (omega (arith, e, (none_faulty s).1 c))
      go (whole k l f e) = refused_same 4 0 a (read_computed s) r (refused s 4 0 (suc k) (whole_broken_lem s l f k e))
      go (right k f e) = absurd (n _ _ ((accepted_exactly s _ _).0 (all_right s k f e)))
  computed_same (of_right w e l) =
      let q = sym ((accepted_exactly s a.rig a.cycles).1 w) in
      record {
        no = e ∙ ap (λ (x : Answer). x.no) q;
        line = l ∙ ap (λ (x : Answer). x.line) q;
        rig = ap (λ (x : Answer). x.rig) q;
        cycles = ap (λ (x : Answer). x.cycles) q;
      }

-- a file has one answer: whatever is said of two in Reads.antt makes them the same but for `rule`
pub reads_same : (s : List ℕ) (a b : Answer) → Reads s a → Reads s b → SameAnswer a b
reads_same s a b p q =
    let x = computed_same s a p in
    let y = computed_same s b q in
    record { no = x.no ∙ sym y.no; line = x.line ∙ sym y.line; rig = x.rig ∙ sym y.rig; cycles = x.cycles ∙ sym y.cycles }
