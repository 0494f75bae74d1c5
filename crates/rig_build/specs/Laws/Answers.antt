-- Steps through the definition of the answer, as the code meets them.
-- Assumes nothing.
use Rattle.std.specs.Prelude.{ℕ, zero, suc, ◌+◌, ◌≤◌, ◌<◌, ◌≡◌, refl, List, [], ◌∷◌, length, get_or}
use Rattle.std.proofs.Common.{sym, ◌∙◌, arith, ne_eqb, lt-ltb, le-ltb}
use Rattle.std.proofs.Math.Path.{ap}
use Rattle.laws.specs.First.{first_false}
use Rattle.rig.specs.Forms.{cycles_of}
use Rattle.rig.specs.declared.Cycle.{Cycle}
use Rattle.rig.specs.declared.Rig.{Rig}
use Rattle.rig_whole.specs.Tests.{first_broken}
use Rattle.rig_lines.specs.Kinds.{kind_b}
use Rattle.rig_lines.specs.Line.{Line}
use Rattle.rig_lines.specs.File.{fault, fault_of, lines_of}
use Rattle.rig_lines.specs.Whole.{is_kind, how_many, line_tests}
use Rattle.rig_lines.specs.Laws.Whole.{line_rules}
use Rattle.rig_fill.specs.OfLines.{rig_from, table_from}
use Rattle.rig_build.specs.Read.{file_refused, file_accepted, behind, broken_rule, judged, whole_file, by_lines, read_computed}

pub behind_zero : (n : ℕ) → n ≡ 0 → 0 ≡ behind n
unfolding behind
behind_zero zero e = refl
behind_zero (suc n) e = absurd (omega arith)

pub behind_more : (n : ℕ) → (n ≡ 0 → ⊥) → 5 + n ≡ behind n
unfolding behind
behind_more zero e = absurd (e refl)
behind_more (suc n) e = refl

-- the whole file's answer: a rule of the lines is broken, or one of the rig, or none
pub judged_lines : (rule : ℕ) (g : Rig) (cycles : List Cycle) → (rule ≡ 0 → ⊥) → file_refused 4 0 rule ≡ judged rule g cycles
unfolding judged broken_rule
judged_lines rule g cycles n = rw (ne_eqb rule 0 n, ne_eqb rule 0 n)

pub judged_rig : (rule : ℕ) (g : Rig) (cycles : List Cycle) (x y : ℕ) → rule ≡ 0 → x ≡ first_broken g cycles → (x ≡ 0 → ⊥) → y ≡ behind x → file_refused 4 0 y ≡ judged rule g cycles
unfolding judged broken_rule
judged_rig rule g cycles x y e f n h =
    let z : y ≡ 0 → ⊥ = λ q. let w = behind_more x n in omega arith in
    rw (e, ← f, ← h, ne_eqb y 0 z)

pub judged_right : (rule : ℕ) (g : Rig) (cycles : List Cycle) (x : ℕ) → rule ≡ 0 → x ≡ first_broken g cycles → x ≡ 0 → file_accepted g cycles ≡ judged rule g cycles
unfolding judged broken_rule behind
judged_right rule g cycles x e f n = rw (e, ← f, n)

-- the same of lines: `rule` is the first of their rules that is broken, g their rig and cycles its cycles
module _ (rs : List Line) (rule : ℕ) (e : rule ≡ first_false 1 (line_tests rs)) where
  pub whole_lines : (rule ≡ 0 → ⊥) → file_refused 4 0 rule ≡ whole_file rs
  unfolding whole_file
  whole_lines n = judged_lines rule (rig_from rs) (cycles_of (table_from rs)) n ∙ ap (λ (k : ℕ). judged k (rig_from rs) (cycles_of (table_from rs))) e

  -- no rule of the lines is broken: there are at most 64 rows
  pub whole_rows : rule ≡ 0 → how_many (is_kind kind_b) rs ≤ 64
  whole_rows z = ((line_rules rs).0 (sym e ∙ z)).rows

  module _ (z : rule ≡ 0) (g : Rig) (f : g ≡ rig_from rs) (t : List (List ℕ)) (d : t ≡ table_from rs) (cycles : List Cycle) (h : cycles ≡ cycles_of t) (x : ℕ) (b : x ≡ first_broken g cycles) where
    as_whole : judged rule g cycles ≡ whole_file rs
    unfolding whole_file
    as_whole = rw (e, f, h, d)

    pub whole_rig : (x ≡ 0 → ⊥) → (y : ℕ) → y ≡ behind x → file_refused 4 0 y ≡ whole_file rs
    whole_rig n y q = judged_rig rule g cycles x y z b n q ∙ as_whole

    pub whole_right : x ≡ 0 → file_accepted g cycles ≡ whole_file rs
    whole_right q = judged_right rule g cycles x z b q ∙ as_whole

-- a faulty line's answer, and that of a file without one
pub by_fault : (s : List ℕ) (j line : ℕ) → fault_of s ≡ fault (suc j) line → file_refused (suc j) line 0 ≡ by_lines s
unfolding by_lines
by_fault s j line e = rw (e, ne_eqb (suc j) 0 (omega arith))

pub by_whole : (s : List ℕ) → fault_of s ≡ fault 0 0 → whole_file (lines_of s) ≡ by_lines s
unfolding by_lines
by_whole s e = rw e

pub read_long : (s : List ℕ) → 40960 < length s → file_refused 2 0 0 ≡ read_computed s
unfolding read_computed
read_long s h = rw (lt-ltb 40960 (length s) h)

pub read_short : (s : List ℕ) → length s ≤ 40960 → by_lines s ≡ read_computed s
unfolding read_computed
read_short s h = rw (le-ltb 40960 (length s) h)

-- nine numbers, one by one
pub nine : (v : List ℕ) → length v ≡ 9 →
    get_or v 0 0 ∷ get_or v 1 0 ∷ get_or v 2 0 ∷ get_or v 3 0 ∷ get_or v 4 0 ∷ get_or v 5 0 ∷ get_or v 6 0 ∷ get_or v 7 0 ∷ get_or v 8 0 ∷ [] ≡ v
nine [] e = absurd (omega arith)
nine (a ∷ []) e = absurd (omega arith)
nine (a ∷ b ∷ []) e = absurd (omega arith)
nine (a ∷ b ∷ c ∷ []) e = absurd (omega arith)
nine (a ∷ b ∷ c ∷ d ∷ []) e = absurd (omega arith)
nine (a ∷ b ∷ c ∷ d ∷ f ∷ []) e = absurd (omega arith)
nine (a ∷ b ∷ c ∷ d ∷ f ∷ g ∷ []) e = absurd (omega arith)
nine (a ∷ b ∷ c ∷ d ∷ f ∷ g ∷ h ∷ []) e = absurd (omega arith)
nine (a ∷ b ∷ c ∷ d ∷ f ∷ g ∷ h ∷ i ∷ []) e = absurd (omega arith)
nine (a ∷ b ∷ c ∷ d ∷ f ∷ g ∷ h ∷ i ∷ j ∷ []) e = refl
nine (a ∷ b ∷ c ∷ d ∷ f ∷ g ∷ h ∷ i ∷ j ∷ k ∷ l) e = absurd (omega arith)
