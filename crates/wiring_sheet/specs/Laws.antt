-- What is told is what the arguments ask for, and nothing else.
-- Assumes nothing.
use Rattle.std.specs.Prelude.{ℕ, ◌≤◌, ◌<◌, ◌≡◌, refl, ◌≢◌, Bool, true, false, List, length, take}
use Rattle.std.proofs.Common.{sym, ap, subst, ◌∙◌, inl, inr, ⊎_elim, arith, eq-eqb, ne_eqb}
use Rattle.std.proofs.lemmas.Bool.{false≢true}
use Rattle.laws.specs.Cases.{if_yes, if_no}
use Rattle.compool.specs.View.{rows_of}
use Rattle.compool.specs.Post.{RowsFit}
use Rattle.put_text.specs.Wrote.{Wrote}
use Rattle.put_text.specs.Laws.Wrote.{wrote_as, wrote_same, wrote_fits}
use Rattle.rig_build.specs.declared.Answer.{Answer}
use Rattle.rig_meaning.proofs.Reading.{read_of}
use Rattle.rig_meaning.proofs.Laws.Read.{read_right, read_line}
use Rattle.bench_script.specs.Input.{rig_end}
use Rattle.bench_script.specs.Laws.Input.{end_le}
use Rattle.compool.specs.Laws.Rows.{rows_fit}
use Rattle.wiring_lines.specs.Line.{refused_text, usage_text}
use Rattle.wiring_text.specs.Sheet.{sheet_text, sheet_room}
use Rattle.wiring_sheet.specs.Telling.{answered, file_text, table_option, Asks, lines, table, another, Told}

-- ---- a rig file

module _ (file : List ℕ) (a : Answer) (e : a ≡ read_of file) where
  -- an accepted rig's rows are as the bus words ask
  pub fits : a.no ≡ 0 → RowsFit a.rig.rows a.rig.row
  fits z = subst (λ (x : Answer). x.no ≡ 0 → RowsFit x.rig.rows x.rig.row) (sym e) (λ n. rows_fit (read_of file).rig (read_of file).cycles (read_right file n)) z

  -- a file has few lines
  pub line_small : a.line < 4294967296
  line_small = let k : a.line ≡ (read_of file).line = ap (λ (x : Answer). x.line) e in omega (arith, k, read_line file)

  module _ (t : Bool) (l m : List ℕ) (p : ℕ) where
    wrote_answered : Wrote l 0 (answered t a) m p → Wrote l 0 (file_text t file) m p
    unfolding file_text
    wrote_answered w = wrote_as l m (answered t a) (file_text t file) 0 p (ap (answered t) e) w

    pub sheet_refused : a.no ≢ 0 → Wrote l 0 (refused_text a.no a.line) m p → Wrote l 0 (file_text t file) m p
    sheet_refused n w = wrote_answered (wrote_as l m (refused_text a.no a.line) (answered t a) 0 p (sym (if_no _ (ne_eqb a.no 0 n) refl)) w)

    pub sheet_right : a.no ≡ 0 → Wrote l 0 (sheet_text t a.rig.rows a.rig.master (rows_of a.rig.row)) m p → Wrote l 0 (file_text t file) m p
    sheet_right z w =
        wrote_answered
        (wrote_as l m (sheet_text t a.rig.rows a.rig.master (rows_of a.rig.row)) (answered t a) 0 p (sym (if_yes _ (eq-eqb a.no 0 z) refl)) w)

-- ---- the whole

pub told_nothing : (arguments : ℕ) (option input l : List ℕ) → length l < sheet_room → Told arguments option input l l 0
told_nothing arguments option input l h = record { is = inr (h, refl, refl) }

module _ (arguments : ℕ) (option input l m : List ℕ) (p : ℕ) (h : sheet_room ≤ length l) where
  told_text : (text : List ℕ) → Asks arguments option (take (rig_end input) input) text → Wrote l 0 text m p → Told arguments option input l m p
  told_text text a w = record { is = inl (text, h, a, w) }

  module _ (e : ℕ) (r : e ≡ rig_end input) where
    at_end : (t : Bool) → file_text t (take e input) ≡ file_text t (take (rig_end input) input)
    at_end t = ap (λ n. file_text t (take n input)) r

    pub told_lines : arguments < 2 → Wrote l 0 (file_text false (take e input)) m p → Told arguments option input l m p
    told_lines z w = told_text (file_text false (take e input)) (lines z (at_end false)) w

    pub told_table : 2 ≤ arguments → arguments ≤ 2 → option ≡ table_option → Wrote l 0 (file_text true (take e input)) m p → Told arguments option input l m p
    told_table a b o w = told_text (file_text true (take e input)) (table (omega arith) o (at_end true)) w

  pub told_many : 2 < arguments → Wrote l 0 usage_text m p → Told arguments option input l m p
  told_many z w = told_text usage_text (another (omega arith) (λ e o. omega (arith, e)) refl) w

  pub told_another : 2 ≤ arguments → (b : Bool) → (option ≡ table_option → b ≡ true) → b ≡ false → Wrote l 0 usage_text m p → Told arguments option input l m p
  told_another z b f n w = told_text usage_text (another z (λ e o. false≢true (sym n ∙ f o)) refl) w

-- what is told lies inside the buffer
pub told_fits : (arguments : ℕ) (option input l m : List ℕ) (p : ℕ) → Told arguments option input l m p → p ≤ length m
told_fits arguments option input l m p w =
    ⊎_elim
    (λ x. omega (arith, x.3.place, x.3.size, wrote_fits l 0 x.0 m p (omega arith) x.3))
    (λ x. omega (arith, x.2))
    w.is

-- the part of the input that is read lies inside it
pub end_fits : (input : List ℕ) (e : ℕ) → e ≡ rig_end input → e ≤ length input
end_fits input e r = omega (arith, r, end_le input)

-- ---- the statement fixes the result

module _ (arguments : ℕ) (option : List ℕ) where
  asks_same : (file t u : List ℕ) → Asks arguments option file t → Asks arguments option file u → t ≡ u
  asks_same file t u (lines a e) (lines b f) = e ∙ sym f
  asks_same file t u (lines a e) (table b c f) = absurd (omega arith)
  asks_same file t u (lines a e) (another b c f) = absurd (omega (arith, a, b))
  asks_same file t u (table a o e) (lines b f) = absurd (omega arith)
  asks_same file t u (table a o e) (table b c f) = e ∙ sym f
  asks_same file t u (table a o e) (another b c f) = absurd (c a o)
  asks_same file t u (another a c e) (lines b f) = absurd (omega (arith, a, b))
  asks_same file t u (another a c e) (table b o f) = absurd (c b o)
  asks_same file t u (another a c e) (another b d f) = e ∙ sym f

  pub told_same : (input l m n : List ℕ) (p q : ℕ) → Told arguments option input l m p → Told arguments option input l n q → (m ≡ n) × (p ≡ q)
  told_same input l m n p q a b =
      ⊎_elim
      (λ x. ⊎_elim
      (λ y. wrote_same l 0 x.0 m n p q x.3 (wrote_as l n y.0 x.0 0 q (asks_same (take (rig_end input) input) y.0 x.0 y.2 x.2) y.3))
      (λ y. absurd (let z : ⊥ = omega (arith, x.1, y.0) in z)) b.is)
      (λ x. ⊎_elim (λ y. absurd (let z : ⊥ = omega (arith, x.0, y.1) in z)) (λ y. (x.1 ∙ sym y.1, x.2 ∙ sym y.2)) b.is)
      a.is
