-- Each kind's line as the code writes it, and its test as the code makes it.
-- Assumes nothing.
use Rattle.std.specs.Prelude.{ℕ, ◌≤◌, ◌<◌, ◌≡◌, true, false, not, [], ◌∷◌, eqb, ltb}
use Rattle.std.proofs.Common.{arith, eq-eqb, ne_eqb, lt-ltb, le-ltb, le-leb}
use Rattle.std.proofs.lemmas.Bool.{lt-leb}
use Rattle.rig.specs.declared.Rig.{Rig}
use Rattle.rig_lines.specs.Kinds.{count_of, counts}
use Rattle.rig_print.specs.Line.{line_text}
use Rattle.rig_print.specs.Laws.Line.{line_is}
use Rattle.rig_write.specs.Kept.{ended}
use Rattle.rig_write.specs.File.{rig_line, is_task, line}

pub rig_text_lem : (g : Rig) → line_text 1 (1 ∷ g.tasks ∷ g.flags ∷ g.master ∷ 0 ∷ 0 ∷ 0 ∷ 0 ∷ 0 ∷ []) ≡ ended (rig_line g)
unfolding count_of counts
rig_text_lem g = line_is 1 _

pub five_text : (x a b c d e : ℕ) → x ≡ a → line_text 2 (x ∷ b ∷ c ∷ d ∷ e ∷ 0 ∷ 0 ∷ 0 ∷ 0 ∷ []) ≡ ended (line 2 (a ∷ b ∷ c ∷ d ∷ e ∷ []))
unfolding count_of counts
five_text x a b c d e q = rw q (line_is 2 _)

pub four_text : (x y a b c d : ℕ) → x ≡ a → y ≡ b → line_text 3 (x ∷ y ∷ c ∷ d ∷ 0 ∷ 0 ∷ 0 ∷ 0 ∷ 0 ∷ []) ≡ ended (line 3 (a ∷ b ∷ c ∷ d ∷ []))
unfolding count_of counts
four_text x y a b c d q r = rw (q, r) (line_is 3 _)

pub three_text : (a b c : ℕ) → line_text 4 (a ∷ b ∷ c ∷ 0 ∷ 0 ∷ 0 ∷ 0 ∷ 0 ∷ 0 ∷ []) ≡ ended (line 4 (a ∷ b ∷ c ∷ []))
unfolding count_of counts
three_text a b c = line_is 4 _

pub two_text : (x a b : ℕ) → x ≡ a → line_text 5 (x ∷ b ∷ 0 ∷ 0 ∷ 0 ∷ 0 ∷ 0 ∷ 0 ∷ 0 ∷ []) ≡ ended (line 5 (a ∷ b ∷ []))
unfolding count_of counts
two_text x a b q = rw q (line_is 5 _)

pub seven_text : (a b c d e f h : ℕ) → line_text 6 (a ∷ b ∷ c ∷ d ∷ e ∷ f ∷ h ∷ 0 ∷ 0 ∷ []) ≡ ended (line 6 (a ∷ b ∷ c ∷ d ∷ e ∷ f ∷ h ∷ []))
unfolding count_of counts
seven_text a b c d e f h = line_is 6 _

-- tests
pub task_yes : (g : Rig) (t n : ℕ) → n ≡ g.tasks → 1 ≤ t → t ≤ n → is_task g t ≡ true
task_yes g t n e h k = rw (le-leb 1 t h, le-leb t g.tasks (omega arith))

pub task_low : (g : Rig) (t : ℕ) → t < 1 → is_task g t ≡ false
task_low g t h = rw (lt-leb 1 t h)

pub task_high : (g : Rig) (t n : ℕ) → n ≡ g.tasks → 1 ≤ t → n < t → is_task g t ≡ false
task_high g t n e h k = rw (le-leb 1 t h, lt-leb t g.tasks (omega arith))

pub below_yes : (i n m : ℕ) → n ≡ m → i < n → ltb i m ≡ true
below_yes i n m e h = lt-ltb i m (omega arith)

pub below_no : (i n m : ℕ) → n ≡ m → n ≤ i → ltb i m ≡ false
below_no i n m e h = le-ltb i m (omega arith)

pub flag_no : (f : ℕ) → f ≡ 0 → not (eqb f 0) ≡ false
flag_no f e = rw (eq-eqb f 0 e)

pub flag_yes : (f : ℕ) → (f ≡ 0 → ⊥) → not (eqb f 0) ≡ true
flag_yes f e = rw (ne_eqb f 0 e)
