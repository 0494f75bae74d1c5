use Rattle.std.proofs.Common.{◌∙◌, ⊎_elim, arith}
use Rattle.std.specs.Prelude.{ℕ, zero, suc, ◌*◌, ◌<◌, ◌≡◌, refl, List, [], ◌∷◌, ◌++◌, length, map, drop, get_or}
use Rattle.std.proofs.lemmas.List.{length-map}
use Rattle.rig_lines.specs.Kinds.{sort_of, sorts}
use Rattle.rig_lines.specs.Kind.{names_number}
use Rattle.rig_lines.specs.declared.Names.{Names}
use Rattle.rig_lines.specs.declared.Names.TheVariants.{Task as T, Flag as F, Other as O}
use Rattle.rig_lines.specs.Laws.Kinds.{row_at}
use Rattle.rig_lines.proofs.Kind.names.Goals as goal

numbers_at : (l : List Names) (j : ℕ) → j < length l → names_number (get_or l j T) ≡ get_or (map names_number l) j 0
numbers_at [] j h = absurd (omega arith)
numbers_at (n ∷ ns) zero h = refl
numbers_at (n ∷ ns) (suc j) h = numbers_at ns j (omega arith)

-- a kind's row of the table, as the code writes it
row_named : (l : List Names) (rest : List ℕ) (a k j : ℕ) → drop a sorts ≡ map names_number l ++ rest → k * 9 ≡ a → j < length l → names_number (get_or l j T) ≡ sort_of k j
unfolding sort_of
row_named l rest a k j d e h = numbers_at l j h ∙ row_at sorts (map names_number l) rest a k j d e (rw length-map h)

pub returns-in-Task : goal.returns-in-Task
unfolding sorts
returns-in-Task c = λ j h. rw c.in-Task.is (row_named (T ∷ T ∷ O ∷ O ∷ F ∷ O ∷ O ∷ O ∷ O ∷ []) (drop 27 sorts) 18 2 j refl refl h)

pub returns-in-Condition : goal.returns-in-Condition
unfolding sorts
returns-in-Condition c = λ j h. rw c.in-Condition.is (row_named (T ∷ O ∷ O ∷ O ∷ O ∷ O ∷ O ∷ O ∷ O ∷ []) (drop 36 sorts) 27 3 j refl refl h)

pub returns-in-Line : goal.returns-in-Line
unfolding sorts
returns-in-Line c = λ j h. rw c.in-Line.is (row_named (T ∷ O ∷ F ∷ O ∷ O ∷ O ∷ O ∷ O ∷ O ∷ []) (drop 45 sorts) 36 4 j refl refl h)

pub returns-in-Flag : goal.returns-in-Flag
unfolding sorts
returns-in-Flag c = λ j h. rw c.in-Flag.is (row_named (O ∷ F ∷ O ∷ O ∷ O ∷ O ∷ O ∷ O ∷ O ∷ []) (drop 54 sorts) 45 5 j refl refl h)

pub returns-in-Rig : goal.returns-in-Rig
unfolding sorts
returns-in-Rig c = λ j h. ⊎_elim (λ e. rw e (row_named (O ∷ O ∷ O ∷ O ∷ O ∷ O ∷ O ∷ O ∷ O ∷ []) (drop 18 sorts) 9 1 j refl refl h)) (λ e. rw e (row_named (O ∷ O ∷ O ∷ O ∷ O ∷ O ∷ O ∷ O ∷ O ∷ []) [] 54 6 j refl refl h)) c.in-Rig.is
