-- A FILE, EXACTLY.
--     accepted_exactly    a file is accepted, as the rig g with its cycles ↔ g is right and the file is g's
--     four_exactly        4 ↔ no line is faulty, the file is not too long, and it is the file of no right rig
--     four_in_words       the same, with what a faulty line is in the paper's words
-- What the file of a rig is, `file_of` says (rig_write/File): the text that the writer writes. Neither speaks of how a file is read.
-- Assumes nothing.
use Rattle.std.specs.Prelude.{ℕ, suc, ◌≤◌, ◌≡◌, ◌↔◌, List, length}
use Rattle.std.proofs.Common.{sym, ap, subst, ◌∙◌, arith}
use Rattle.rig.specs.declared.Cycle.{Cycle}
use Rattle.rig.specs.declared.Rig.{Rig}
use Rattle.rig.specs.Rules.{Right}
use Rattle.rig.specs.Forms.{table_of}
use Rattle.rig_lines.specs.File.{Fault, fault_of}
use Rattle.rig_lines.specs.Words.{NoneFaulty}
use Rattle.rig_lines.proofs.Laws.FirstFaulty.{none_faulty}
use Rattle.rig_build.specs.declared.Answer.{Answer}
use Rattle.rig_build.specs.Read.{file_accepted, read_computed}
use Rattle.rig_build.specs.Laws.Exactly.{Way, long, line, whole, right, way, whole_broken_lem, all_right, accepted_right, number_four}
use Rattle.rig_write.specs.File.{file_of, FileOfRight}
use Rattle.rig_round_trips.specs.Read.{read_written}
use Rattle.rig_round_trips.specs.Same.{same_bytes}

pub accepted_exactly : (s : List ℕ) (g : Rig) (cycles : List Cycle) → (read_computed s ≡ file_accepted g cycles) ↔ FileOfRight s g cycles
accepted_exactly s g cycles = (there, λ w. ap read_computed w.1 ∙ read_written g cycles w.0)
  where
    there : read_computed s ≡ file_accepted g cycles → FileOfRight s g cycles
    there e =
        let n : (read_computed s).no ≡ 0 = ap (λ (a : Answer). a.no) e in (
          subst (λ (a : Answer). Right a.rig a.cycles) e (accepted_right s n),
          sym (same_bytes s n) ∙ ap (λ (a : Answer). file_of a.rig (table_of a.cycles)) e,
        )

-- "4: a whole-file rule is broken (line 0)", "4 only if no line is faulty", and a file that is too long is refused before
pub four_exactly : (s : List ℕ) →
    ((read_computed s).no ≡ 4) ↔ ((length s ≤ 40960) × ((fault_of s).no ≡ 0) × ((g : Rig) (cycles : List Cycle) → FileOfRight s g cycles → ⊥))
four_exactly s = (there, λ w. back w.0 w.1 w.2 (way s))
  where
    there : (read_computed s).no ≡ 4 → (length s ≤ 40960) × ((fault_of s).no ≡ 0) × ((g : Rig) (cycles : List Cycle) → FileOfRight s g cycles → ⊥)
    there e =
        let w = number_four s e in
        (w.0, w.1, λ g cycles f. let z : ◌≡◌ {A = ℕ} 4 0 = sym e ∙ ap (λ (a : Answer). a.no) ((accepted_exactly s g cycles).1 f) in omega arith)

    back : length s ≤ 40960 → (fault_of s).no ≡ 0 → ((g : Rig) (cycles : List Cycle) → FileOfRight s g cycles → ⊥) → Way s → (read_computed s).no ≡ 4
    back h c n (long k) = absurd (omega arith)
    back h c n (line j m k f l) = let z : ◌≡◌ {A = ℕ} (suc j) 0 = sym (ap (λ (a : Fault). a.no) f) ∙ c in absurd (omega arith)
    back h c n (whole k l f r) = ap (λ (a : Answer). a.no) (whole_broken_lem s l f k r)
    back h c n (right k f r) = absurd (n _ _ ((accepted_exactly s _ _).0 (all_right s k f r)))

pub four_in_words : (s : List ℕ) →
    ((read_computed s).no ≡ 4) ↔ ((length s ≤ 40960) × NoneFaulty s × ((g : Rig) (cycles : List Cycle) → FileOfRight s g cycles → ⊥))
four_in_words s = (
  λ e. let w = (four_exactly s).0 e in (w.0, (none_faulty s).0 w.1, w.2),
  λ w. (four_exactly s).1 (w.0, (none_faulty s).1 w.1, w.2),
)
