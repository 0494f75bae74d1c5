-- THE LAYOUT that the C headers declare: where each field of an answer and of a word's fields begins, computed of the types that the
-- functions' code has. A field that is added, moved or widened is refused here.
use mathlib.Core.Path.{◌≡◌, refl}
use mathlib.Core.List.{List, [], ◌∷◌}
use mathlib.Core.Option.{some, none}
use Prim.Native.Nat.{ℕ, zero, suc}
use mir.Syntax.{Ty}
use prog.Memory.{size, align, field_of}
use Rattle.word_numbers.proofs.Made.TheLaws as made_laws
use Rattle.word_numbers.proofs.CommandNumbers.TheLaws as command_laws
use Rattle.word_numbers.proofs.StatusNumbers.TheLaws as status_laws

-- where field k begins; no type has one at a million
abbrev pub at : Ty → ℕ → ℕ
at τ k = elim (field_of τ k) as (λ _. ℕ) [ none ↦ 1000000 | some p ↦ p.1 ]

-- where n fields begin, from field k on
abbrev pub offsets : Ty → ℕ → ℕ → List ℕ
offsets τ k zero = []
offsets τ k (suc n) = at τ k ∷ offsets τ (suc k) n

pub made_layout : (size made_laws.mir ≡ 8) × (align made_laws.mir ≡ 4) × (offsets made_laws.mir 0 2 ≡ 0 ∷ 4 ∷ [])
made_layout = (refl, refl, refl)

pub command_layout : (size command_laws.mir ≡ 16) × (align command_laws.mir ≡ 4) × (offsets command_laws.mir 0 4 ≡ 0 ∷ 4 ∷ 8 ∷ 12 ∷ [])
command_layout = (refl, refl, refl)

pub status_layout : (size status_laws.mir ≡ 16) × (align status_laws.mir ≡ 4) × (offsets status_laws.mir 0 4 ≡ 0 ∷ 4 ∷ 8 ∷ 12 ∷ [])
status_layout = (refl, refl, refl)
