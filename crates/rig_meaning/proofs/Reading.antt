-- THE ANSWER TO A RIG FILE. The type of `reading` is all that is known of it: there is an answer of which Reads.antt holds, and no other
-- (`reads_same`, Laws/Computed.antt). How it is computed is nobody's to believe.
use Rattle.std.specs.Prelude.{ℕ, ◌≡◌, refl, List}
use Rattle.rig_build.specs.declared.Answer.{Answer}
use Rattle.rig_build.specs.Read.{read_computed}
use Rattle.rig_meaning.specs.Reads.{Reads}
use Rattle.rig_meaning.proofs.Laws.Computed.{computed_reads}

pub reading : (s : List ℕ) → (a : Answer) × Reads s a
reading s = (read_computed s, computed_reads s)

unfoldable pub read_of : List ℕ → Answer
read_of s = (reading s).0

-- for proofs: the answer is the computed one, its `rule` too
pub read_computed_lem : (s : List ℕ) → read_of s ≡ read_computed s
unfolding reading read_of
read_computed_lem s = refl
