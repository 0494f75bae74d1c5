-- The table follows its rule: one test over all of it, which is computed here.
use Rattle.std.proofs.Common.{refl}
use Rattle.std.specs.Int.Count.{ones, ones_in}
use Rattle.laws.specs.All.{all}
use Rattle.laws.specs.Tables.{follows}
use Rattle.word_parts.specs.Parity.{parity_bit}
use Rattle.word_judging.proofs.parity.of_byte.Goals as goal

pub entry-requires : goal.entry-requires
unfolding follows all parity_bit ones ones_in
entry-requires c = refl
