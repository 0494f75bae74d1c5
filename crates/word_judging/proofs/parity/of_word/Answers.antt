-- `of_word` puts the bits of both bytes together.
use Rattle.std.proofs.Common.{sym, ◌/◌, ◌%◌, arith}
use Rattle.word_parts.proofs.Laws.Parity.{parity_below, parity_bytes}
use Rattle.word_judging.proofs.parity.of_word.Goals as goal

pub overflow_add-result : goal.overflow_add-result
overflow_add-result c = omega (arith, parity_below (c.args.word / 256))

pub overflow_add-result-2 : goal.overflow_add-result-2
overflow_add-result-2 c = omega (arith, parity_below (c.args.word / 256), parity_below (c.args.word % 256))

pub returns : goal.returns
returns c = rw (c.of_byte-high.ensures, c.of_byte-low.ensures) (sym (parity_bytes c.args.word))
