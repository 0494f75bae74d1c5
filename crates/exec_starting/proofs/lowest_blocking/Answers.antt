use native.Mathlib.Omega.{arith}
use Rattle.start_tests.specs.Laws.Blocking.{position_low}
use Rattle.exec_starting.specs.Laws.Reading.{fits}
use Rattle.exec_starting.proofs.lowest_blocking.Goals as goal

pub link_lines-links-requires : goal.link_lines-links-requires
link_lines-links-requires c = fits _ _ c.requires.0 c.flag_owners-owner.ensures

pub overflow_cast-result : goal.overflow_cast-result
overflow_cast-result c = omega (arith, c.unwrap_or.ensures, position_low _ _ _ c.lowest.ensures.told)
