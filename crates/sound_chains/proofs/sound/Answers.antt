-- `sound_chains::sound` meets its contract: it answers true exactly where the links hold chains.
use mathlib.Core.Path.{refl}
use Rattle.sound_chains.specs.Post.{ring_of}
use Rattle.std.specs.Prelude.{None, Some}
use Rattle.sound_chains.specs.Laws.{not_sound, tested_sound}
use Rattle.sound_chains.proofs.sound.Goals as goal

pub returns-in-None : goal.returns-in-None
returns-in-None c = not_sound c.args.links.now (ring_of None) (c.in-None.ensures) refl

pub returns-in-Some : goal.returns-in-Some
returns-in-Some c = tested_sound c.args.links.now (ring_of (Some c.in-Some.seen)) c.tasks_ok.result (c.in-Some.ensures) refl c.tasks_ok.ensures
