-- "32 put unreduced into the count field spills: 14432 for 14400." And no field of full size spills into another.
use Rattle.std.specs.Prelude.{◌≡◌, refl}
use Rattle.word_parts.specs.Packed.{command_word, status_word}

pub nothing_spills :
    (command_word 7 0 2 32 ≡ 14400)
    × (command_word 31 1 31 31 ≡ 65535)
    × (command_word 31 0 0 0 ≡ 63488)
    × (command_word 0 0 31 0 ≡ 992)
    × (status_word 31 1 511 1 ≡ 65535)
    × (status_word 0 1 0 1 ≡ 1025)
    × (status_word 0 0 511 0 ≡ 1022)
unfolding command_word status_word
nothing_spills = (refl, refl, refl, refl, refl, refl, refl)
