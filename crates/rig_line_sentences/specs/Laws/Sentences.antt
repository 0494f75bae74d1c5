-- Laws of the definitions of Sentences.antt: a number that the table does not have.
use Rattle.std.specs.Prelude.{ℕ, ◌≡◌, ◌≢◌}
use Rattle.std.proofs.Common.{ne_eqb}
use Rattle.rig_line_sentences.specs.Sentences.{no_decimal_text, shape_sentence}

pub no_other_shape : (n : ℕ) → n ≢ 1 → n ≢ 2 → n ≢ 3 → n ≢ 4 → n ≢ 5 → n ≢ 6 → n ≢ 7 → n ≢ 8 → n ≢ 9 → n ≢ 10 → no_decimal_text ≡ shape_sentence n
unfolding shape_sentence
no_other_shape n a1 a2 a3 a4 a5 a6 a7 a8 a9 a10 =
    rw (ne_eqb n 1 a1, ne_eqb n 2 a2, ne_eqb n 3 a3, ne_eqb n 4 a4, ne_eqb n 5 a5, ne_eqb n 6 a6, ne_eqb n 7 a7, ne_eqb n 8 a8, ne_eqb n 9 a9, ne_eqb n 10 a10)
