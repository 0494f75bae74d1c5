-- THE SENTENCES that are said of a file whose line is refused: one table for each refusal.
use Rattle.std.specs.Prelude.{ℕ, cond, List, eqb}
use Rattle.put_text.specs.Text.{ascii}
use Rattle.rig_shapes.specs.Shape.{empty_file, no_line_end, byte_order_mark, carriage_return, empty_line, space, unknown_kind, too_few_fields, too_many_fields, spare_zero}

-- ---- refusal 1: why the line has the wrong shape

abbrev pub empty_file_text : List ℕ
empty_file_text = ascii "the file is empty"

abbrev pub no_line_end_text : List ℕ
no_line_end_text = ascii "the last line has no line end (LF)"

abbrev pub byte_order_mark_text : List ℕ
byte_order_mark_text = ascii "the file begins with a byte-order mark: save it without one"

abbrev pub carriage_return_text : List ℕ
carriage_return_text = ascii "the line has a carriage return (CR): lines end in LF alone"

abbrev pub empty_line_text : List ℕ
empty_line_text = ascii "the line is empty"

abbrev pub space_text : List ℕ
space_text = ascii "the line has a space: fields are parted by one tab"

abbrev pub unknown_kind_text : List ℕ
unknown_kind_text = ascii "the line begins with no known kind: RIG, T, C, A, M or B"

abbrev pub too_few_fields_text : List ℕ
too_few_fields_text = ascii "the line has too few fields for its kind"

abbrev pub too_many_fields_text : List ℕ
too_many_fields_text = ascii "the line has too many fields for its kind"

abbrev pub spare_zero_text : List ℕ
spare_zero_text = ascii "a number has a spare zero in front"

abbrev pub no_decimal_text : List ℕ
no_decimal_text = ascii "a field is no decimal number"

-- by the reason (rig_shapes/Shape)
unfoldable pub shape_sentence : ℕ → List ℕ
shape_sentence reason =
    cond (eqb reason empty_file) empty_file_text
    (cond (eqb reason no_line_end) no_line_end_text
    (cond (eqb reason byte_order_mark) byte_order_mark_text
    (cond (eqb reason carriage_return) carriage_return_text
    (cond (eqb reason empty_line) empty_line_text
    (cond (eqb reason space) space_text
    (cond (eqb reason unknown_kind) unknown_kind_text
    (cond (eqb reason too_few_fields) too_few_fields_text
    (cond (eqb reason too_many_fields) too_many_fields_text
    (cond (eqb reason spare_zero) spare_zero_text no_decimal_text)))))))))

-- ---- refusals 2 and 3

abbrev pub too_long_text : List ℕ
too_long_text = ascii "the file is longer than 40,960 bytes"

abbrev pub outside_size_text : List ℕ
outside_size_text = ascii "a number is outside its size"

abbrev pub out_of_order_text : List ℕ
out_of_order_text = ascii "the record is out of order or repeated"

unfoldable pub line_sentence : ℕ → ℕ → List ℕ
line_sentence number line = cond (eqb line 0) too_long_text (cond (eqb number 2) outside_size_text out_of_order_text)
