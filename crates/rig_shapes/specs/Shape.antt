-- WHY A LINE HAS THE WRONG SHAPE (refusal 1), as a person would say it: the first of these reasons that fits the line.
use Rattle.std.specs.Prelude.{ℕ, ◌-◌, Bool, false, cond, ◌&&◌, ◌||◌, List, [], ◌∷◌, eqb, leb, ltb, length, get_or}
use Rattle.text.specs.Split.{split, lf, tab}
use Rattle.rig_lines.specs.Kinds.{count_of}
use Rattle.rig_lines.specs.Line.{line_of, others}
use Rattle.rig_shapes.specs.declared.reasons.Reason.{Reason}
use Rattle.rig_shapes.specs.declared.reasons.Reason.TheVariants.{EmptyFile, NoLineEnd, ByteOrderMark, CarriageReturn, EmptyLine, Space, UnknownKind, TooFewFields, TooManyFields, SpareZero, NoDecimal}

abbrev pub empty_file : ℕ
empty_file = 1

abbrev pub no_line_end : ℕ
no_line_end = 2

abbrev pub byte_order_mark : ℕ
byte_order_mark = 3

abbrev pub carriage_return : ℕ
carriage_return = 4

abbrev pub empty_line : ℕ
empty_line = 5

abbrev pub space : ℕ
space = 6

abbrev pub unknown_kind : ℕ
unknown_kind = 7

abbrev pub too_few_fields : ℕ
too_few_fields = 8

abbrev pub too_many_fields : ℕ
too_many_fields = 9

abbrev pub spare_zero : ℕ
spare_zero = 10

abbrev pub no_decimal : ℕ
no_decimal = 11

-- the number of a reason
abbrev pub reason_number : Reason → ℕ
reason_number EmptyFile = empty_file
reason_number NoLineEnd = no_line_end
reason_number ByteOrderMark = byte_order_mark
reason_number CarriageReturn = carriage_return
reason_number EmptyLine = empty_line
reason_number Space = space
reason_number UnknownKind = unknown_kind
reason_number TooFewFields = too_few_fields
reason_number TooManyFields = too_many_fields
reason_number SpareZero = spare_zero
reason_number NoDecimal = no_decimal

-- the bytes CR, space and `0`
abbrev pub CR : ℕ
CR = 13

abbrev pub SP : ℕ
SP = 32

abbrev pub zero_digit : ℕ
zero_digit = 48

-- a byte stands in a line exactly when it parts it into more than one piece
unfoldable pub has : ℕ → List ℕ → Bool
has c line = ltb 1 (length (split c line))

-- the line begins with the bytes EF BB BF
unfoldable pub marked : List ℕ → Bool
marked line = eqb (get_or line 0 0) 239 && (eqb (get_or line 1 0) 187 && eqb (get_or line 2 0) 191)

-- a zero in front of other bytes of a field
unfoldable pub spare : List ℕ → Bool
spare field = ltb 1 (length field) && eqb (get_or field 0 0) zero_digit

unfoldable pub spares : List (List ℕ) → Bool
spares [] = false
spares (f ∷ fs) = spare f || spares fs

-- the fields behind the first, which names the kind
abbrev pub fields_of : List ℕ → List (List ℕ)
fields_of line = others (split tab line)

unfoldable pub field_reason : List ℕ → ℕ
field_reason line =
    cond (eqb (line_of line).kind 0) unknown_kind
    (cond (ltb (length (fields_of line)) (count_of (line_of line).kind)) too_few_fields
    (cond (ltb (count_of (line_of line).kind) (length (fields_of line))) too_many_fields
    (cond (spares (fields_of line)) spare_zero no_decimal)))

unfoldable pub line_reason : List ℕ → ℕ
line_reason line =
    cond (marked line) byte_order_mark
    (cond (has CR line) carriage_return
    (cond (eqb (length line) 0) empty_line
    (cond (has SP line) space (field_reason line))))

-- of the n-th piece, from 1 on: what stands behind the last LF has no LF
unfoldable pub piece_reason : ℕ → List (List ℕ) → ℕ
piece_reason n [] = no_line_end
piece_reason n (l ∷ []) = no_line_end
piece_reason n (l ∷ m ∷ ms) = cond (leb n 1) (line_reason l) (piece_reason (n - 1) (m ∷ ms))

-- of line n of a file
unfoldable pub reason_of : List ℕ → ℕ → ℕ
reason_of s n = cond (eqb (length s) 0) empty_file (piece_reason n (split lf s))
