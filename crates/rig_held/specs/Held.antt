-- The lines that are held while a file is read, as lines of a file.
use Rattle.std.specs.Prelude.{◌≡◌, List, [], ◌∷◌, take}
use Rattle.rig_lines.specs.declared.Kind.TheVariants.{Rig}
use Rattle.rig_lines.specs.Kind.{kind_number}
use Rattle.rig_lines.specs.Kinds.{count_of}
use Rattle.rig_lines.specs.Line.{Line}
use Rattle.rig_held.specs.declared.Line.{Line as HeldLine}

-- its kind by number, and as many numbers as its kind has
unfoldable pub held_line : HeldLine → Line
held_line r = record { kind = kind_number r.kind; nums = take (count_of (kind_number r.kind)) r.numbers }

unfoldable pub held : List HeldLine → List Line
held [] = []
held (r ∷ rs) = held_line r ∷ held rs

-- there is a line, and the first is the RIG line
abbrev pub Begins : List HeldLine → Type 0
Begins [] = ⊥
Begins (r ∷ rs) = r.kind ≡ Rig
