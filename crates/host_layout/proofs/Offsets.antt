-- THE LAYOUT that the C header declares: the size and the alignment of the record, and where each field of a reply begins, computed
-- of the types that the exported functions' code has. A field that is added, moved or widened is refused here.
use mathlib.Core.Path.{◌≡◌, refl}
use mathlib.Core.List.{[], ◌∷◌}
use prog.Memory.{size, align}
use Rattle.word_numbers.proofs.Offsets.{offsets}
use Rattle.host_layout.specs.Library.{record_size, record_align}
use Rattle.exec.proofs.Exec.TheLaws as record_laws
use Rattle.host_replies.proofs.Reply.TheLaws as reply_laws

pub record_size_lem : size record_laws.mir ≡ record_size
record_size_lem = refl

pub record_align_lem : align record_laws.mir ≡ record_align
record_align_lem = refl

pub reply_size : size reply_laws.mir ≡ 36
reply_size = refl

pub reply_align : align reply_laws.mir ≡ 4
reply_align = refl

pub reply_fields : offsets reply_laws.mir 0 9 ≡ 0 ∷ 4 ∷ 8 ∷ 12 ∷ 16 ∷ 20 ∷ 24 ∷ 28 ∷ 32 ∷ []
reply_fields = refl
