use native.Mathlib.Omega.{arith}
use Rattle.std.specs.Prelude.{ℕ, ◌+◌, ◌-◌, ◌≡◌, List, refl, length}
use Rattle.std.proofs.Common.{ap, ◌∙◌, drop-drop}
use borrow.Rule.Slice.PartMut.{put_mid}
use Rattle.laws.specs.Put.{put}
use Rattle.laws.specs.Laws.Put.{length_put}
use Rattle.put_text.proofs.put_text.Goals as goal

-- the part that is lent for the copy is the place of the text
at_part : (l m t : List ℕ) (at : ℕ) → m ≡ t → put_mid at (at + length t - at) l m ≡ put l at t
unfolding put
at_part l m t at e = let k : at + length t - at ≡ length t = omega arith in rw (e, k, drop-drop)

pub returns : goal.returns
returns c =
    let e = at_part c.args.out.now c.copy_from_slice.new.self c.args.text.now c.args.at c.copy_from_slice.ensures.after in
    record { place = refl; text = e; size = ap length e ∙ length_put c.args.out.now c.args.at c.args.text.now c.requires }
