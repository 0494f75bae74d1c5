use mathlib.Core.List.{List, [], ◌∷◌}
use Prim.Native.Nat.{ℕ}
use native.Mathlib.Omega.{arith}
use Rattle.bench_script.specs.Laws.Written.{Listing, listing_start, listing_room, listing_step}
use Rattle.bench_script.proofs.put_answer.Goals as goal

pub put_field-c-requires : goal.put_field-c-requires
put_field-c-requires c =
    let told : List ℕ = (let s = c.args in s.code ∷ s.count ∷ s.running ∷ s.woken ∷ s.activated ∷ []) in
    let Told : List ℕ → ℕ → ℕ → Type 0 = (λ m p i. Listing c.args.out.now c.args.at (told) m p i) in
    let one : Told c.put_field-b.new.out c.put_field-b.result 1 = (let s = c in let start = listing_start s.args.out.now s.args.at (told) s.requires in listing_step s.args.out.now s.args.at (told) s.args.out.now s.args.at 0 start (omega arith) c.put_field-b.new.out c.put_field-b.result c.put_field-b.ensures) in
    let b = c in
    listing_room _ _ (told) b.put_field-b.new.out b.put_field-b.result 1 (one) (omega arith)

pub put_field-d-requires : goal.put_field-d-requires
put_field-d-requires c =
    let told : List ℕ = (let s = c.args in s.code ∷ s.count ∷ s.running ∷ s.woken ∷ s.activated ∷ []) in
    let Told : List ℕ → ℕ → ℕ → Type 0 = (λ m p i. Listing c.args.out.now c.args.at (told) m p i) in
    let one : Told c.put_field-b.new.out c.put_field-b.result 1 = (let s = c in let start = listing_start s.args.out.now s.args.at (told) s.requires in listing_step s.args.out.now s.args.at (told) s.args.out.now s.args.at 0 start (omega arith) c.put_field-b.new.out c.put_field-b.result c.put_field-b.ensures) in
    let two : Told c.put_field-c.new.out c.put_field-c.result 2 = (let b = c in listing_step _ _ (told) b.put_field-b.new.out b.put_field-b.result 1 (one) (omega arith) c.put_field-c.new.out c.put_field-c.result c.put_field-c.ensures) in
    let b = c in
    listing_room _ _ (told) b.put_field-c.new.out b.put_field-c.result 2 (two) (omega arith)

pub put_field-e-requires : goal.put_field-e-requires
put_field-e-requires c =
    let told : List ℕ = (let s = c.args in s.code ∷ s.count ∷ s.running ∷ s.woken ∷ s.activated ∷ []) in
    let Told : List ℕ → ℕ → ℕ → Type 0 = (λ m p i. Listing c.args.out.now c.args.at (told) m p i) in
    let one : Told c.put_field-b.new.out c.put_field-b.result 1 = (let s = c in let start = listing_start s.args.out.now s.args.at (told) s.requires in listing_step s.args.out.now s.args.at (told) s.args.out.now s.args.at 0 start (omega arith) c.put_field-b.new.out c.put_field-b.result c.put_field-b.ensures) in
    let two : Told c.put_field-c.new.out c.put_field-c.result 2 = (let b = c in listing_step _ _ (told) b.put_field-b.new.out b.put_field-b.result 1 (one) (omega arith) c.put_field-c.new.out c.put_field-c.result c.put_field-c.ensures) in
    let three : Told c.put_field-d.new.out c.put_field-d.result 3 = (let b = c in listing_step _ _ (told) b.put_field-c.new.out b.put_field-c.result 2 (two) (omega arith) c.put_field-d.new.out c.put_field-d.result c.put_field-d.ensures) in
    let b = c in
    listing_room _ _ (told) b.put_field-d.new.out b.put_field-d.result 3 (three) (omega arith)

pub put_field-requires : goal.put_field-requires
put_field-requires c =
    let told : List ℕ = (let s = c.args in s.code ∷ s.count ∷ s.running ∷ s.woken ∷ s.activated ∷ []) in
    let Told : List ℕ → ℕ → ℕ → Type 0 = (λ m p i. Listing c.args.out.now c.args.at (told) m p i) in
    let one : Told c.put_field-b.new.out c.put_field-b.result 1 = (let s = c in let start = listing_start s.args.out.now s.args.at (told) s.requires in listing_step s.args.out.now s.args.at (told) s.args.out.now s.args.at 0 start (omega arith) c.put_field-b.new.out c.put_field-b.result c.put_field-b.ensures) in
    let two : Told c.put_field-c.new.out c.put_field-c.result 2 = (let b = c in listing_step _ _ (told) b.put_field-b.new.out b.put_field-b.result 1 (one) (omega arith) c.put_field-c.new.out c.put_field-c.result c.put_field-c.ensures) in
    let three : Told c.put_field-d.new.out c.put_field-d.result 3 = (let b = c in listing_step _ _ (told) b.put_field-c.new.out b.put_field-c.result 2 (two) (omega arith) c.put_field-d.new.out c.put_field-d.result c.put_field-d.ensures) in
    let four : Told c.put_field-e.new.out c.put_field-e.result 4 = (let b = c in listing_step _ _ (told) b.put_field-d.new.out b.put_field-d.result 3 (three) (omega arith) c.put_field-e.new.out c.put_field-e.result c.put_field-e.ensures) in
    let b = c in
    listing_room _ _ (told) b.put_field-e.new.out b.put_field-e.result 4 (four) (omega arith)

pub returns : goal.returns
returns c =
    let told : List ℕ = (let s = c.args in s.code ∷ s.count ∷ s.running ∷ s.woken ∷ s.activated ∷ []) in
    let Told : List ℕ → ℕ → ℕ → Type 0 = (λ m p i. Listing c.args.out.now c.args.at (told) m p i) in
    let one : Told c.put_field-b.new.out c.put_field-b.result 1 = (let s = c in let start = listing_start s.args.out.now s.args.at (told) s.requires in listing_step s.args.out.now s.args.at (told) s.args.out.now s.args.at 0 start (omega arith) c.put_field-b.new.out c.put_field-b.result c.put_field-b.ensures) in
    let two : Told c.put_field-c.new.out c.put_field-c.result 2 = (let b = c in listing_step _ _ (told) b.put_field-b.new.out b.put_field-b.result 1 (one) (omega arith) c.put_field-c.new.out c.put_field-c.result c.put_field-c.ensures) in
    let three : Told c.put_field-d.new.out c.put_field-d.result 3 = (let b = c in listing_step _ _ (told) b.put_field-c.new.out b.put_field-c.result 2 (two) (omega arith) c.put_field-d.new.out c.put_field-d.result c.put_field-d.ensures) in
    let four : Told c.put_field-e.new.out c.put_field-e.result 4 = (let b = c in listing_step _ _ (told) b.put_field-d.new.out b.put_field-d.result 3 (three) (omega arith) c.put_field-e.new.out c.put_field-e.result c.put_field-e.ensures) in
    let five : Told c.put_field.new.out c.put_field.result 5 = (let b = c in listing_step _ _ (told) b.put_field-e.new.out b.put_field-e.result 4 (four) (omega arith) c.put_field.new.out c.put_field.result c.put_field.ensures) in
    let d = c in
    (five).wrote
