-- Each way out of the writer; exactly when it answers 4 and 10; and two answers with one report are one answer.
-- Assumes nothing.
use Rattle.std.specs.Prelude.{ℕ, ◌+◌, ◌≤◌, ◌<◌, ◌≡◌, ◌↔◌, Bool, cond, get_or, drop}
use Rattle.std.proofs.Math.Path.{refl, ap}
use Rattle.std.proofs.Common.{sym, ◌∙◌, take_at}
use Rattle.std.proofs.Math.Bool.{true, false, false≢true}
use mathlib.Core.List.{List}
use native.Mathlib.Omega.{arith}
use Rattle.std.proofs.Math.Dec.{ltb}
use Rattle.std.proofs.Math.ListN.{length, take}
use borrow.Author.Tests.{lt-ltb, le-ltb, ltb-true}
use Rattle.laws.specs.Put.{put}
use Rattle.put_text.specs.Wrote.{Wrote}
use Rattle.rig.specs.declared.Cycle.{Cycle}
use Rattle.rig.specs.declared.Rig.{Rig}
use Rattle.rig.specs.Rules.{Right}
use Rattle.rig.specs.Forms.{table_of}
use Rattle.rig_whole.specs.Decided.{is_right}
use Rattle.rig_whole.specs.Laws.Decided.{decided_is, decided_not}
use Rattle.rig_write.specs.File.{file_of}
use Rattle.rig_write.specs.Laws.Fits.{file_fits}
use Rattle.rig_write.specs.declared.Written.{Written}
use Rattle.rig_write.specs.declared.Written.TheVariants.{Done, Refused}
use Rattle.rig_write.specs.Written.{WriteReport, file_written, write_refused, written_report, written_of, buffer_of}

-- what was written at the start stands there
front : (l f : List ℕ) (n : ℕ) → length f ≡ n → take n (put l 0 f) ≡ f
unfolding put
front l f n e = take_at f (drop (0 + length f) l) n e

module _ (g : Rig) (cycles : List Cycle) (b : List ℕ) where
  pub not_right : (Right g cycles → ⊥) → (written_report (Refused 4) ≡ written_of g cycles (length b)) × (b ≡ buffer_of g cycles b)
  unfolding written_of buffer_of
  not_right n = let e = decided_not g cycles n in (rw e, rw e)

  module _ (r : Right g cycles) (table : List (List ℕ)) (t : table ≡ table_of cycles) where
    pub own_room : (own : List ℕ) → length own ≡ 40960 → length (file_of g table) ≤ length own
    own_room own l = rw (t, l) (file_fits g cycles r)

    pub too_short : (n : ℕ) → n ≡ 0 + length (file_of g table) → length b < n → (written_report (Refused 10) ≡ written_of g cycles (length b)) × (b ≡ buffer_of g cycles b)
    unfolding written_of buffer_of
    too_short n d h =
        let e = (decided_is g cycles).1 r in
        let k : length (file_of g table) ≡ n = omega arith in
        let z : ltb (length b) (length (file_of g (table_of cycles))) ≡ true = lt-ltb (length b) (length (file_of g (table_of cycles))) (rw (← t, k) h) in
        (rw (e, z), rw (e, z))

    pub in_own : (own₀ own : List ℕ) (n : ℕ) → length own₀ ≡ 40960 → Wrote own₀ 0 (file_of g table) own n → n ≤ length own
    in_own own₀ own n l w = let z = own_room own₀ l in let p = w.place in let k = w.size in omega arith

    pub done : (own₀ own : List ℕ) (n : ℕ) (c : List ℕ) (p : ℕ) → Wrote own₀ 0 (file_of g table) own n → n ≤ length b → Wrote b 0 (take n own) c p →
        (written_report (Done n) ≡ written_of g cycles (length b)) × (c ≡ buffer_of g cycles b)
    unfolding written_of buffer_of
    done own₀ own n c p o h q =
        let e = (decided_is g cycles).1 r in
        let e₀ = o.place in
        let f₀ : length (file_of g table) ≡ n = omega arith in
        let f : length (file_of g (table_of cycles)) ≡ n = ap (λ (x : List (List ℕ)). length (file_of g x)) (sym t) ∙ f₀ in
        let z : ltb (length b) (length (file_of g (table_of cycles))) ≡ false = le-ltb (length b) (length (file_of g (table_of cycles))) (omega arith) in
        let k : take n own ≡ file_of g (table_of cycles) = rw (o.text, t) (front own₀ (file_of g (table_of cycles)) n f) in
        (rw (e, z, f), q.text ∙ rw (e, z, k))

-- two answers with one report are one answer
pub written_same : (a b : Written) → written_report a ≡ written_report b → a ≡ b
written_same (Done m) (Done n) e = ap (λ (x : ℕ). Done x) (ap (λ (r : WriteReport). get_or r.values 0 0) e)
written_same (Done m) (Refused n) e = let z : ◌≡◌ {A = ℕ} 1 0 = ap (λ (r : WriteReport). length r.values) e in absurd (omega arith)
written_same (Refused m) (Done n) e = let z : ◌≡◌ {A = ℕ} 0 1 = ap (λ (r : WriteReport). length r.values) e in absurd (omega arith)
written_same (Refused m) (Refused n) e = ap (λ (x : ℕ). Refused x) (ap (λ (r : WriteReport). r.number) e)

-- the rig and the room settle what writing answers; the buffer after it is given by an equation
pub write_same : (g : Rig) (cycles : List Cycle) (room : ℕ) (x y : Written) → written_report x ≡ written_of g cycles room → written_report y ≡ written_of g cycles room → x ≡ y
write_same g cycles room x y p q = written_same x y (p ∙ sym q)

-- "4: .. an entry that takes a rig (start, writer) is given one that breaks any rule", "10: a lent buffer has not the length that this paper
-- states for it": exactly then
module _ (g : Rig) (cycles : List Cycle) (room : ℕ) where
  pub four_exactly : ((written_of g cycles room).number ≡ 4) ↔ (Right g cycles → ⊥)
  unfolding written_of
  four_exactly = (
    λ h w. false≢true (sym (go (is_right g cycles) (ltb room (length (file_of g (table_of cycles)))) (length (file_of g (table_of cycles))) h) ∙ (decided_is g cycles).1 w),
    λ n. rw (decided_not g cycles n),
  )
    where
      go : (a b : Bool) (n : ℕ) → (cond a (cond b (write_refused 10) (file_written n)) (write_refused 4)).number ≡ 4 → a ≡ false
      go true true n h = absurd (omega arith)
      go true false n h = absurd (omega arith)
      go false b n h = refl

  pub ten_exactly : ((written_of g cycles room).number ≡ 10) ↔ (Right g cycles × (room < length (file_of g (table_of cycles))))
  unfolding written_of
  ten_exactly = (
    λ h. let w = go (is_right g cycles) (ltb room (length (file_of g (table_of cycles)))) (length (file_of g (table_of cycles))) h in
        ((decided_is g cycles).0 w.0, ltb-true room (length (file_of g (table_of cycles))) w.1),
    λ w. rw ((decided_is g cycles).1 w.0, lt-ltb room (length (file_of g (table_of cycles))) w.1),
  )
    where
      go : (a b : Bool) (n : ℕ) → (cond a (cond b (write_refused 10) (file_written n)) (write_refused 4)).number ≡ 10 → (a ≡ true) × (b ≡ true)
      go true true n h = (refl, refl)
      go true false n h = absurd (omega arith)
      go false b n h = absurd (omega arith)
