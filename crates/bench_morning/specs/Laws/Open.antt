-- Laws: the bytes of the rig's text, piece by piece.
use Rattle.std.specs.Prelude.{ℕ, zero, suc, ◌+◌, ◌-◌, ◌≤◌, ◌<◌, ◌≡◌, refl, Bool, true, false, length, drop}
use Rattle.std.proofs.Math.Path.{sym, ap}
use Rattle.std.proofs.Common.{◌∙◌, subst, arith, length-drop, take-append-drop}
use mathlib.Core.List.{List, [], ◌∷◌, ◌++◌, append-nil}
use Rattle.std.proofs.Math.ListN.{take}
use Rattle.std.proofs.Math.Seq.{take-length}
use Rattle.laws.specs.Cases.{if_yes, if_no}
use Rattle.rig_meaning.proofs.Reading.{read_of}
use Rattle.put_text.specs.Laws.Wrote.{wrote_as, wrote_none}
use Rattle.bench_input.specs.Opening.{full, Opening, still, whole, with_byte, waits, opens, onward, scanned, Scans}
use Rattle.bench_input.specs.declared.Kept.{Kept}
use Rattle.bench_morning.specs.Morning.{start_text}
use Rattle.bench_morning.specs.Desk.{Desk, opening, desk_started, opened, opened_text, next, says, desk_after, said}
use Rattle.bench_morning.specs.Laws.Desk.{said_append}
use Rattle.bench_morning.specs.Laws.Whole.{opening_waits, opening_opens}
use Rattle.bench_morning.specs.Stream.{desk_of, desk_by, HoldsBy, HoldsIn}
use Rattle.bench_morning.specs.Laws.Steps.{Begins, Opens}
use Rattle.bench_morning.specs.declared.Stream.{Stream}
use Rattle.bench_morning.specs.declared.Fed.{Fed}
use Rattle.bench_morning.specs.declared.Phase.{Phase}
use Rattle.bench_morning.specs.declared.Phase.TheVariants as P
use Rattle.bench_morning.specs.declared.Started as Line

-- ---- a stream behind the rig's text takes no byte here

pub opens_none : (s : Stream) (keep piece out : List ℕ) (r : Fed) → (s.phase ≡ P.Opening → ⊥) → HoldsIn s (length keep)
    → r ≡ record { stream = s; took = 0; wrote = 0 } → Opens s keep piece out r keep out
unfolding desk_after said
opens_none s keep piece out r n h e =
    subst (λ (x : Fed). Opens s keep piece out x keep out) (sym e)
    (record {
      desk = refl;
      wrote = wrote_none out 0;
      took = omega arith;
      quiet = λ k l. let z : ⊥ = omega arith in absurd z;
      stays = λ q. absurd (n q);
      holds = h;
      size = refl;
    })

-- ---- what stands before a silent part is silent

first_none : (a b : List ℕ) → a ++ b ≡ [] → a ≡ []
first_none [] b e = refl
first_none (x ∷ a) b e = absurd (let z : ◌≡◌ {A = ℕ} 0 1 = cc in omega (arith, z))

silent_before : (d : Desk) (piece : List ℕ) → said d piece ≡ [] → (k : ℕ) → said d (take k piece) ≡ []
silent_before d piece e k =
    first_none (said d (take k piece)) (said (desk_after d (take k piece)) (drop k piece))
    (sym (said_append d (take k piece) (drop k piece)) ∙ ap (said d) (take-append-drop k piece) ∙ e)

-- ---- the bytes up to the rig's end

-- what stands behind the rig's end is less than the piece
shorter : (bytes text : List ℕ) (from : ℕ) (rig rest : List ℕ) → scanned text from bytes ≡ opens rig rest → length rest < length bytes
unfolding scanned
shorter [] text from rig rest e = absurd (let z : ◌≡◌ {A = ℕ} 0 1 = cc in omega (arith, z))
shorter (b ∷ bytes) text from rig rest e = go (λ u g q. shorter bytes u g rig rest q) (with_byte text from b) e
  where
    go : ((u : List ℕ) (g : ℕ) → scanned u g bytes ≡ opens rig rest → length rest < length bytes)
        → (o : Opening) → onward o (λ u g. scanned u g bytes) bytes ≡ opens rig rest → length rest < suc (length bytes)
    go ih (still u g) e = let h = ih u g e in omega arith
    go ih (whole u) e = let y : bytes ≡ rest = cc in omega (arith, ap length y)

no_more : (m : ℕ) (l : List ℕ) → m ≤ length l → l ≡ drop m l → take m l ≡ []
no_more zero l h e = refl
no_more (suc m) l h e = absurd (let k = length-drop (suc m) l in let z : ⊥ = omega (arith, ap length e, k) in z)

-- the bytes that were taken, alone
taken_alone : (bytes : List ℕ) (n : ℕ) (text : List ℕ) (from : ℕ) (rig : List ℕ) → scanned text from bytes ≡ opens rig (drop n bytes) → n ≤ length bytes
    → scanned text from (take n bytes) ≡ opens rig []
unfolding scanned
taken_alone [] n text from rig e h = absurd (let k = shorter [] text from rig (drop n []) e in let z : ⊥ = omega arith in z)
taken_alone (b ∷ bytes) zero text from rig e h = absurd (let k = shorter (b ∷ bytes) text from rig (b ∷ bytes) e in let z : ⊥ = omega arith in z)
taken_alone (b ∷ bytes) (suc m) text from rig e h = go (λ u g q. taken_alone bytes m u g rig q (omega arith)) (with_byte text from b) e
  where
    go : ((u : List ℕ) (g : ℕ) → scanned u g bytes ≡ opens rig (drop m bytes) → scanned u g (take m bytes) ≡ opens rig [])
        → (o : Opening) → onward o (λ u g. scanned u g bytes) bytes ≡ opens rig (drop m bytes)
        → onward o (λ u g. scanned u g (take m bytes)) (take m bytes) ≡ opens rig []
    go ih (still u g) e = ih u g e
    go ih (whole u) e =
        let x : u ≡ rig = cc in
        let y : bytes ≡ drop m bytes = cc in
        let z : take m bytes ≡ [] = no_more m bytes (omega arith) y in
        λ i. opens (x i) (z i)

-- before the last of them nothing is said
quiet_before : (panel : Bool) (bytes : List ℕ) (n : ℕ) (text : List ℕ) (from : ℕ) (rig : List ℕ) → scanned text from bytes ≡ opens rig (drop n bytes) → n ≤ length bytes
    → (k : ℕ) → k < n → said (opening panel text from) (take k bytes) ≡ []
unfolding scanned said says next
quiet_before panel bytes n text from rig e h zero l = refl
quiet_before panel [] n text from rig e h (suc k) l = absurd (let z : ⊥ = omega arith in z)
quiet_before panel (b ∷ bytes) zero text from rig e h (suc k) l = absurd (let z : ⊥ = omega arith in z)
quiet_before panel (b ∷ bytes) (suc m) text from rig e h (suc k) l =
    go (λ u g q. quiet_before panel bytes m u g rig q (omega arith) k (omega arith)) (with_byte text from b) e
  where
    go : ((u : List ℕ) (g : ℕ) → scanned u g bytes ≡ opens rig (drop m bytes) → said (opening panel u g) (take k bytes) ≡ [])
        → (o : Opening) → onward o (λ u g. scanned u g bytes) bytes ≡ opens rig (drop m bytes)
        → opened_text o ++ said (opened panel o) (take k bytes) ≡ []
    go ih (still u g) e = ih u g e
    go ih (whole u) e =
        let y : bytes ≡ drop m bytes = cc in
        let d = length-drop m bytes in
        absurd (let z : ⊥ = omega (arith, ap length y, d) in z)

-- ---- a piece of the rig's text

module _ (s : Stream) (keep piece out : List ℕ) (p : s.phase ≡ P.Opening) (c : Kept) (kept : List ℕ) (w : Scans keep s.at s.from piece c kept) where
  here : desk_of s keep ≡ opening s.panel (take s.at keep) s.from
  here = ap (λ (x : Phase). desk_by x s keep) p

  -- the text goes on
  module _ (f : c.ready ≡ false) (full_kept : full ≤ length keep) where
    goes_on : scanned (take s.at keep) s.from piece ≡ waits (take c.at kept) c.from
    goes_on = w.is ∙ if_no (opens (take c.from kept) (drop c.took piece)) f refl

    all_of_it : take c.took piece ≡ piece
    all_of_it = ap (λ (n : ℕ). take n piece) (w.goes f).0 ∙ take-length piece

    pub opens_on : (t : Stream) → t ≡ record { panel = s.panel; phase = s.phase; at = c.at; from = c.from; line = s.line; held = s.held; exec = s.exec }
        → Opens s keep piece out (record { stream = t; took = c.took; wrote = 0 }) kept out
    opens_on t e =
        let o = opening_waits s.panel piece (take s.at keep) s.from (take c.at kept) c.from goes_on in
        let silent : said (desk_of s keep) piece ≡ [] = ap (λ (d : Desk). said d piece) here ∙ o.0 in
        let q : t.phase ≡ P.Opening = ap (λ (x : Stream). x.phase) e ∙ p in
        record {
          desk =
              ap (λ (x : Stream). desk_of x kept) e ∙ ap (λ (x : Phase). desk_by x (record { panel = s.panel; phase = s.phase; at = c.at; from = c.from; line = s.line; held = s.held; exec = s.exec }) kept) p
              ∙ sym o.1 ∙ ap (λ (d : Desk). desk_after d piece) (sym here) ∙ ap (desk_after (desk_of s keep)) (sym all_of_it);
          wrote =
              wrote_as out out [] (said (desk_of s keep) (take c.took piece)) 0 0
              (sym (ap (said (desk_of s keep)) all_of_it ∙ silent)) (wrote_none out 0);
          took = w.took;
          quiet = λ k l. silent_before (desk_of s keep) piece silent k;
          stays = λ z. (w.goes f).0;
          holds =
              subst (λ (x : Phase). HoldsBy x t (length kept)) (sym q)
              (subst (λ (x : Stream). HoldsBy P.Opening x (length kept)) (sym e)
              (let z = w.wrote.size in omega arith, (w.goes f).1, w.inside.0));
          size = w.wrote.size;
        }

  -- it is whole
  module _ (f : c.ready ≡ true) where
    ends_here : scanned (take s.at keep) s.from piece ≡ opens (take c.from kept) (drop c.took piece)
    ends_here = w.is ∙ if_yes (waits (take c.at kept) c.from) f refl

    pub opens_whole : (o : Line.Started) (written : List ℕ) → Begins s.panel (take c.from kept) out o written
        → Opens s keep piece out (record { stream = o.stream; took = c.took; wrote = o.wrote }) kept written
    unfolding desk_after said
    opens_whole o written b =
        let rig = take c.from kept in
        let t = take s.at keep in
        let a = taken_alone piece c.took t s.from rig ends_here w.took in
        let y = opening_opens s.panel (take c.took piece) t s.from rig [] a in
        let text : said (desk_of s keep) (take c.took piece) ≡ start_text (read_of rig) =
        ap (λ (d : Desk). said d (take c.took piece)) here ∙ y.0 ∙ append-nil (start_text (read_of rig)) in
        let place : desk_after (desk_of s keep) (take c.took piece) ≡ desk_started s.panel (read_of rig) = ap (λ (d : Desk). desk_after d (take c.took piece)) here ∙ y.1 in
        record {
          desk = b.desk kept ∙ sym place;
          wrote = wrote_as out written (start_text (read_of rig)) (said (desk_of s keep) (take c.took piece)) 0 o.wrote (sym text) b.wrote;
          took = w.took;
          quiet = λ k l. ap (λ (d : Desk). said d (take k piece)) here ∙ quiet_before s.panel piece c.took t s.from rig ends_here w.took k l;
          stays = λ z. absurd (b.later z);
          holds = b.holds (length kept);
          size = w.wrote.size;
        }
