-- Laws: a scan of a piece, byte after byte.
use Prim.Native.Nat.{ℕ, zero, suc, ◌+◌, ◌-◌, ◌≤◌, ◌<◌}
use Rattle.std.specs.Prelude.{◌≡◌, true, false, eqb, set}
use Rattle.std.proofs.Math.Path.{refl, sym, ap}
use Rattle.std.proofs.Common.{◌∙◌, true≢false, add-one, drop-cons, take-add, drop_at, length-take-le, eq-eqb, ne_eqb}
use mathlib.Core.List.{List, [], ◌∷◌, ◌++◌}
use native.Mathlib.Omega.{arith}
use Rattle.std.proofs.Math.ListN.{length, get_or, take, drop}
use Rattle.std.proofs.Math.Seq.{take-suc, take-suc-set, take-take}
use Rattle.std.proofs.lemmas.List.{take-append-le}
use Rattle.laws.specs.Cases.{by, if_yes, if_no}
use Rattle.bench_script.specs.Letters.{lf}
use Rattle.put_text.specs.Wrote.{Wrote}
use Rattle.put_text.specs.Laws.Wrote.{wrote_then, wrote_as, wrote_none, byte_wrote}
use Rattle.bench_input.specs.Opening.{full, Opening, whole, run_ends_at, line_start, with_byte, opens, onward, scanned, Scans}

-- the bytes from a place up to another, in either order of cutting
pub drop_take : (a e : ℕ) (l : List ℕ) → a ≤ e → e ≤ length l → drop a (take e l) ≡ take (e - a) (drop a l)
drop_take a e l h k =
    let q : e ≡ a + (e - a) = omega arith in
    ap (λ (n : ℕ). drop a (take n l)) q ∙ ap (drop a) (take-add a (e - a) l)
    ∙ drop_at (take a l) (take (e - a) (drop a l)) a (length-take-le a l (omega arith))

-- ---- one byte, by the tests

pub byte_run : (t : List ℕ) (f b : ℕ) (bs : List ℕ) → run_ends_at t f b ≡ true → scanned t f (b ∷ bs) ≡ opens (take f t) bs
unfolding scanned with_byte
byte_run t f b bs e = ap (λ (o : Opening). onward o (λ u g. scanned u g bs) bs) (if_yes _ e refl)

pub byte_full : (t : List ℕ) (f b : ℕ) (bs : List ℕ) → run_ends_at t f b ≡ false → eqb (length t + 1) full ≡ true
    → scanned t f (b ∷ bs) ≡ opens (t ++ (b ∷ [])) bs
unfolding scanned with_byte
byte_full t f b bs e k = ap (λ (o : Opening). onward o (λ u g. scanned u g bs) bs) (if_no (whole (take f t)) e (if_yes _ k refl))

pub byte_next : (t : List ℕ) (f b : ℕ) (bs : List ℕ) → run_ends_at t f b ≡ false → eqb (length t + 1) full ≡ false
    → scanned t f (b ∷ bs) ≡ scanned (t ++ (b ∷ [])) (line_start f (length t + 1) b) bs
unfolding scanned with_byte
byte_next t f b bs e k =
    ap (λ (o : Opening). onward o (λ u g. scanned u g bs) bs)
    (if_no (whole (take f t)) e (if_no (whole (t ++ (b ∷ []))) k refl))

-- ---- the loop

pub record Scanning (keep : List ℕ) (start line : ℕ) (piece now : List ℕ) (at from i : ℕ) : Type 0 where
  pub wrote : Wrote keep start (take i piece) now at
  pub on : scanned (take at now) from (drop i piece) ≡ scanned (take start keep) line piece
  pub inside : i ≤ length piece
  pub low : at < full
  pub behind : from ≤ at
  pub room : full ≤ length keep

module _ (keep : List ℕ) (start line : ℕ) (piece : List ℕ) where
  pub scanning_start : start < full → full ≤ length keep → line ≤ start → Scanning keep start line piece keep start line 0
  scanning_start h k l =
      record { wrote = wrote_none keep start; on = refl; inside = omega arith; low = h; behind = l; room = k }

  module _ (now : List ℕ) (at from i : ℕ) (w : Scanning keep start line piece now at from i) where
    -- the bytes so far
    pub so_far : length (take at now) ≡ at
    so_far =
        let s = w.wrote.size in
        let r = w.room in
        let a = w.low in
        length-take-le at now (omega arith)

    pub fits : at < length now
    fits = let s = w.wrote.size in let r = w.room in let a = w.low in omega arith

    -- nothing is left of the piece
    pub scanning_end : length piece ≤ i → Scans keep start line piece (record { at = at; from = from; took = i; ready = false }) now
    unfolding scanned
    scanning_end h =
        let q : i ≡ length piece = let k = w.inside in omega arith in
        let d : drop i piece ≡ [] = drop_all i piece h in
        record {
          wrote = w.wrote;
          is = sym w.on ∙ ap (scanned (take at now) from) d;
          took = w.inside;
          inside = (w.behind, let a = w.low in omega arith);
          goes = λ e. (q, w.low);
        }
      where
        drop_all : (n : ℕ) (l : List ℕ) → length l ≤ n → drop n l ≡ []
        drop_all zero [] h = refl
        drop_all (suc n) [] h = refl
        drop_all zero (x ∷ xs) h = absurd (let z : ⊥ = omega arith in z)
        drop_all (suc n) (x ∷ xs) h = drop_all n xs (omega arith)

    module _ (h : i < length piece) where
      byte : ℕ
      byte = get_or piece i 0

      then : List ℕ
      then = set now at byte

      text : take (at + 1) then ≡ take at now ++ (byte ∷ [])
      unfolding then byte
      text = ap (λ (n : ℕ). take n (set now at (get_or piece i 0))) (add-one at) ∙ take-suc-set now at (get_or piece i 0) fits

      more : Wrote keep start (take (i + 1) piece) then (at + 1)
      unfolding then byte
      more =
          let b = get_or piece i 0 in
          let e : take i piece ++ (b ∷ []) ≡ take (i + 1) piece = sym (ap (λ (n : ℕ). take n piece) (add-one i) ∙ take-suc piece i 0 h) in
          let p = w.wrote.place in
          let a = w.low in
          let r = w.room in
          wrote_as keep (set now at b) (take i piece ++ (b ∷ [])) (take (i + 1) piece) start (at + 1) e
          (wrote_then keep now (set now at b) (take i piece) (b ∷ []) start at (at + 1) (omega arith) w.wrote (byte_wrote now at b fits))

      here : scanned (take at now) from (byte ∷ drop (i + 1) piece) ≡ scanned (take start keep) line piece
      unfolding byte
      here =
          ap (λ (l : List ℕ). scanned (take at now) from l)
          (sym (drop-cons piece i 0 h ∙ ap (λ (n : ℕ). get_or piece i 0 ∷ drop n piece) (sym (add-one i)))) ∙ w.on

      -- the line RUN has come
      pub scanning_run : run_ends_at (take at now) from (get_or piece i 0) ≡ true
          → Scans keep start line piece (record { at = at + 1; from = from; took = i + 1; ready = true }) (set now at (get_or piece i 0))
      unfolding then byte
      scanning_run e =
          let l = w.behind in
          let y = so_far in
          let t : take from (take at now) ≡ take from (set now at (get_or piece i 0)) =
          sym (take-append-le from (take at now) (get_or piece i 0 ∷ []) (omega arith)) ∙ ap (take from) (sym text)
          ∙ take-take from (at + 1) (set now at (get_or piece i 0)) (omega arith) in
          record {
            wrote = more;
            is = sym here ∙ byte_run (take at now) from (get_or piece i 0) (drop (i + 1) piece) e ∙ ap (λ (l : List ℕ). opens l (drop (i + 1) piece)) t;
            took = omega arith;
            inside = (omega arith, let a = w.low in omega arith);
            goes = λ f. absurd (true≢false f);
          }

      -- it has not, and as many bytes have come as may
      pub scanning_full : run_ends_at (take at now) from (get_or piece i 0) ≡ false → at + 1 ≡ full
          → Scans keep start line piece (record { at = at + 1; from = at + 1; took = i + 1; ready = true }) (set now at (get_or piece i 0))
      unfolding then byte
      scanning_full e q =
          record {
            wrote = more;
            is =
                sym here
                ∙ byte_full (take at now) from (get_or piece i 0) (drop (i + 1) piece) e (eq-eqb (length (take at now) + 1) full (ap (λ (n : ℕ). n + 1) so_far ∙ q))
                ∙ ap (λ (l : List ℕ). opens l (drop (i + 1) piece)) (sym text);
            took = omega arith;
            inside = (omega arith, omega arith);
            goes = λ f. absurd (true≢false f);
          }

      -- it goes on
      pub scanning_next : (f : ℕ) → run_ends_at (take at now) from (get_or piece i 0) ≡ false → (at + 1 ≡ full → ⊥)
          → f ≡ line_start from (at + 1) (get_or piece i 0)
          → Scanning keep start line piece (set now at (get_or piece i 0)) (at + 1) f (i + 1)
      unfolding then byte line_start
      scanning_next f e n q =
          record {
            wrote = more;
            on =
                ap (λ (l : List ℕ). scanned l f (drop (i + 1) piece)) text
                ∙ ap (λ (m : ℕ). scanned (take at now ++ (get_or piece i 0 ∷ [])) m (drop (i + 1) piece))
                (q ∙ ap (λ (m : ℕ). line_start from (m + 1) (get_or piece i 0)) (sym so_far))
                ∙ sym (byte_next (take at now) from (get_or piece i 0) (drop (i + 1) piece) e (ne_eqb (length (take at now) + 1) full (λ p. n (ap (λ (m : ℕ). m + 1) (sym so_far) ∙ p))))
                ∙ here;
            inside = omega arith;
            low = let a = w.low in omega arith;
            behind = by (eqb (get_or piece i 0) lf) (λ t. let z : f ≡ at + 1 = q ∙ if_yes _ t refl in omega arith) (λ t. let z : f ≡ from = q ∙ if_no (at + 1) t refl in let l = w.behind in omega arith);
            room = w.room;
          }
