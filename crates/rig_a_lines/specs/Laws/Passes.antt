-- The tests of A lines table by table, as the loops that do not leave early compute them, and the fault of a line.
use Rattle.std.specs.Prelude.{◌≡◌, refl, Bool, not, cond, ◌&&◌, ◌||◌, List, ℕ, ◌+◌, ◌≤◌, length, take, eqb, ltb}
use Rattle.std.proofs.Common.{sym, ◌∙◌, ap, subst, arith, eqb-true, ltb-true, ltb-false, lt-ltb, le-ltb}
use Rattle.std.specs.Int.Bits.{bit_or, bit_and, bit_xor}
use Rattle.std.proofs.Math.Dec.{leb-zero}
use Rattle.std.proofs.lemmas.Bool.{eqb-false}
use Rattle.std.proofs.lemmas.List.{get_or-take, length-take-le}
use Rattle.laws.specs.Cases.{by, or_no}
use Rattle.laws.specs.All.{all, Passed}
use Rattle.laws.specs.Laws.All.{all_same, all_three}
use Rattle.laws.specs.Bits.{bit}
use Rattle.laws.specs.Faults.{bit_or_lem, bit_and_lem, bit_not, or_next, bit_passes}
use Rattle.rig_tables.specs.Tests.{at, within, rises_test, line_rises, line_one, lines_b}

abbrev pub between_one : ℕ → ℕ → List ℕ → ℕ → Bool
between_one low high l k = within low (at l k) high

pub lines_each : (n tasks flags : ℕ) (line_task line_pos line_flag : List ℕ)
    → lines_b n tasks flags line_task line_pos line_flag
    ≡ (all n (between_one 1 tasks line_task) && (all n (between_one 0 15 line_pos) && all n (between_one 1 flags line_flag)))
unfolding lines_b
lines_each n tasks flags line_task line_pos line_flag =
    all_same n (line_one tasks flags line_task line_pos line_flag) (λ k. between_one 1 tasks line_task k && (between_one 0 15 line_pos k && between_one 1 flags line_flag k))
    (λ k h. rw (leb-zero (at line_pos k)))
    ∙ all_three n (between_one 1 tasks line_task) (between_one 0 15 line_pos) (between_one 1 flags line_flag)

-- the first n entries, taken out of their table
pub between_first : (low high n : ℕ) (l : List ℕ) → n ≤ length l → all (length (take n l)) (between_one low high (take n l)) ≡ all n (between_one low high l)
between_first low high n l h =
    ap (λ (m : ℕ). all m (between_one low high (take n l))) (length-take-le n l h)
    ∙ all_same n (between_one low high (take n l)) (between_one low high l) (λ k g. ap (λ (x : ℕ). within low x high) (get_or-take n l k 0 g))

-- ---- lines one after the other

-- a number that does not stand behind another, or is the same while what comes after fails: the later number decides, then the rest
later : (a b : ℕ) (rest : Bool) → (ltb b a || (eqb a b && not rest)) ≡ not (cond (eqb a b) rest (ltb a b))
later a b rest =
    by (eqb a b) (λ e. rw (e, le-ltb b a (omega (arith, eqb-true a b e))))
    (λ e.
    let n = eqb-false a b e in
    rw e
    (or_no (ltb b a)
    ∙ by (ltb a b) (λ l. rw (l, le-ltb b a (omega (arith, ltb-true a b l)))) (λ l. rw (l, lt-ltb b a (omega (arith, ltb-false a b l, n))))))

-- the fault of a line, as the code puts it together
pub fault_is : (t p f u q h : ℕ) {task same_task position same_position flag : ℕ} → task ≡ bit (ltb u t) → same_task ≡ bit (eqb t u)
    → position ≡ bit (ltb q p) → same_position ≡ bit (eqb p q) → flag ≡ bit (ltb f h)
    → bit_or task (bit_and same_task (bit_or position (bit_and same_position (bit_xor 1 flag)))) ≡ bit (not (rises_test t p f u q h))
fault_is t p f u q h a b c d e =
    rw (a, b, c, d, e, bit_not (ltb f h), bit_and_lem (eqb p q) (not (ltb f h)), bit_or_lem (ltb q p) (eqb p q && not (ltb f h)))
    (rw (later p q (ltb f h))
    (rw (
      bit_and_lem (eqb t u) (not (cond (eqb p q) (ltb f h) (ltb p q))),
      bit_or_lem (ltb u t) (eqb t u && not (cond (eqb p q) (ltb f h) (ltb p q))),
    )
    (ap bit (later t u (cond (eqb p q) (ltb f h) (ltb p q))))))

-- what the loop keeps from a line j to the line k behind it
pub faults_next : (line_task line_pos line_flag : List ℕ) (faults fault j k m : ℕ) → j + 1 ≡ k → m ≡ k
    → Passed faults j (line_rises line_task line_pos line_flag)
    → fault ≡ bit (not (rises_test (at line_task j) (at line_pos j) (at line_flag j) (at line_task k) (at line_pos k) (at line_flag k)))
    → Passed (bit_or faults fault) m (line_rises line_task line_pos line_flag)
faults_next line_task line_pos line_flag faults fault j k m q r g e =
    let test = line_rises line_task line_pos line_flag in
    let s : fault ≡ bit (not (test j)) =
    e ∙ ap (λ (x : ℕ). bit (not (rises_test (at line_task j) (at line_pos j) (at line_flag j) (at line_task x) (at line_pos x) (at line_flag x)))) (sym q) in
    subst (λ (x : ℕ). Passed (bit_or faults fault) x test) (q ∙ sym r)
    (or_next faults j test fault g (bit_passes (test j) ∙ ap (λ (x : ℕ). eqb x 0) (sym s)) refl)
