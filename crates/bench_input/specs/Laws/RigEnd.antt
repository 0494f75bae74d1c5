-- THE SCAN FINDS WHERE THE RIG ENDS: what it holds for the rig's text is what stands before the first line RUN of the whole
-- input, however that goes on; or it is longer than a rig may be, and so is what stands before that line.
use Rattle.std.specs.Prelude.{ℕ, ◌+◌, ◌-◌, ◌≤◌, ◌<◌, ◌≡◌, ◌⊎◌, true, false, cond, eqb, take, drop}
use Rattle.std.proofs.Math.Path.{refl, sym, ap, subst}
use Rattle.std.proofs.Common.{◌∙◌, inl, inr, ⊎_elim, length-drop, length-take}
use mathlib.Core.List.{List, [], ◌∷◌, ◌++◌, append_assoc, append-nil}
use native.Mathlib.Omega.{arith}
use Rattle.std.proofs.Math.ListN.{length, length-append}
use Rattle.std.proofs.lemmas.List.{take-append-le, drop-append-le}
use Rattle.std.proofs.Math.Seq.{drop-append-add, drop-length}
use borrow.Author.Tests.{eqb-true, eqb-false, eq-eqb, ne_eqb}
use Rattle.laws.specs.Cases.{by, if_yes, if_no, and_true, and_go}
use Rattle.text.specs.Split.{on_head, split}
use Rattle.text.specs.Laws.Split.{Free, split_cons, split_piece, split_last}
use Rattle.text.specs.Laws.Parts.{free_snoc}
use Rattle.bench_script.specs.Letters.{lf}
use Rattle.bench_script.specs.Input.{is_run, before_run, rig_end}
use Rattle.bench_script.specs.Laws.Input.{end_le}
use Rattle.bench_input.specs.Opening.{run_line, rig_limit, full, run_ends_at, line_start, waits, opens, scanned}
use Rattle.bench_input.specs.Laws.Scanning.{byte_run, byte_full, byte_next}

-- ---- where the rig of a text ends, by its first line

-- the first line is whole
line_end : (line r : List ℕ) → Free lf line → rig_end (line ++ (lf ∷ r)) ≡ cond (is_run line) 0 (length line + 1 + rig_end r)
unfolding rig_end before_run
line_end line r h =
    let w = split_cons lf r in
    ap before_run (split_piece lf line r h ∙ ap (λ (ps : List (List ℕ)). line ∷ ps) w.2)
    ∙ ap (λ (ps : List (List ℕ)). cond (is_run line) 0 (length line + 1 + before_run ps)) (sym w.2)

run_length : (line : List ℕ) → is_run line ≡ true → length line ≡ 3
unfolding is_run
run_length line e = eqb-true (length line) 3 (and_true (eqb (length line) 3) _ e).0

-- the bytes before a text's first LF stand in front of its first piece
front : (l r : List ℕ) → Free lf l → (p : List ℕ) × (ps : List (List ℕ)) × (split lf (l ++ r) ≡ (l ++ p) ∷ ps)
unfolding split on_head
front [] r h = split_cons lf r
front (x ∷ l) r h = let w = front l r h.1 in (w.0, w.1, rw (ne_eqb x lf h.0, w.2))

-- so the rig goes on for them, unless they begin the line RUN
before_front : (l p : List ℕ) (ps : List (List ℕ)) → (length l ≤ 3) ⊎ (length l ≤ before_run ((l ++ p) ∷ ps))
unfolding before_run
before_front l p [] = inr (rw (length-append l p) (omega arith))
before_front l p (q ∷ ps) =
    let a = length-append l p in
    by (is_run (l ++ p))
    (λ e. inl (omega (arith, a, run_length (l ++ p) e)))
    (λ e. inr (rw e (omega (arith, a))))

front_end : (l r : List ℕ) → Free lf l → (length l ≤ 3) ⊎ (length l ≤ rig_end (l ++ r))
unfolding rig_end
front_end l r h =
    let w = front l r h in
    subst (λ (ps : List (List ℕ)). (length l ≤ 3) ⊎ (length l ≤ before_run ps)) (sym w.2) (before_front l w.0 w.1)

-- a text without LF is all rig
free_all : (l : List ℕ) → Free lf l → rig_end l ≡ length l
unfolding rig_end before_run
free_all l h = ap before_run (split_last lf l h)

-- ---- a text that goes on

-- no line before `from` is RUN, and from there on no line is ended
pub record Goes (text : List ℕ) (from : ℕ) : Type 0 where
  pub behind : from ≤ length text
  pub free : Free lf (drop from text)
  pub low : length text < full
  pub end : (rest : List ℕ) → rig_end (text ++ rest) ≡ from + rig_end (drop from text ++ rest)

pub goes_none : Goes [] 0
goes_none = record { behind = omega arith; free = tt; low = omega arith; end = λ rest. sym (omega arith) }

-- the rig's whole text and the script behind it, of an input; or both are too long
abbrev pub Parts : List ℕ → List ℕ → List ℕ → Type 0
Parts input rig script =
    ((rig ≡ take (rig_end input) input) × (script ≡ drop (rig_end input + run_line) input))
    ⊎ ((rig_limit < length rig) × (rig_limit < length (take (rig_end input) input)))

-- a text that goes on to its end is all rig
pub goes_all : (text : List ℕ) (from : ℕ) → Goes text from → rig_end text ≡ length text
goes_all text from g =
    let a : rig_end text ≡ from + rig_end (drop from text) =
    ap rig_end (sym (append-nil text)) ∙ g.end [] ∙ ap (λ (l : List ℕ). from + rig_end l) (append-nil (drop from text)) in
    let b = free_all (drop from text) g.free in
    let c = length-drop from text in
    let d = g.behind in
    omega arith

module _ (text : List ℕ) (from b : ℕ) (g : Goes text from) where
  -- the byte ends a line
  module _ (e : b ≡ lf) where
    line_by : (rest : List ℕ) → rig_end (text ++ (b ∷ rest)) ≡ from + cond (is_run (drop from text)) 0 (length (drop from text) + 1 + rig_end rest)
    line_by rest =
        g.end (b ∷ rest) ∙ ap (λ (x : ℕ). from + rig_end (drop from text ++ (x ∷ rest))) e
        ∙ ap (λ (n : ℕ). from + n) (line_end (drop from text) rest g.free)

    line_run : is_run (drop from text) ≡ true → (rest : List ℕ) → rig_end (text ++ (b ∷ rest)) ≡ from
    line_run t rest =
        let a = line_by rest in
        let k : cond (is_run (drop from text)) 0 (length (drop from text) + 1 + rig_end rest) ≡ 0 = if_yes _ t refl in
        omega arith

    line_other : is_run (drop from text) ≡ false → (rest : List ℕ) → rig_end (text ++ (b ∷ rest)) ≡ length text + 1 + rig_end rest
    line_other t rest =
        let a = line_by rest in
        let k : cond (is_run (drop from text)) 0 (length (drop from text) + 1 + rig_end rest) ≡ length (drop from text) + 1 + rig_end rest = if_no 0 t refl in
        let c = length-drop from text in
        let d = g.behind in
        omega arith

  -- the byte ends no line
  module _ (n : b ≡ lf → ⊥) where
    longer : drop from (text ++ (b ∷ [])) ≡ drop from text ++ (b ∷ [])
    longer = drop-append-le from text (b ∷ []) g.behind

    free_longer : Free lf (drop from text ++ (b ∷ []))
    free_longer = free_snoc lf (drop from text) b g.free n

    line_on : (rest : List ℕ) → rig_end (text ++ (b ∷ rest)) ≡ from + rig_end ((drop from text ++ (b ∷ [])) ++ rest)
    line_on rest = g.end (b ∷ rest) ∙ ap (λ (l : List ℕ). from + rig_end l) (sym (append_assoc (drop from text) (b ∷ []) rest))

  not_run : run_ends_at text from b ≡ false → b ≡ lf → is_run (drop from text) ≡ false
  unfolding run_ends_at
  not_run e q = sym (and_go (eq-eqb b lf q) refl) ∙ e

  is_run_lem : run_ends_at text from b ≡ true → (b ≡ lf) × (is_run (drop from text) ≡ true)
  unfolding run_ends_at
  is_run_lem e = let w = and_true (eqb b lf) (is_run (drop from text)) e in (eqb-true b lf w.0, w.1)

  -- the text goes on
  pub goes_next : run_ends_at text from b ≡ false → (length text + 1 ≡ full → ⊥) → Goes (text ++ (b ∷ [])) (line_start from (length text + 1) b)
  unfolding line_start
  goes_next e n =
      let l : length (text ++ (b ∷ [])) ≡ length text + 1 = length-append text (b ∷ []) in
      let low : length (text ++ (b ∷ [])) < full = let k = g.low in omega arith in
      by (eqb b lf)
      (λ t. let q = eqb-true b lf t in
      let f : line_start from (length text + 1) b ≡ length (text ++ (b ∷ [])) = if_yes from t (sym l) in
      subst (Goes (text ++ (b ∷ []))) (sym f)
      (record {
        behind = omega arith;
        free = subst (Free lf) (sym (drop-length (text ++ (b ∷ [])))) tt;
        low = low;
        end =
            λ rest.
            ap rig_end (append_assoc text (b ∷ []) rest) ∙ line_other q (not_run e q) rest
            ∙ ap (λ (m : ℕ). m + rig_end rest) (sym l)
            ∙ ap (λ (r : List ℕ). length (text ++ (b ∷ [])) + rig_end (r ++ rest)) (sym (drop-length (text ++ (b ∷ []))));
      }))
      (λ t. let q = eqb-false b lf t in
      let f : line_start from (length text + 1) b ≡ from = if_no (length text + 1) t refl in
      subst (Goes (text ++ (b ∷ []))) (sym f)
      (record {
        behind = let k = g.behind in omega arith;
        free = subst (Free lf) (sym (longer q)) (free_longer q);
        low = low;
        end =
            λ rest.
            ap rig_end (append_assoc text (b ∷ []) rest) ∙ line_on q rest
            ∙ ap (λ (r : List ℕ). from + rig_end (r ++ rest)) (sym (longer q));
      }))

  -- as many bytes have come as may, and the line RUN was not among them
  past : run_ends_at text from b ≡ false → length text + 1 ≡ full → (rest : List ℕ) → rig_limit < rig_end (text ++ (b ∷ rest))
  past e k rest =
      by (eqb b lf)
      (λ t. let q = eqb-true b lf t in let a = line_other q (not_run e q) rest in omega arith)
      (λ t. let q = eqb-false b lf t in
      let a = line_on q rest in
      let c = length-drop from text in
      let d = g.behind in
      let m = length-append (drop from text) (b ∷ []) in
      ⊎_elim (λ h. omega (arith, h)) (λ h. omega (arith, h)) (front_end (drop from text ++ (b ∷ [])) rest (free_longer q)))

  pub full_parts : run_ends_at text from b ≡ false → length text + 1 ≡ full → (rest : List ℕ) → Parts (text ++ (b ∷ rest)) (text ++ (b ∷ [])) rest
  full_parts e k rest =
      let h = past e k rest in
      let i = text ++ (b ∷ rest) in
      inr (
        rw (length-append text (b ∷ [])) (omega arith),
        rw (length-take (rig_end i) i) (let z = end_le i in omega arith),
      )

  pub run_parts : run_ends_at text from b ≡ true → (rest : List ℕ) → Parts (text ++ (b ∷ rest)) (take from text) rest
  run_parts e rest =
      let w = is_run_lem e in
      let i = text ++ (b ∷ rest) in
      let n : rig_end i ≡ from = line_run w.0 w.1 rest in
      let r = run_length (drop from text) w.1 in
      let c = length-drop from text in
      let d = g.behind in
      let m : rig_end i + run_line ≡ length text + 1 = omega arith in
      inl (
        sym (take-append-le from text (b ∷ rest) g.behind) ∙ ap (λ (x : ℕ). take x i) (sym n),
        sym (drop-append-add text (b ∷ rest) 1) ∙ ap (λ (x : ℕ). drop x i) (sym m),
      )

-- ---- the scan of a whole input

opens_waits : (rig rest t : List ℕ) (f : ℕ) → opens rig rest ≡ waits t f → ⊥
opens_waits rig rest t f e = let z : ◌≡◌ {A = ℕ} 0 1 = cc in omega (arith, z)

pub scan_parts : (bytes text : List ℕ) (from : ℕ) → Goes text from → (rig rest : List ℕ) → scanned text from bytes ≡ opens rig rest
    → (more : List ℕ) → Parts (text ++ (bytes ++ more)) rig (rest ++ more)
unfolding scanned
scan_parts [] text from g rig rest e more = absurd (opens_waits rig rest text from (sym e))
scan_parts (b ∷ bytes) text from g rig rest e more =
    by (run_ends_at text from b)
    (λ t. let q : opens (take from text) bytes ≡ opens rig rest = sym (byte_run text from b bytes t) ∙ e in
    let x : take from text ≡ rig = cc in
    let y : bytes ≡ rest = cc in
    subst (λ (l : List ℕ). Parts (text ++ (b ∷ (bytes ++ more))) l (rest ++ more)) x
    (subst (λ (l : List ℕ). Parts (text ++ (b ∷ (bytes ++ more))) (take from text) (l ++ more)) y (run_parts text from b g t (bytes ++ more))))
    (λ t. by (eqb (length text + 1) full)
    (λ u. let q : opens (text ++ (b ∷ [])) bytes ≡ opens rig rest = sym (byte_full text from b bytes t u) ∙ e in
    let x : text ++ (b ∷ []) ≡ rig = cc in
    let y : bytes ≡ rest = cc in
    subst (λ (l : List ℕ). Parts (text ++ (b ∷ (bytes ++ more))) l (rest ++ more)) x
    (subst (λ (l : List ℕ). Parts (text ++ (b ∷ (bytes ++ more))) (text ++ (b ∷ [])) (l ++ more)) y
    (full_parts text from b g t (eqb-true (length text + 1) full u) (bytes ++ more))))
    (λ u. subst (λ (l : List ℕ). Parts l rig (rest ++ more)) (append_assoc text (b ∷ []) (bytes ++ more))
    (scan_parts bytes (text ++ (b ∷ [])) (line_start from (length text + 1) b)
    (goes_next text from b g t (eqb-false (length text + 1) full u)) rig rest (sym (byte_next text from b bytes t u) ∙ e) more)))

pub scan_waits : (bytes text : List ℕ) (from : ℕ) → Goes text from → (t : List ℕ) (f : ℕ) → scanned text from bytes ≡ waits t f
    → Goes t f × (t ≡ text ++ bytes)
unfolding scanned
scan_waits [] text from g t f e =
    let x : text ≡ t = cc in
    let y : from ≡ f = cc in
    (subst (λ (l : List ℕ). Goes l f) x (subst (Goes text) y g), sym x ∙ sym (append-nil text))
scan_waits (b ∷ bytes) text from g t f e =
    by (run_ends_at text from b)
    (λ r. absurd (opens_waits (take from text) bytes t f (sym (byte_run text from b bytes r) ∙ e)))
    (λ r. by (eqb (length text + 1) full)
    (λ u. absurd (opens_waits (text ++ (b ∷ [])) bytes t f (sym (byte_full text from b bytes r u) ∙ e)))
    (λ u. let w =
    scan_waits bytes (text ++ (b ∷ [])) (line_start from (length text + 1) b)
    (goes_next text from b g r (eqb-false (length text + 1) full u)) t f (sym (byte_next text from b bytes r u) ∙ e) in
    (w.0, w.1 ∙ append_assoc text (b ∷ []) bytes)))
