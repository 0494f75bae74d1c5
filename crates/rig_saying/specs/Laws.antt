-- Laws of sayings as they are written, part after part; and how long each part can be.
-- Assumes nothing.
use Rattle.std.specs.Prelude.{ℕ, suc, ◌+◌, ◌≤◌, ◌<◌, ◌≡◌, refl, ◌≢◌, Bool, true, false, eqb, length}
use Rattle.std.proofs.Math.Path.{sym, subst}
use Rattle.std.proofs.Common.{ap, ◌∙◌, inr, ⊎_elim, arith, add-one, length-take, eq-eqb, ne_eqb}
use Rattle.std.proofs.Math.Logic.{inl}
use mathlib.Core.List.{List, [], ◌++◌}
use Rattle.std.proofs.Math.ListN.{length-append}
use Rattle.laws.specs.Cases.{if_yes, if_no}
use Rattle.text.specs.Split.{part}
use Rattle.bench_script.specs.Input.{rig_end}
use Rattle.put_text.specs.Wrote.{Wrote}
use Rattle.put_text.specs.Laws.Text.{short}
use Rattle.put_text.specs.Laws.Wrote.{wrote_then, wrote_as, wrote_none, wrote_same}
use Rattle.rig_build.specs.declared.Answer.{Answer}
use Rattle.rig_meaning.proofs.Reading.{read_of}
use Rattle.rig_shapes.specs.Shape.{reason_of}
use Rattle.rig_culprits.specs.Culprits.{Culprit, culprit_of}
use Rattle.rig_phrases.specs.Phrases.{refused_by_text, at_line_text, colon_text, culprit_line_text, culprit_task_text, end_text}
use Rattle.rig_line_sentences.specs.Sentences.{shape_sentence, line_sentence}
use Rattle.rig_rule_sentences.specs.Sentences.{rule_sentence}
use Rattle.rig_phrases.specs.Writing.{number_text, number_length, counted_length}
use Rattle.rig_phrases.specs.Counts.{tasks_text, flags_text, conditions_text, rows_text}
use Rattle.rig_saying.specs.Saying.{count_to, condition_count, line_text, head_text, culprit_text, why_text, refused_text, right_text, answered, saying_of, rig_part, Said, CountsOf}

-- ---- lengths

joined : (x y : List ℕ) (j k : ℕ) → length x ≤ j → length y ≤ k → length (x ++ y) ≤ j + k
joined x y j k h g = let e = length-append x y in omega arith

pub rule_short : (n : ℕ) → length (rule_sentence n) ≤ 128
unfolding rule_sentence
rule_short n =
    short 128 (eqb n 1) _ _ (omega arith)
    (short 128 (eqb n 2) _ _ (omega arith)
    (short 128 (eqb n 3) _ _ (omega arith)
    (short 128 (eqb n 4) _ _ (omega arith)
    (short 128 (eqb n 5) _ _ (omega arith)
    (short 128 (eqb n 21) _ _ (omega arith)
    (short 128 (eqb n 22) _ _ (omega arith)
    (short 128 (eqb n 23) _ _ (omega arith)
    (short 128 (eqb n 24) _ _ (omega arith)
    (short 128 (eqb n 25) _ _ (omega arith)
    (short 128 (eqb n 26) _ _ (omega arith)
    (short 128 (eqb n 27) _ _ (omega arith) (omega arith))))))))))))

pub shape_short : (n : ℕ) → length (shape_sentence n) ≤ 128
unfolding shape_sentence
shape_short n =
    short 128 (eqb n 1) _ _ (omega arith)
    (short 128 (eqb n 2) _ _ (omega arith)
    (short 128 (eqb n 3) _ _ (omega arith)
    (short 128 (eqb n 4) _ _ (omega arith)
    (short 128 (eqb n 5) _ _ (omega arith)
    (short 128 (eqb n 6) _ _ (omega arith)
    (short 128 (eqb n 7) _ _ (omega arith)
    (short 128 (eqb n 8) _ _ (omega arith)
    (short 128 (eqb n 9) _ _ (omega arith)
    (short 128 (eqb n 10) _ _ (omega arith) (omega arith))))))))))

pub line_short : (n line : ℕ) → length (line_sentence n line) ≤ 128
unfolding line_sentence
line_short n line = short 128 (eqb line 0) _ _ (omega arith) (short 128 (eqb n 2) _ _ (omega arith) (omega arith))

pub where_short : (line : ℕ) → length (line_text line) ≤ 32
unfolding line_text
where_short line =
    short 32 (eqb line 0) _ _ (omega arith)
    (let a = joined at_line_text (number_text line) 9 10 (omega arith) (number_length line) in
    let b = joined (at_line_text ++ number_text line) colon_text 19 2 a (omega arith) in
    omega (arith, b))

pub head_short : (n line : ℕ) → length (head_text n line) ≤ 64
unfolding head_text
head_short n line =
    let a = joined refused_by_text (number_text n) 11 10 (omega arith) (number_length n) in
    let b = joined (refused_by_text ++ number_text n) (line_text line) 21 32 a (where_short line) in
    omega (arith, b)

pub culprit_short : (who : Culprit) → length (culprit_text who) ≤ 32
unfolding culprit_text
culprit_short who =
    let a = joined culprit_line_text (number_text who.number) 7 10 (omega arith) (number_length who.number) in
    let b = joined culprit_task_text (number_text who.number) 7 10 (omega arith) (number_length who.number) in
    short 32 (eqb who.what 1) _ _ (omega (arith, a)) (short 32 (eqb who.what 2) _ _ (omega (arith, b)) (omega arith))

pub why_short : (file : List ℕ) (n line rule : ℕ) → length (why_text file n line rule) ≤ 160
unfolding why_text
why_short file n line rule =
    let a = joined (rule_sentence rule) (culprit_text (culprit_of rule file)) 128 32 (rule_short rule) (culprit_short (culprit_of rule file)) in
    let b = shape_short (reason_of file line) in
    let c = line_short n line in
    short 160 (eqb n 4) _ _ (omega (arith, a)) (short 160 (eqb n 1) _ _ (omega (arith, b)) (omega (arith, c)))

-- ---- parts

module _ (l : List ℕ) (at line : ℕ) where
  pub line_none : line ≡ 0 → (m : List ℕ) (p : ℕ) → Wrote l at colon_text m p → Wrote l at (line_text line) m p
  unfolding line_text
  line_none z m p w = wrote_as l m colon_text (line_text line) at p (sym (if_yes _ (eq-eqb line 0 z) refl)) w

  pub line_some : at + 256 ≤ length l → line ≢ 0 → (m k o : List ℕ) (p q r : ℕ) → Wrote l at at_line_text m p → Wrote m p (number_text line) k q → Wrote k q colon_text o r
      → Wrote l at (line_text line) o r
  unfolding line_text
  line_some h n m k o p q r u v w =
      let d = number_length line in
      let j = length-append at_line_text (number_text line) in
      wrote_as l o ((at_line_text ++ number_text line) ++ colon_text) (line_text line) at r (sym (if_no _ (ne_eqb line 0 n) refl))
      (wrote_then l k o (at_line_text ++ number_text line) colon_text at q r (omega arith) (wrote_then l m k at_line_text (number_text line) at p q (omega arith) u v) w)

pub head_wrote : (l : List ℕ) (n line : ℕ) → 1024 ≤ length l → (m k o : List ℕ) (p q r : ℕ) → Wrote l 0 refused_by_text m p → Wrote m p (number_text n) k q → Wrote k q (line_text line) o r
    → Wrote l 0 (head_text n line) o r
unfolding head_text
head_wrote l n line h m k o p q r u v w =
    let d = number_length n in
    let e = where_short line in
    let j = length-append refused_by_text (number_text n) in
    wrote_then l k o (refused_by_text ++ number_text n) (line_text line) 0 q r (omega arith) (wrote_then l m k refused_by_text (number_text n) 0 p q (omega arith) u v) w

module _ (l : List ℕ) (at : ℕ) (who : Culprit) where
  pub culprit_line_lem : at + 256 ≤ length l → who.what ≡ 1 → (m k : List ℕ) (p q : ℕ) → Wrote l at culprit_line_text m p → Wrote m p (number_text who.number) k q → Wrote l at (culprit_text who) k q
  unfolding culprit_text
  culprit_line_lem h e m k p q u v =
      let d = number_length who.number in
      wrote_as l k (culprit_line_text ++ number_text who.number) (culprit_text who) at q (sym (if_yes _ (eq-eqb who.what 1 e) refl))
      (wrote_then l m k culprit_line_text (number_text who.number) at p q (omega arith) u v)

  pub culprit_task : at + 256 ≤ length l → who.what ≢ 1 → who.what ≡ 2 → (m k : List ℕ) (p q : ℕ) → Wrote l at culprit_task_text m p → Wrote m p (number_text who.number) k q
      → Wrote l at (culprit_text who) k q
  unfolding culprit_text
  culprit_task h n e m k p q u v =
      let d = number_length who.number in
      wrote_as l k (culprit_task_text ++ number_text who.number) (culprit_text who) at q
      (sym (if_no _ (ne_eqb who.what 1 n) (if_yes _ (eq-eqb who.what 2 e) refl)))
      (wrote_then l m k culprit_task_text (number_text who.number) at p q (omega arith) u v)

  pub culprit_none : who.what ≢ 1 → who.what ≢ 2 → Wrote l at (culprit_text who) l at
  unfolding culprit_text
  culprit_none n e =
      wrote_as l l [] (culprit_text who) at at (sym (if_no _ (ne_eqb who.what 1 n) (if_no _ (ne_eqb who.what 2 e) refl))) (wrote_none l at)

module _ (l : List ℕ) (at : ℕ) (file : List ℕ) (n line rule : ℕ) where
  pub why_rule : at + 384 ≤ length l → n ≡ 4 → (who : Culprit) → who ≡ culprit_of rule file → (m k : List ℕ) (p q : ℕ) → Wrote l at (rule_sentence rule) m p → Wrote m p (culprit_text who) k q
      → Wrote l at (why_text file n line rule) k q
  unfolding why_text
  why_rule h e who c m k p q u v =
      let a = rule_short rule in
      let b = culprit_short (culprit_of rule file) in
      wrote_as l k (rule_sentence rule ++ culprit_text (culprit_of rule file)) (why_text file n line rule) at q (sym (if_yes _ (eq-eqb n 4 e) refl))
      (wrote_then l m k (rule_sentence rule) (culprit_text (culprit_of rule file)) at p q (omega arith) u (subst (λ (x : Culprit). Wrote m p (culprit_text x) k q) c v))

  pub why_shape : n ≢ 4 → n ≡ 1 → (reason : ℕ) → reason ≡ reason_of file line → (m : List ℕ) (p : ℕ) → Wrote l at (shape_sentence reason) m p → Wrote l at (why_text file n line rule) m p
  unfolding why_text
  why_shape a e reason c m p w =
      wrote_as l m (shape_sentence reason) (why_text file n line rule) at p (ap shape_sentence c ∙ sym (if_no _ (ne_eqb n 4 a) (if_yes _ (eq-eqb n 1 e) refl))) w

  pub why_line : n ≢ 4 → n ≢ 1 → (m : List ℕ) (p : ℕ) → Wrote l at (line_sentence n line) m p → Wrote l at (why_text file n line rule) m p
  unfolding why_text
  why_line a b m p w =
      wrote_as l m (line_sentence n line) (why_text file n line rule) at p (sym (if_no _ (ne_eqb n 4 a) (if_no _ (ne_eqb n 1 b) refl))) w

pub refused_wrote : (l file : List ℕ) (n line rule : ℕ) → 1024 ≤ length l → (m k o : List ℕ) (p q r : ℕ) → Wrote l 0 (head_text n line) m p → Wrote m p (why_text file n line rule) k q
    → Wrote k q end_text o r → Wrote l 0 (refused_text file n line rule) o r
unfolding refused_text
refused_wrote l file n line rule h m k o p q r u v w =
    let a = head_short n line in
    let b = why_short file n line rule in
    let j = length-append (head_text n line) (why_text file n line rule) in
    wrote_then l k o (head_text n line ++ why_text file n line rule) end_text 0 q r (omega arith)
    (wrote_then l m k (head_text n line) (why_text file n line rule) 0 p q (omega arith) u v) w

refused_short : (file : List ℕ) (n line rule : ℕ) → length (refused_text file n line rule) ≤ 512
unfolding refused_text
refused_short file n line rule =
    let a = joined (head_text n line) (why_text file n line rule) 64 160 (head_short n line) (why_short file n line rule) in
    let b = joined (head_text n line ++ why_text file n line rule) end_text 224 2 a (omega arith) in
    omega (arith, b)

-- ---- how much a rig holds

pub tasks_short : (n : ℕ) → length (tasks_text n) ≤ 42
tasks_short n = counted_length _ n _ _ (omega arith) (omega arith) (omega arith)

pub flags_short : (n : ℕ) → length (flags_text n) ≤ 42
flags_short n = counted_length _ n _ _ (omega arith) (omega arith) (omega arith)

pub conditions_short : (n : ℕ) → length (conditions_text n) ≤ 42
conditions_short n = counted_length _ n _ _ (omega arith) (omega arith) (omega arith)

rows_short : (n : ℕ) → length (rows_text n) ≤ 42
rows_short n = counted_length _ n _ _ (omega arith) (omega arith) (omega arith)

pub right_wrote : (l : List ℕ) (a b c d : ℕ) → 1024 ≤ length l → (m k o s : List ℕ) (p q r t : ℕ) → Wrote l 0 (tasks_text a) m p → Wrote m p (flags_text b) k q
    → Wrote k q (conditions_text c) o r → Wrote o r (rows_text d) s t → Wrote l 0 (right_text a b c d) s t
unfolding right_text
right_wrote l a b c d h m k o s p q r t u v w x =
    let e = tasks_short a in
    let f = flags_short b in
    let g = conditions_short c in
    let i = rows_short d in
    let j = length-append (tasks_text a) (flags_text b) in
    let y = length-append (tasks_text a ++ flags_text b) (conditions_text c) in
    wrote_then l o s ((tasks_text a ++ flags_text b) ++ conditions_text c) (rows_text d) 0 r t (omega arith)
    (wrote_then l k o (tasks_text a ++ flags_text b) (conditions_text c) 0 q r (omega arith)
    (wrote_then l m k (tasks_text a) (flags_text b) 0 p q (omega arith) u v) w) x

right_short : (a b c d : ℕ) → length (right_text a b c d) ≤ 512
unfolding right_text
right_short a b c d =
    let e = joined (tasks_text a) (flags_text b) 42 42 (tasks_short a) (flags_short b) in
    let f = joined (tasks_text a ++ flags_text b) (conditions_text c) 84 42 e (conditions_short c) in
    let g = joined ((tasks_text a ++ flags_text b) ++ conditions_text c) (rows_text d) 126 42 f (rows_short d) in
    omega (arith, g)

pub count_none : (test : ℕ → Bool) → 0 ≡ count_to 0 test
unfolding count_to
count_none test = refl

pub count_one : (i n : ℕ) (test : ℕ → Bool) → n ≡ count_to i test → test i ≡ true → n + 1 ≡ count_to (i + 1) test
unfolding count_to
count_one i n test e h = rw (add-one i, h, add-one n) (ap suc e)

pub count_skip : (i n : ℕ) (test : ℕ → Bool) → n ≡ count_to i test → test i ≡ false → n ≡ count_to (i + 1) test
unfolding count_to
count_skip i n test e h = rw (add-one i, h) e

-- ---- the whole

module _ (file l m : List ℕ) (p : ℕ) (a : Answer) (e : a ≡ read_of file) (h : 1024 ≤ length l) where
  said_is : Wrote l 0 (answered file a) m p → Said file l m p
  unfolding saying_of
  said_is w = record { is = inl (h, subst (λ (x : Answer). Wrote l 0 (answered file x) m p) e w) }

  pub said_right : a.no ≡ 0 → (c : ℕ) → c ≡ condition_count a.rig → Wrote l 0 (right_text a.rig.tasks a.rig.flags c a.rig.rows) m p → Said file l m p
  said_right z c d w =
      said_is
      (wrote_as l m (right_text a.rig.tasks a.rig.flags c a.rig.rows) (answered file a) 0 p
      (ap (λ (x : ℕ). right_text a.rig.tasks a.rig.flags x a.rig.rows) d ∙ sym (if_yes _ (eq-eqb a.no 0 z) refl)) w)

  pub said_refused : a.no ≢ 0 → Wrote l 0 (refused_text file a.no a.line a.rule) m p → Said file l m p
  said_refused n w =
      said_is (wrote_as l m (refused_text file a.no a.line a.rule) (answered file a) 0 p (sym (if_no _ (ne_eqb a.no 0 n) refl)) w)

pub said_nothing : (file l : List ℕ) → length l < 1024 → Said file l l 0
said_nothing file l h = record { is = inr (h, refl, refl) }

answered_short : (file : List ℕ) (a : Answer) → length (answered file a) ≤ 512
answered_short file a = short 512 (eqb a.no 0) _ _ (right_short a.rig.tasks a.rig.flags (condition_count a.rig) a.rig.rows) (refused_short file a.no a.line a.rule)

said_least : (file l m : List ℕ) (p : ℕ) → Said file l m p → p ≤ length m
unfolding saying_of
said_least file l m p w =
    ⊎_elim
    (λ x. let k = answered_short file (read_of file) in omega (arith, k, x.0, x.1.place, x.1.size))
    (λ x. let z = x.2 in omega (arith, z))
    w.is

pub said_fits : (file l m : List ℕ) (p : ℕ) → Said file l m p → CountsOf p m
said_fits file l m p w = let h = said_least file l m p w in (h, simp length-take (omega arith))

pub said_part : (input l m : List ℕ) (e p : ℕ) → e ≡ rig_end input → Said (part 0 e input) l m p → Said (rig_part input) l m p
said_part input l m e p q w = subst (λ (x : ℕ). Said (part 0 x input) l m p) q w

-- the statement fixes the result
pub said_same : (file l m n : List ℕ) (p q : ℕ) → Said file l m p → Said file l n q → (m ≡ n) × (p ≡ q)
said_same file l m n p q a b =
    ⊎_elim
    (λ x. ⊎_elim (λ y. wrote_same l 0 (saying_of file) m n p q x.1 y.1) (λ y. absurd (let z : ⊥ = omega (arith, x.0, y.0) in z)) b.is)
    (λ x. ⊎_elim (λ y. absurd (let z : ⊥ = omega (arith, x.0, y.0) in z)) (λ y. (x.1 ∙ sym y.1, x.2 ∙ sym y.2)) b.is)
    a.is
