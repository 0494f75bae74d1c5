-- Laws of an answer's line: how it is put together.
use Rattle.std.specs.Prelude.{◌≡◌, refl, ◌≢◌, ℕ, ◌+◌, ◌≤◌, ◌<◌, min, eqb, leb, length, take, set}
use Rattle.std.proofs.Math.Path.{sym, ap}
use Rattle.std.proofs.Common.{◌∙◌, length-take, take_all, eq-eqb, ne_eqb, leb-true, leb-false}
use Rattle.std.proofs.Math.Bool.{cond}
use mathlib.Core.List.{List, [], ◌∷◌, ◌++◌, append_assoc}
use native.Mathlib.Omega.{arith}
use Rattle.laws.specs.Cases.{by, if_yes, if_no}
use Rattle.exec.specs.Call.{report_of, answer_of, ProperAnswer}
use Rattle.exec.specs.declared.Report.{Report}
use Rattle.exec.specs.declared.Answer.{Answer}
use Rattle.exec.specs.declared.Answer.TheVariants.{Accepted, Refused}
use Rattle.bench_script.specs.Letters.{lf, tick_verb, ask_verb, next_waking_verb, overruns_verb, why_verb}
use Rattle.bench_script.specs.Output.{fields_text, if_any, line_text, turn_room}
use Rattle.put_text.specs.Wrote.{Wrote}
use Rattle.put_text.specs.Laws.Wrote.{wrote_then, wrote_as, wrote_none, byte_wrote}
use Rattle.bench_script.specs.Laws.Written.{fields_none, fields_append, fields_length}
use Rattle.bench_show.specs.Shown.{words_lent, extra_room, extra, columns, numbers_of, text_of}
use Rattle.rules.specs.Sizes.{positions}
use Rattle.rules.specs.Calls as R

-- no other verb prints words
extra_other : (verb : ℕ) (report : R.Report) (ws vs : List ℕ) → verb ≢ tick_verb → extra verb report ws ≡ extra verb report vs
unfolding extra
extra_other verb report ws vs n = rw (ne_eqb verb tick_verb n)

numbers_other : (verb : ℕ) (a : R.Answer) (count running : ℕ) (ws vs : List ℕ) → verb ≢ tick_verb
    → numbers_of verb a count running ws ≡ numbers_of verb a count running vs
unfolding numbers_of
numbers_other verb a count running ws vs n =
    ap (λ (l : List ℕ). columns a count running ++ cond (eqb a.code 0) l []) (extra_other verb a.report ws vs n)

pub text_other : (verb : ℕ) (a : R.Answer) (count running : ℕ) (ws vs : List ℕ) → verb ≢ tick_verb
    → text_of verb a count running ws ≡ text_of verb a count running vs
unfolding text_of
text_other verb a count running ws vs n = ap (line_text (verb ∷ [])) (numbers_other verb a count running ws vs n)

-- what is printed of words: never more than there are
pub least_take : (n k : ℕ) (ws : List ℕ) → k ≡ min n (length ws) → take k ws ≡ take n ws
least_take n k ws e =
    by (leb n (length ws))
    (λ t. let h : n ≤ length ws = leb-true n (length ws) t in let q : k ≡ n = omega arith in rw q)
    (λ t. let h : length ws < n = leb-false n (length ws) t in
    let q : k ≡ length ws = omega arith in
    rw q (take_all (length ws) ws (omega arith) ∙ sym (take_all n ws (omega arith))))

module _ (verb : ℕ) (report : R.Report) (ws l m : List ℕ) (at p : ℕ) where
  -- a tick's words
  pub extra_words : verb ≡ tick_verb → (k : ℕ) → k ≡ min report.words (length ws) → Wrote l at (fields_text (take k ws)) m p
      → Wrote l at (fields_text (extra verb report ws)) m p
  unfolding extra
  extra_words e k q w =
      wrote_as l m (fields_text (take k ws)) (fields_text (extra verb report ws)) at p
      (ap fields_text (least_take report.words k ws q ∙ sym (if_yes _ (eq-eqb verb tick_verb e) refl))) w

  -- a flag's value
  pub extra_value : verb ≢ tick_verb → verb ≡ ask_verb → Wrote l at (fields_text (report.value ∷ [])) m p → Wrote l at (fields_text (extra verb report ws)) m p
  unfolding extra
  extra_value n e w =
      wrote_as l m (fields_text (report.value ∷ [])) (fields_text (extra verb report ws)) at p
      (ap fields_text (sym (if_no _ (ne_eqb verb tick_verb n) (if_yes _ (eq-eqb verb ask_verb e) refl)))) w

  -- the lowest waking count, if there is one
  pub extra_any : verb ≢ tick_verb → verb ≢ ask_verb → verb ≡ next_waking_verb → Wrote l at (fields_text (if_any 0 report.value)) m p
      → Wrote l at (fields_text (extra verb report ws)) m p
  unfolding extra
  extra_any n k e w =
      wrote_as l m (fields_text (if_any 0 report.value)) (fields_text (extra verb report ws)) at p
      (ap fields_text (sym (if_no _ (ne_eqb verb tick_verb n) (if_no _ (ne_eqb verb ask_verb k) (if_yes _ (eq-eqb verb next_waking_verb e) refl))))) w

  -- a task's number of overruns
  pub extra_overruns : verb ≢ tick_verb → verb ≢ ask_verb → verb ≢ next_waking_verb → verb ≡ overruns_verb → Wrote l at (fields_text (report.value ∷ [])) m p
      → Wrote l at (fields_text (extra verb report ws)) m p
  unfolding extra
  extra_overruns n k v e w =
      wrote_as l m (fields_text (report.value ∷ [])) (fields_text (extra verb report ws)) at p
      (ap fields_text
      (sym (if_no _ (ne_eqb verb tick_verb n)
      (if_no _ (ne_eqb verb ask_verb k) (if_no _ (ne_eqb verb next_waking_verb v) (if_yes _ (eq-eqb verb overruns_verb e) refl)))))) w

  -- the condition that blocks, if one does
  pub extra_why : verb ≢ tick_verb → verb ≢ ask_verb → verb ≢ next_waking_verb → verb ≢ overruns_verb → verb ≡ why_verb
      → Wrote l at (fields_text (if_any positions report.value)) m p → Wrote l at (fields_text (extra verb report ws)) m p
  unfolding extra
  extra_why n k v o e w =
      wrote_as l m (fields_text (if_any positions report.value)) (fields_text (extra verb report ws)) at p
      (ap fields_text
      (sym (if_no _ (ne_eqb verb tick_verb n)
      (if_no _ (ne_eqb verb ask_verb k)
      (if_no _ (ne_eqb verb next_waking_verb v) (if_no _ (ne_eqb verb overruns_verb o) (if_yes _ (eq-eqb verb why_verb e) refl))))))) w

-- nothing of any other call
pub extra_nothing : (verb : ℕ) (report : R.Report) (ws l : List ℕ) (at : ℕ) → verb ≢ tick_verb → verb ≢ ask_verb → verb ≢ next_waking_verb → verb ≢ overruns_verb
    → verb ≢ why_verb → Wrote l at (fields_text (extra verb report ws)) l at
unfolding extra
extra_nothing verb report ws l at n e v o y =
    wrote_as l l [] (fields_text (extra verb report ws)) at at
    (sym (ap fields_text
    (if_no _ (ne_eqb verb tick_verb n)
    (if_no _ (ne_eqb verb ask_verb e) (if_no _ (ne_eqb verb next_waking_verb v) (if_no _ (ne_eqb verb overruns_verb o) (if_no _ (ne_eqb verb why_verb y) refl))))) ∙ fields_none))
    (wrote_none l at)

-- how long an extra is: a field of it is at most one
any_length : (none n : ℕ) → length (if_any none n) ≤ 1
any_length none n = by (eqb n none) (λ e. rw e (omega arith)) (λ e. rw e (omega arith))

few_length : (numbers : List ℕ) → length numbers ≤ 1 → length (fields_text numbers) ≤ extra_room
few_length numbers h = let f = fields_length numbers in omega arith

pub extra_length : (verb : ℕ) (report : R.Report) (ws : List ℕ) → length ws ≤ words_lent → length (fields_text (extra verb report ws)) ≤ extra_room
unfolding extra
extra_length verb report ws h =
    by (eqb verb tick_verb)
    (λ e. rw e (let f = fields_length (take report.words ws) in let g = length-take report.words ws in omega arith))
    (λ e. rw e (few_length (cond (eqb verb ask_verb) (report.value ∷ []) (cond (eqb verb next_waking_verb) (if_any 0 report.value) (cond (eqb verb overruns_verb) (report.value ∷ []) (cond (eqb verb why_verb) (if_any positions report.value) []))))
    (by (eqb verb ask_verb)
    (λ d. rw d (omega arith))
    (λ d. rw d (by (eqb verb next_waking_verb) (λ v. rw v (any_length 0 report.value))
    (λ v. rw v (by (eqb verb overruns_verb) (λ o. rw o (omega arith))
    (λ o. rw o (by (eqb verb why_verb) (λ y. rw y (any_length positions report.value)) (λ y. rw y (omega arith)))))))))))

-- the number of a refused answer is not that of an accepted one
refused_code : (a : Answer) (k : ℕ) → a ≡ Refused k → ProperAnswer a → (answer_of a).code ≢ 0
refused_code (Accepted p) k e z q = let y : ◌≡◌ {A = ℕ} 0 1 = cc in absurd (omega (arith, y))
refused_code (Refused n) k e z q = z q

-- ---- an answer's line: the verb, five numbers, the extra, LF

abbrev pub head_of : Answer → ℕ → ℕ → List ℕ
head_of a count running = columns (answer_of a) count running

-- the five numbers as they are taken from an answer
pub head_is : (a : Answer) (n count running : ℕ) (told : Report) → n ≡ (answer_of a).code → report_of told ≡ (answer_of a).report
    → n ∷ count ∷ running ∷ told.woken ∷ told.activated ∷ [] ≡ head_of a count running
head_is a n count running told e f i = columns (record { code = e i; report = f i }) count running

module _ (verb : ℕ) (a : Answer) (count running : ℕ) (ws out : List ℕ) (at : ℕ) (h : length ws ≤ words_lent) (room_left : at + turn_room ≤ length out) where
  head : List ℕ
  head = (verb ∷ []) ++ fields_text (head_of a count running)

  module _ (m : List ℕ) (p : ℕ) (w : Wrote (set out at verb) (at + 1) (fields_text (head_of a count running)) m p) where
    begun : Wrote out at head m p
    unfolding head
    begun =
        let f = fields_length (head_of a count running) in
        wrote_then out (set out at verb) m (verb ∷ []) (fields_text (head_of a count running)) at (at + 1) p (omega arith) (byte_wrote out at verb (omega arith)) w

    pub after_head : p + extra_room + 1 ≤ length m
    unfolding head
    after_head =
        let f = fields_length (head_of a count running) in
        let b = begun.place in
        let d = begun.size in
        omega arith

    -- the line's text: the head, what the call put out, LF
    line_is : (x : List ℕ) → cond (eqb (answer_of a).code 0) (extra verb (answer_of a).report ws) [] ≡ x
        → head ++ (fields_text x ++ (lf ∷ [])) ≡ text_of verb (answer_of a) count running ws
    unfolding text_of line_text numbers_of head
    line_is x e =
        append_assoc (verb ∷ []) (fields_text (head_of a count running)) (fields_text x ++ (lf ∷ []))
        ∙ ap (λ (l : List ℕ). (verb ∷ []) ++ l)
        (sym (append_assoc (fields_text (head_of a count running)) (fields_text x) (lf ∷ []))
        ∙ ap (λ (l : List ℕ). l ++ (lf ∷ [])) (sym (fields_append (head_of a count running) x)))
        ∙ sym (ap (λ (y : List ℕ). line_text (verb ∷ []) (head_of a count running ++ y)) e)

    -- refused
    pub shown_refused : (k : ℕ) → a ≡ Refused k → ProperAnswer a → Wrote out at (text_of verb (answer_of a) count running ws) (set m p lf) (p + 1)
    unfolding head
    shown_refused k e z =
        let f = fields_length (head_of a count running) in
        let b = begun.place in
        let y = after_head in
        let n : (answer_of a).code ≢ 0 = refused_code a k e z in
        let t : head ++ (lf ∷ []) ≡ text_of verb (answer_of a) count running ws =
        ap (λ (l : List ℕ). head ++ (l ++ (lf ∷ []))) (sym fields_none)
        ∙ line_is [] (if_no (extra verb (answer_of a).report ws) (ne_eqb (answer_of a).code 0 n) refl) in
        wrote_as out (set m p lf) (head ++ (lf ∷ [])) (text_of verb (answer_of a) count running ws) at (p + 1) t
        (wrote_then out m (set m p lf) head (lf ∷ []) at p (p + 1) (omega arith) begun (byte_wrote m p lf (omega arith)))

    -- accepted
    module _ (report : Report) (e : a ≡ Accepted report) (o : List ℕ) (q : ℕ) (u : Wrote m p (fields_text (extra verb (report_of report) ws)) o q) where
      both : Wrote out at (head ++ fields_text (extra verb (report_of report) ws)) o q
      unfolding head
      both =
          let f = fields_length (head_of a count running) in
          let g = extra_length verb (report_of report) ws h in
          let b = begun.place in
          wrote_then out m o head (fields_text (extra verb (report_of report) ws)) at p q (omega arith) begun u

      pub after_extra : q < length o
      after_extra =
          let z = after_head in
          let g = extra_length verb (report_of report) ws h in
          let b = u.place in
          let d = u.size in
          omega arith

      pub shown_accepted : Wrote out at (text_of verb (answer_of a) count running ws) (set o q lf) (q + 1)
      unfolding head
      shown_accepted =
          let x = extra verb (report_of report) ws in
          let f = fields_length (head_of a count running) in
          let g = extra_length verb (report_of report) ws h in
          let b = both.place in
          let z = after_extra in
          let y = both.size in
          let t : head ++ (fields_text x ++ (lf ∷ [])) ≡ text_of verb (answer_of a) count running ws =
          line_is x (ap (λ (b : Answer). cond (eqb (answer_of b).code 0) (extra verb (answer_of b).report ws) []) e) in
          wrote_as out (set o q lf) ((head ++ fields_text x) ++ (lf ∷ [])) (text_of verb (answer_of a) count running ws) at (q + 1)
          (append_assoc head (fields_text x) (lf ∷ []) ∙ t)
          (wrote_then out o (set o q lf) (head ++ fields_text x) (lf ∷ []) at q (q + 1) (omega arith) both (byte_wrote o q lf z))
