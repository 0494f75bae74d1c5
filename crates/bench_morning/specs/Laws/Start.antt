-- Laws: the line START.
use Rattle.std.specs.Prelude.{ℕ, ◌≤◌, ◌≡◌, ◌≢◌, ◌⊎◌, Bool, List, [], ◌∷◌, length}
use Rattle.std.proofs.Math.Path.{refl, sym, ap}
use Rattle.std.proofs.Common.{◌∙◌, subst, ⊎_elim, arith, eq-eqb, ne_eqb, lt-ltb}
use Rattle.laws.specs.Cases.{if_yes, if_no}
use Rattle.rig.specs.Rules.{Right}
use Rattle.rig.specs.Forms.{cycles_of, table_of}
use Rattle.rig.specs.Laws.Forms.{cycles_of_table}
use Rattle.rig.specs.declared.Cycle.{Cycle}
use Rattle.rules.specs.Calls as R
use Rattle.exec_state.specs.View.{rig_of}
use Rattle.exec.specs.Call.{report_of, answer_of, ProperAnswer}
use Rattle.exec.specs.Sound.{rig_in, view}
use Rattle.exec.specs.Starting.{Starts, Started}
use Rattle.exec.specs.declared.Report.{Report}
use Rattle.exec.specs.declared.Step.{Step}
use Rattle.exec.specs.declared.Answer.TheVariants.{Accepted, Refused}
use Rattle.rig_build.specs.declared.Answer.{Answer}
use Rattle.rig_meaning.proofs.Reading.{read_of}
use Rattle.bench_script.specs.Letters.{start_name}
use Rattle.bench_script.specs.Output.{line_text, start_room}
use Rattle.put_text.specs.Wrote.{Wrote}
use Rattle.put_text.specs.Laws.Wrote.{wrote_as}
use Rattle.bench_script.specs.Laws.Written.{Begun}
use Rattle.bench_input.specs.Line.{line_number}
use Rattle.bench_morning.specs.Morning.{file_rig, start_columns, start_text}
use Rattle.bench_morning.specs.Desk.{talking, over, desk_started}
use Rattle.bench_morning.specs.Stream.{desk_of, HoldsIn, fresh, nothing_more}
use Rattle.bench_morning.specs.Laws.Steps.{Begins}
use Rattle.rig_meaning.proofs.Laws.Read.{read_right, read_line}
use Rattle.bench_morning.specs.declared.Stream.{Stream}
use Rattle.bench_morning.specs.declared.Phase.TheVariants.{Opening, Talking, Over}
use Rattle.bench_morning.specs.declared.Started as Line

-- ---- the line START

module _ (panel : Bool) (text out written : List ℕ) (a : Answer) (e : a ≡ read_of text) where
  refused_started : a.no ≢ 0 → desk_started panel (read_of text) ≡ over
  unfolding desk_started
  refused_started n = ap (desk_started panel) (sym e) ∙ if_no (talking panel (file_rig a) (R.start (file_rig a)) []) (ne_eqb a.no 0 n) refl

  refused_text_lem : a.no ≢ 0 → line_text start_name (a.no ∷ a.line ∷ []) ≡ start_text (read_of text)
  unfolding start_text
  refused_text_lem n =
      sym (if_no (line_text start_name (start_columns (file_rig a))) (ne_eqb a.no 0 n) refl) ∙ ap start_text e

  over_opening : Over ≡ Opening → ⊥
  over_opening q = let z : ◌≡◌ {A = ℕ} 0 1 = cc in omega (arith, z)

  talking_opening : Talking ≡ Opening → ⊥
  talking_opening q = let z : ◌≡◌ {A = ℕ} 0 1 = cc in omega (arith, z)

  -- the line's number is printed as it is
  pub printed : line_number a.line ≡ a.line
  unfolding line_number
  printed =
      let h = read_line text in
      let k : a.line ≡ (read_of text).line = ap (λ (x : Answer). x.line) e in
      if_yes 0 (lt-ltb a.line 65536 (omega arith)) refl

  -- refused
  pub begins_refused : (r : Line.Started) → a.no ≢ 0 → r.stream ≡ nothing_more → Wrote out 0 (line_text start_name (a.no ∷ a.line ∷ [])) written r.wrote
      → Begins panel text out r written
  begins_refused r n q w =
      record {
        wrote = wrote_as out written (line_text start_name (a.no ∷ a.line ∷ [])) (start_text (read_of text)) 0 r.wrote (refused_text_lem n) w;
        desk = λ keep. ap (λ (s : Stream). desk_of s keep) q ∙ sym (refused_started n);
        holds = λ kept. subst (λ (s : Stream). HoldsIn s kept) (sym q) tt;
        later = λ f. over_opening (sym (ap (λ (s : Stream). s.phase) q) ∙ f);
      }

  -- accepted: the record is started
  module _ (z : a.no ≡ 0) (table : List (List ℕ)) (t : table ≡ table_of a.cycles) (st : Step) (k : Starts a.rig table st) where
    rows : cycles_of table ≡ a.cycles
    rows = ap cycles_of t ∙ cycles_of_table a.cycles

    its_right : Right a.rig (cycles_of table)
    its_right =
        subst (Right a.rig) (sym rows)
        (subst (λ (x : Answer). Right x.rig x.cycles) (sym e) (read_right text (sym (ap (λ (x : Answer). x.no) e) ∙ z)))

    its_start : Started a.rig (cycles_of table) st
    its_start = ⊎_elim (λ p. p.1) (λ p. absurd (p.0 its_right)) k.is

    pub never_refused : (n : ℕ) → st.answer ≡ Refused n → ⊥
    never_refused n q =
        let f : n ≡ 0 = sym (ap (λ x. (answer_of x).code) q) ∙ ap (λ (x : R.Answer). x.code) its_start.answer in
        subst ProperAnswer q its_start.proper f

    its_rig : rig_in st.exec ≡ file_rig a
    its_rig = λ i. rig_of (its_start.rig i) ((its_start.cycles ∙ rows) i)

    its_view : view st.exec ≡ R.start (file_rig a)
    its_view = its_start.next ∙ ap (λ (c : List Cycle). R.start (rig_of a.rig c)) rows

    accepted_started : talking panel (rig_in st.exec) (view st.exec) [] ≡ desk_started panel (read_of text)
    unfolding desk_started
    accepted_started =
        (λ i. talking panel (its_rig i) (its_view i) []) ∙ sym (if_yes over (eq-eqb a.no 0 z) refl) ∙ ap (desk_started panel) e

    -- what the answer tells is printed
    module _ (report : Report) (accepted : st.answer ≡ Accepted report) where
      its_report : report_of report ≡ R.reported (R.started (file_rig a)) 0 0
      its_report =
          sym (ap (λ x. (answer_of x).report) accepted) ∙ ap (λ (x : R.Answer). x.report) its_start.answer
          ∙ ap (λ (c : List Cycle). R.reported (R.started (rig_of a.rig c)) 0 0) rows

      abbrev pub printed_of : List ℕ
      printed_of = 0 ∷ st.exec.st.count ∷ st.exec.st.running ∷ report.woken ∷ report.activated ∷ []

      accepted_text : line_text start_name printed_of ≡ start_text (read_of text)
      unfolding start_text
      accepted_text =
          (λ i. line_text start_name (0 ∷ (its_view i).count ∷ (its_view i).running ∷ (its_report i).woken ∷ (its_report i).activated ∷ []))
          ∙ sym (if_yes (line_text start_name (a.no ∷ a.line ∷ [])) (eq-eqb a.no 0 z) refl) ∙ ap start_text e

      pub begins_accepted : (r : Line.Started) → start_room ≤ length out → r.stream ≡ fresh panel Talking st.exec
          → Begun out printed_of written r.wrote → Begins panel text out r written
      begins_accepted r h q b =
          record {
            wrote =
                ⊎_elim
                (λ p. wrote_as out written (line_text start_name printed_of) (start_text (read_of text)) 0 r.wrote accepted_text p.1)
                (λ p. absurd (omega (arith, p.0))) b.is;
            desk = λ keep. ap (λ (s : Stream). desk_of s keep) q ∙ accepted_started;
            holds = λ kept. subst (λ (s : Stream). HoldsIn s kept) (sym q) (omega arith, its_start.sound);
            later = λ f. talking_opening (sym (ap (λ (s : Stream). s.phase) q) ∙ f);
          }
