-- What the start from a file shows: each of its two ways meets what it owes.
use Rattle.std.specs.Prelude.{◌≡◌, ◌≢◌, List, ℕ, ◌≤◌}
use Rattle.std.proofs.Common.{sym, ap, subst, ◌∙◌, inl, inr, ⊎_elim}
use Rattle.rig.specs.declared.Cycle.{Cycle}
use Rattle.rig.specs.Rules.{Right}
use Rattle.rig.specs.Forms.{table_of}
use Rattle.rig.specs.Laws.Forms.{cycles_of_table}
use Rattle.rig_build.specs.declared.Answer.{Answer}
use Rattle.rig_meaning.proofs.Reading.{read_of}
use Rattle.exec.specs.Starting.{Started, Starts}
use Rattle.exec.specs.declared.Step.{Step}
use Rattle.host_replies.specs.Told.{coded, refused_file, StartRepliesFrom}
use Rattle.rig_meaning.proofs.Laws.Read.{read_right, read_line}
use Rattle.host_replies.specs.declared.Coded.{Coded}

module _ (file : List ℕ) (a : Answer) (e : a ≡ read_of file) where
  pub line_fits : a.line ≤ 40962
  line_fits = subst (λ (x : Answer). x.line ≤ 40962) (sym e) (read_line file)

  pub file_refused_lem : a.no ≢ 0 → (r : Coded) → r ≡ refused_file a.no a.line → StartRepliesFrom file r
  file_refused_lem n r k =
      record {
        is = inr ((λ z. n (ap (λ (x : Answer). x.no) e ∙ z)), k ∙ ap (λ (x : Answer). refused_file x.no x.line) e);
      }

  -- the rig of an accepted file is right, so its start is not refused
  right_started : (s : Step) → Right a.rig a.cycles → Starts a.rig (table_of a.cycles) s → Started a.rig a.cycles s
  right_started s h w =
      let c = cycles_of_table a.cycles in
      ⊎_elim
      (λ p. subst (λ (l : List Cycle). Started a.rig l s) c p.1)
      (λ p. absurd (p.0 (subst (Right a.rig) (sym c) h)))
      w.is

  pub file_started : a.no ≡ 0 → (table : List (List ℕ)) → table ≡ table_of a.cycles → (s : Step) → Starts a.rig table s
      → (r : Coded) → r ≡ coded s → StartRepliesFrom file r
  file_started z table t s w r k =
      let y : (read_of file).no ≡ 0 = sym (ap (λ (x : Answer). x.no) e) ∙ z in
      let h : Right a.rig a.cycles = subst (λ (x : Answer). Right x.rig x.cycles) (sym e) (read_right file y) in
      let d = right_started s h (subst (λ (l : List (List ℕ)). Starts a.rig l s) t w) in
      record {
        is = inl (y, record { step = s; started = subst (λ (x : Answer). Started x.rig x.cycles s) e d; told = k });
      }
