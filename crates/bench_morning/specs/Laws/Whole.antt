-- THE MORNING BYTE BY BYTE IS THE WHOLE MORNING: what the bytes of an input decide, and then its end, is `morning_text` of it.
use Rattle.std.specs.Prelude.{ℕ, ◌+◌, ◌<◌, ◌⊎◌, Bool, eqb, length}
use Rattle.std.proofs.Math.Path.{◌≡◌, refl, sym, ap, subst}
use Rattle.std.proofs.Common.{◌∙◌, inl}
use Rattle.std.proofs.Math.Logic.{⊎_elim}
use Rattle.std.proofs.Math.Bool.{cond}
use mathlib.Core.List.{List, [], ◌∷◌, ◌++◌, append_assoc, append-nil}
use native.Mathlib.Omega.{arith}
use Rattle.std.proofs.Math.ListN.{take, drop, drop_of_length-le}
use Rattle.std.proofs.Math.Seq.{take-length}
use Rattle.laws.specs.Cases.{by, if_yes, if_no}
use Rattle.text.specs.Split.{on_head, split}
use Rattle.text.specs.Laws.Split.{split_cons}
use Rattle.rules.specs.Rig as G
use Rattle.rules.specs.State as S
use Rattle.rules.specs.Calls as R
use Rattle.rig_build.specs.declared.Answer.{Answer}
use Rattle.rig_build.specs.Read.{file_refused}
use Rattle.rig_meaning.proofs.Reading.{read_of}
use Rattle.rig_meaning.proofs.Laws.Read.{read_too_long}
use Rattle.bench_script.specs.Letters.{lf}
use Rattle.bench_script.specs.Input.{rig_end}
use Rattle.bench_input.specs.Opening.{run_line, Opening, still, whole, with_byte, Scanned, waits, opens, onward, scanned}
use Rattle.bench_input.specs.Line.{with_more, last_text}
use Rattle.bench_input.specs.Laws.Line.{KeptOf, kept_more, kept_says}
use Rattle.bench_input.specs.Laws.RigEnd.{Goes, goes_none, goes_all, Parts, scan_parts, scan_waits}
use Rattle.bench_turn.specs.Turn.{letter_of, asked_by, asked_text, asked_next, turn_text, turn_next}
use Rattle.bench_morning.specs.Morning.{file_rig, start_text, talk_text, whole_text, morning_text}
use Rattle.bench_morning.specs.Desk.{Desk, opening, talking, over, begun, desk_started, opened, opened_text, next, says, desk_after, said, last_said}
use Rattle.bench_morning.specs.Laws.Desk.{over_after, over_said}

-- all that bytes, and then the end of the input, decide
abbrev pub all : Desk → List ℕ → List ℕ
all d bytes = said d bytes ++ last_said (desk_after d bytes)

-- with the panel's verbs on or off
module _ (panel : Bool) where
  -- ---- the script

  -- a line's first bytes before the pieces of what follows them
  put_in_front : List ℕ → List (List ℕ) → List (List ℕ)
  put_in_front line [] = line ∷ []
  put_in_front line (p ∷ ps) = (line ++ p) ∷ ps

  same_turn : (r : G.Rig) (s : S.State) (line kept : List ℕ) → KeptOf line kept → turn_text panel r s kept ≡ turn_text panel r s line
  unfolding turn_text
  same_turn r s line kept w = ap (λ x. asked_text r s (letter_of x) (asked_by x)) (kept_says panel line kept w)

  same_next : (r : G.Rig) (s : S.State) (line kept : List ℕ) → KeptOf line kept → turn_next panel r s kept ≡ turn_next panel r s line
  unfolding turn_next
  same_next r s line kept w = ap (λ x. asked_next r s (asked_by x)) (kept_says panel line kept w)

  last_long : (l : List ℕ) → 0 < length l → (m : List ℕ) → 0 < length m → last_text l ≡ last_text m
  unfolding last_text
  last_long [] h m k = absurd (let z : ⊥ = omega arith in z)
  last_long (x ∷ l) h [] k = absurd (let z : ⊥ = omega arith in z)
  last_long (x ∷ l) h (y ∷ m) k = refl

  same_last : (line kept : List ℕ) → KeptOf line kept → last_text kept ≡ last_text line
  same_last line kept w = ⊎_elim (λ e. ap last_text e) (λ p. last_long kept (omega (arith, p.0)) line (omega (arith, p.1))) w

  front_none : (ps : List (List ℕ)) (p : List ℕ) (qs : List (List ℕ)) → ps ≡ p ∷ qs → put_in_front [] ps ≡ ps
  unfolding put_in_front
  front_none ps p qs e = ap (put_in_front []) e ∙ sym e

  talk_next : (r : G.Rig) (s : S.State) (line : List ℕ) (ps : List (List ℕ)) (p : List ℕ) (qs : List (List ℕ)) → ps ≡ p ∷ qs
      → talk_text panel r s (line ∷ ps) ≡ turn_text panel r s line ++ talk_text panel r (turn_next panel r s line) ps
  unfolding talk_text
  talk_next r s line ps p qs e =
      ap (λ (x : List (List ℕ)). talk_text panel r s (line ∷ x)) e ∙ ap (λ (x : List (List ℕ)). turn_text panel r s line ++ talk_text panel r (turn_next panel r s line) x) (sym e)

  front_more : (line : List ℕ) (b : ℕ) (ps : List (List ℕ)) → put_in_front line (on_head b ps) ≡ put_in_front (line ++ (b ∷ [])) ps
  unfolding put_in_front on_head
  front_more line b [] = refl
  front_more line b (p ∷ ps) = ap (λ (l : List ℕ). l ∷ ps) (sym (append_assoc line (b ∷ []) p))

  talks : (bytes : List ℕ) (r : G.Rig) (s : S.State) (line kept : List ℕ) → KeptOf line kept
      → all (talking panel r s kept) bytes ≡ talk_text panel r s (put_in_front line (split lf bytes))
  unfolding desk_after said next says last_said split put_in_front talk_text
  talks [] r s line kept w = same_last line kept w ∙ ap last_text (sym (append-nil line))
  talks (b ∷ bytes) r s line kept w =
      by (eqb b lf)
      (λ t. let q = split_cons lf bytes in
      let a : all (talking panel r s kept) (b ∷ bytes) ≡ (turn_text panel r s kept ++ said (talking panel r (turn_next panel r s kept) []) bytes) ++ last_said (desk_after (talking panel r (turn_next panel r s kept) []) bytes) =
      rw t in
      let i : all (talking panel r (turn_next panel r s kept) []) bytes ≡ talk_text panel r (turn_next panel r s kept) (split lf bytes) =
      talks bytes r (turn_next panel r s kept) [] [] (inl refl) ∙ ap (talk_text panel r (turn_next panel r s kept)) (front_none (split lf bytes) q.0 q.1 q.2) in
      a
      ∙ append_assoc (turn_text panel r s kept) (said (talking panel r (turn_next panel r s kept) []) bytes) (last_said (desk_after (talking panel r (turn_next panel r s kept) []) bytes))
      ∙ ap (λ (l : List ℕ). turn_text panel r s kept ++ l) i
      ∙ (λ j. same_turn r s line kept w j ++ talk_text panel r (same_next r s line kept w j) (split lf bytes))
      ∙ sym (talk_next r s line (split lf bytes) q.0 q.1 q.2)
      ∙ ap (λ (l : List ℕ). talk_text panel r s (l ∷ split lf bytes)) (sym (append-nil line))
      ∙ rw t)
      (λ t. let a : all (talking panel r s kept) (b ∷ bytes) ≡ all (talking panel r s (with_more kept b)) bytes = rw t in
      a ∙ talks bytes r s (line ++ (b ∷ [])) (with_more kept b) (kept_more line kept b w)
      ∙ ap (talk_text panel r s) (sym (front_more line b (split lf bytes))) ∙ rw t)

  -- from the line START on
  started_all : (a : Answer) (script : List ℕ) → start_text a ++ all (desk_started panel a) script ≡ whole_text panel a script
  unfolding desk_started whole_text last_said
  started_all a script =
      by (eqb a.no 0)
      (λ t. let q = split_cons lf script in
      let i = talks script (file_rig a) (R.start (file_rig a)) [] [] (inl refl) ∙ ap (talk_text panel (file_rig a) (R.start (file_rig a))) (front_none (split lf script) q.0 q.1 q.2) in
      ap (λ (l : List ℕ). start_text a ++ l)
      (ap (λ (d : Desk). all d script) (if_yes over t refl) ∙ i ∙ sym (if_yes [] t refl)))
      (λ t. ap (λ (l : List ℕ). start_text a ++ l)
      (ap (λ (d : Desk). all d script) (if_no (talking panel (file_rig a) (R.start (file_rig a)) []) t refl)
      ∙ (λ j. over_said script j ++ last_said (over_after script j))
      ∙ sym (if_no (talk_text panel (file_rig a) (R.start (file_rig a)) (split lf script)) t refl)))

  -- ---- the rig's text

  -- a piece within the rig's text
  pub opening_waits : (bytes text : List ℕ) (from : ℕ) (t : List ℕ) (f : ℕ) → scanned text from bytes ≡ waits t f
      → (said (opening panel text from) bytes ≡ []) × (desk_after (opening panel text from) bytes ≡ opening panel t f)
  unfolding scanned said desk_after next says
  opening_waits [] text from t f e =
      let x : text ≡ t = cc in
      let y : from ≡ f = cc in
      (refl, λ i. opening panel (x i) (y i))
  opening_waits (b ∷ bytes) text from t f e = go (λ u g q. opening_waits bytes u g t f q) (with_byte text from b) e
    where
      go : ((u : List ℕ) (g : ℕ) → scanned u g bytes ≡ waits t f → (said (opening panel u g) bytes ≡ []) × (desk_after (opening panel u g) bytes ≡ opening panel t f))
          → (o : Opening) → onward o (λ u g. scanned u g bytes) bytes ≡ waits t f
          → (opened_text o ++ said (opened panel o) bytes ≡ []) × (desk_after (opened panel o) bytes ≡ opening panel t f)
      go ih (still u g) e = ih u g e
      go ih (whole u) e = absurd (let z : ◌≡◌ {A = ℕ} 0 1 = cc in omega (arith, z))

  -- a piece in which the rig's text ends
  pub opening_opens : (bytes text : List ℕ) (from : ℕ) (rig rest : List ℕ) → scanned text from bytes ≡ opens rig rest
      → (said (opening panel text from) bytes ≡ start_text (read_of rig) ++ said (desk_started panel (read_of rig)) rest)
      × (desk_after (opening panel text from) bytes ≡ desk_after (desk_started panel (read_of rig)) rest)
  unfolding scanned said desk_after next says
  opening_opens [] text from rig rest e = absurd (let z : ◌≡◌ {A = ℕ} 0 1 = cc in omega (arith, z))
  opening_opens (b ∷ bytes) text from rig rest e = go (λ u g q. opening_opens bytes u g rig rest q) (with_byte text from b) e
    where
      go : ((u : List ℕ) (g : ℕ) → scanned u g bytes ≡ opens rig rest
          → (said (opening panel u g) bytes ≡ start_text (read_of rig) ++ said (desk_started panel (read_of rig)) rest)
          × (desk_after (opening panel u g) bytes ≡ desk_after (desk_started panel (read_of rig)) rest))
          → (o : Opening) → onward o (λ u g. scanned u g bytes) bytes ≡ opens rig rest
          → (opened_text o ++ said (opened panel o) bytes ≡ start_text (read_of rig) ++ said (desk_started panel (read_of rig)) rest)
          × (desk_after (opened panel o) bytes ≡ desk_after (desk_started panel (read_of rig)) rest)
      go ih (still u g) e = ih u g e
      go ih (whole u) e =
          let x : u ≡ rig = cc in
          let y : bytes ≡ rest = cc in
          ((λ i. start_text (read_of (x i)) ++ said (desk_started panel (read_of (x i))) (y i)), λ i. desk_after (desk_started panel (read_of (x i))) (y i))

  -- the scan's parts of an input make its morning
  refused_whole : (script other : List ℕ) → whole_text panel (file_refused 2 0 0) script ≡ whole_text panel (file_refused 2 0 0) other
  unfolding whole_text
  refused_whole script other = refl

  parts_whole : (input rig script : List ℕ) → Parts input rig script → whole_text panel (read_of rig) script ≡ morning_text panel input
  unfolding morning_text
  parts_whole input rig script p =
      ⊎_elim
      (λ w. λ i. whole_text panel (read_of (w.0 i)) (w.1 i))
      (λ w. ap (λ (a : Answer). whole_text panel a script) (read_too_long rig w.0)
      ∙ refused_whole script (drop (rig_end input + run_line) input)
      ∙ sym (ap (λ (a : Answer). whole_text panel a (drop (rig_end input + run_line) input)) (read_too_long (take (rig_end input) input) w.1)))
      p

  -- an input that is all rig
  rig_only : (input : List ℕ) → rig_end input ≡ length input → start_text (read_of input) ≡ morning_text panel input
  unfolding morning_text whole_text split talk_text last_text
  rig_only input e =
      let t : take (rig_end input) input ≡ input = ap (λ (n : ℕ). take n input) e ∙ take-length input in
      let d : drop (rig_end input + run_line) input ≡ [] = drop_of_length-le input {i = rig_end input + run_line} (omega arith) in
      let a = read_of input in
      let n : cond (eqb a.no 0) (talk_text panel (file_rig a) (R.start (file_rig a)) (split lf [])) [] ≡ [] =
      by (eqb a.no 0) (λ t. if_yes [] t refl) (λ t. if_no (talk_text panel (file_rig a) (R.start (file_rig a)) (split lf [])) t refl) in
      sym (append-nil (start_text a)) ∙ ap (λ (l : List ℕ). start_text a ++ l) (sym n)
      ∙ (λ i. whole_text panel (read_of (sym t i)) (sym d i))

  opening_all : (bytes text : List ℕ) (from : ℕ) → Goes text from → all (opening panel text from) bytes ≡ morning_text panel (text ++ bytes)
  unfolding last_said
  opening_all bytes text from g = go (scanned text from bytes) refl
    where
      go : (o : Scanned) → scanned text from bytes ≡ o → all (opening panel text from) bytes ≡ morning_text panel (text ++ bytes)
      go (waits t f) e =
          let w = opening_waits bytes text from t f e in
          let v = scan_waits bytes text from g t f e in
          (λ i. w.0 i ++ last_said (w.1 i)) ∙ rig_only t (goes_all t f v.0) ∙ ap (morning_text panel) v.1
      go (opens rig rest) e =
          let w = opening_opens bytes text from rig rest e in
          let p : Parts (text ++ (bytes ++ [])) rig (rest ++ []) = scan_parts bytes text from g rig rest e [] in
          let q : Parts (text ++ bytes) rig rest =
          subst (λ (l : List ℕ). Parts (text ++ bytes) rig l) (append-nil rest) (subst (λ (l : List ℕ). Parts (text ++ l) rig (rest ++ [])) (append-nil bytes) p) in
          (λ i. w.0 i ++ last_said (w.1 i))
          ∙ append_assoc (start_text (read_of rig)) (said (desk_started panel (read_of rig)) rest) (last_said (desk_after (desk_started panel (read_of rig)) rest))
          ∙ started_all (read_of rig) rest ∙ parts_whole (text ++ bytes) rig rest q

  pub whole_morning : (input : List ℕ) → all (begun panel) input ≡ morning_text panel input
  whole_morning input = opening_all input [] 0 goes_none
