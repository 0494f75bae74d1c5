-- A RECORD FOR EVERY SOUND STATE: what start and every call owe can always be met, and by no other record (Unique, exec). So the
-- statements about them are not empty: a right rig has an accepted start, and from it every run of calls has its steps.
use Rattle.std.specs.Prelude.{◌≡◌, cond, ℕ, zero, suc, ◌<◌, length, get_or, drop}
use Rattle.std.proofs.Math.Path.{refl, sym, ap, fun_ext}
use Rattle.std.proofs.Common.{◌∙◌, subst, inl, inr, true≢false, arith}
use mathlib.Core.List.{List, [], ◌∷◌}
use Rattle.laws.specs.Cases.{by}
use Rattle.laws.specs.Members.{In}
use Rattle.chains.specs.Read.{chains_of, inside}
use Rattle.chains.specs.Laws.Read.{inside_low, inside_high, inside_is}
use Rattle.rig.specs.Rules.{Right}
use Rattle.rig_whole.specs.Tests.{right_b}
use Rattle.rig_whole.specs.Laws.Whole.{right_is}
use Rattle.rig.specs.Forms.{cycles_of}
use Rattle.rig.specs.declared.Cycle.{Cycle}
use Rattle.rig.specs.declared.Rig.{Rig}
use Rattle.rules.specs.Rig as G
use Rattle.rules.specs.RigOk.{RigOk}
use Rattle.rules.specs.State as S
use Rattle.rules.specs.State.{Chain}
use Rattle.rules.specs.Soundness as Rules
use Rattle.rules.specs.Proper.{Proper, ProperRun}
use Rattle.rules_laws.specs.Steps.{step_sound, start_sound}
use Rattle.rules.specs.Calls as R
use Rattle.exec_family.specs.Anchors.{anchor_of, name_of, by_name}
use Rattle.exec_family.proofs.Laws.Anchors.{anchor_chain, anchor_low, anchor_high, name_anchor, anchor_name}
use Rattle.exec_state.specs.View.{rig_of}
use Rattle.exec_state.specs.declared.State.{State}
use Rattle.exec.specs.Sound.{rig_in, view, SoundRecord}
use Rattle.exec.specs.Call.{Follows, Meets, answer_of, refuse}
use Rattle.exec.specs.Call as C
use Rattle.exec_sound.specs.Laws.RightRig.{rig_ok}
use Rattle.exec.specs.Starting.{Started, Starts, no_exec, broken_rig}
use Rattle.exec.specs.Laws.Unique.{record_same, meets_same}
use Rattle.exec.specs.declared.Exec.{Exec}
use Rattle.exec.specs.declared.Step.{Step}
use Rattle.exec.specs.declared.Answer.{Answer}
use Rattle.exec.specs.declared.Answer.TheVariants.{Accepted, Refused}
use Rattle.runs.specs.Runs.{Made, MadeOn, Ran, calls_of, AcceptedStart}
use Rattle.witness.specs.Linking.{links_of, Chainable}
use Rattle.witness.proofs.Linked.{linked, linked_read}

-- ---- the record that shows a state, and the answer that says what the rules' answer says

-- the chains by anchor, of those by name
abbrev pub by_anchor : (Chain → List ℕ) → ℕ → List ℕ
by_anchor Z s = cond (inside s) (Z (name_of s)) []

abbrev pub state_of : S.State → State
state_of s =
    record {
      count = s.count;
      value = s.flags;
      cond = s.conds;
      state = s.states;
      wake = s.wakes;
      overruns = s.overruns;
      links = links_of (by_anchor s.chains);
      running = s.running;
    }

abbrev pub record_of : Rig → List Cycle → S.State → Exec
record_of g cycles s = record { rig = g; cycles = cycles; st = state_of s }

abbrev pub answer_by : ℕ → R.Report → Answer
answer_by zero p = Accepted (record { served = p.served; woken = p.woken; activated = p.activated; words = p.words; value = p.value })
answer_by (suc n) p = Refused (suc n)

abbrev pub step_of : Rig → List Cycle → R.Step → Step
step_of g cycles p = record { exec = record_of g cycles p.next; answer = answer_by p.answer.code p.answer.report }

-- the start's step; a call made on the record that shows the state s, and a run of calls from there on
abbrev pub begun_of : Rig → List Cycle → Step
begun_of g cycles =
    record {
      exec = record_of g cycles (R.start (rig_of g cycles));
      answer = answer_by 0 (R.reported (R.started (rig_of g cycles)) 0 0);
    }

abbrev pub made_of : Rig → List Cycle → S.State → R.Call → Made
made_of g cycles s k =
    let p = R.step (rig_of g cycles) s k in
    record { call = k; step = step_of g cycles p; after = p.lent }

abbrev pub run_of : Rig → List Cycle → S.State → List R.Call → List Made
run_of g cycles s [] = []
run_of g cycles s (k ∷ ks) = made_of g cycles s k ∷ run_of g cycles (R.step (rig_of g cycles) s k).next ks

pub calls_of_lem : (g : Rig) (cycles : List Cycle) (s : S.State) (ks : List R.Call) → calls_of (run_of g cycles s ks) ≡ ks
calls_of_lem g cycles s [] = refl
calls_of_lem g cycles s (k ∷ ks) = ap (λ (l : List R.Call). k ∷ l) (calls_of_lem g cycles (R.step (rig_of g cycles) s k).next ks)

by_number : (n : ℕ) (r : G.Rig) (s : S.State) (k : R.Call)
    → answer_of (answer_by (R.after n r s k).answer.code (R.after n r s k).answer.report) ≡ (R.after n r s k).answer
unfolding R.after R.accepted
by_number zero r s k = refl
by_number (suc n) r s k = refl

-- it says what the rules' answer says
pub answer_is : (r : G.Rig) (s : S.State) (k : R.Call)
    → answer_of (answer_by (R.step r s k).answer.code (R.step r s k).answer.report) ≡ (R.step r s k).answer
unfolding R.step
answer_is r s k = by_number (R.refusal r s k) r s k

-- ---- a sound state's chains can be linked

module _ (Z : Chain → List ℕ) where
  -- who is in a chain by anchor is in the one of that name
  there : (t s : ℕ) → In t (by_anchor Z s) → In t (Z (name_of s)) × (64 < s) × (s < 322)
  there t s = by (inside s) (λ e. rw e (λ i. (i, inside_low s e, inside_high s e))) (λ e. rw e (λ i. absurd i))

  -- nobody is in what is no chain
  empty : Rules.Only Z → (c : Chain) → (Rules.IsChain c → ⊥) → Z c ≡ []
  empty o c n = go (Z c) refl
    where
      go : (l : List ℕ) → Z c ≡ l → Z c ≡ []
      go [] e = e
      go (t ∷ ts) e = absurd (n (o t c (subst (In t) (sym e) (inl refl))))

  -- each chain is at its anchor
  at_anchors : Rules.Only Z → by_name (by_anchor Z) ≡ Z
  at_anchors o =
      fun_ext λ c.
      by (inside (anchor_of c))
      (λ e. rw e (ap Z (anchor_name c (anchor_chain c (inside_low (anchor_of c) e)))))
      (λ e. rw e (sym (empty o c (λ k. true≢false (sym (inside_is (anchor_of c) (anchor_low c k) (anchor_high c k)) ∙ e)))))

chainable : (r : G.Rig) → RigOk r → (s : S.State) → Rules.Sound r s → Chainable (by_anchor s.chains)
chainable r ok s h =
    record {
      tasks = λ t a i.
          let e = h.chains.listed.two t (name_of a, (there s.chains t a i).0) in
          let k = h.tasks.within t (λ z. omega (arith, e, z)) in
          (k.0, omega (arith, k.1, ok.tasks_le));
      once = λ a. by (inside a) (λ e. rw e (h.chains.once (name_of a))) (λ e. rw e tt);
      apart = λ t a b i j.
          let k = there s.chains t a i in
          let l = there s.chains t b j in
          sym (name_anchor a k.1 k.2) ∙ ap anchor_of (h.chains.apart t (name_of a) (name_of b) k.0 l.0) ∙ name_anchor b l.1 l.2;
      only = λ t a i. let k = there s.chains t a i in (omega (arith, k.1), omega (arith, k.2));
    }

module _ (g : Rig) (cycles : List Cycle) (right : Right g cycles) where
  -- the record shows the state, and is sound
  pub record_shows : (s : S.State) → Rules.Sound (rig_of g cycles) s → view (record_of g cycles s) ≡ s
  record_shows s h =
      let e : by_name (chains_of (links_of (by_anchor s.chains))) ≡ s.chains =
      ap by_name (linked_read (by_anchor s.chains) (chainable (rig_of g cycles) (rig_ok g cycles right) s h)) ∙ at_anchors s.chains h.chains.only in
      λ i. record {
        count = s.count;
        flags = s.flags;
        conds = s.conds;
        states = s.states;
        wakes = s.wakes;
        overruns = s.overruns;
        chains = e i;
        running = s.running;
      }

  pub record_sound : (s : S.State) → Rules.Sound (rig_of g cycles) s → SoundRecord (record_of g cycles s)
  record_sound s h =
      let k = linked (by_anchor s.chains) (chainable (rig_of g cycles) (rig_ok g cycles right) s h) in
      record {
        rig = right;
        links = (by_anchor s.chains, k.0);
        sized = k.1;
        state = subst (Rules.Sound (rig_of g cycles)) (sym (record_shows s h)) h;
      }

  -- the start gives the record that shows the rules' start
  pub started : Started g cycles (begun_of g cycles)
  started =
      let h = start_sound (rig_of g cycles) (rig_ok g cycles right) in
      record { next = record_shows (R.start (rig_of g cycles)) h; answer = refl; proper = tt; rig = refl; cycles = refl; sound = record_sound (R.start (rig_of g cycles)) h }

  -- ---- a call

  answer_proper : (n : ℕ) (p : R.Report) → C.ProperAnswer (answer_by n p)
  answer_proper zero p = tt
  answer_proper (suc n) p = λ e. omega arith

  follows : (s : S.State) → Rules.Sound (rig_of g cycles) s → (k : R.Call) → Proper k
      → Follows (record_of g cycles s) k (made_of g cycles s k).step (made_of g cycles s k).after
  unfolding R.step
  follows s h k p =
      let q = R.step (rig_of g cycles) s k in
      let e = sym (record_shows s h) in
      let n = step_sound (rig_of g cycles) (rig_ok g cycles right) s h k p in
      record {
        next = record_shows q.next n ∙ ap (λ (v : S.State). (R.step (rig_of g cycles) v k).next) e;
        answer = answer_is (rig_of g cycles) s k ∙ ap (λ (v : S.State). (R.step (rig_of g cycles) v k).answer) e;
        lent = ap (λ (v : S.State). (R.step (rig_of g cycles) v k).lent) e;
        proper = answer_proper q.answer.code q.answer.report;
        rig = refl;
        cycles = refl;
        sound = record_sound q.next n;
      }

  pub made : (s : S.State) → Rules.Sound (rig_of g cycles) s → (k : R.Call) → Proper k → MadeOn (record_of g cycles s) (made_of g cycles s k)
  made s h k p = record { proper = p; meets = record { is = inl (record_sound s h, follows s h k p) } }

  -- ---- a run

  pub ran : (s : S.State) → Rules.Sound (rig_of g cycles) s → (ks : List R.Call) → ProperRun ks
      → Ran (record_of g cycles s) (run_of g cycles s ks) (record_of g cycles (R.run (rig_of g cycles) s ks))
  unfolding R.run
  ran s h [] p = refl
  ran s h (k ∷ ks) p =
      let n = step_sound (rig_of g cycles) (rig_ok g cycles right) s h k p.0 in
      (made s h k p.0, ran (R.step (rig_of g cycles) s k).next n ks p.1)

-- ---- SO THERE IS ALWAYS ONE

-- a right rig has an accepted start
pub start_exists : (g : Rig) (table : List (List ℕ)) → Right g (cycles_of table)
    → AcceptedStart g table (record_of g (cycles_of table) (R.start (rig_of g (cycles_of table))))
start_exists g table right =
    record {
      begun = begun_of g (cycles_of table);
      starts = record { is = inl (right, started g (cycles_of table) right) };
      accepted = refl;
      gave = refl;
    }

-- and start has a result for every rig, right or not
pub start_any : (g : Rig) (table : List (List ℕ)) → (r : Step) × Starts g table r
start_any g table =
    by (right_b g (cycles_of table))
    (λ e. let h = (right_is g (cycles_of table)).0 e in (begun_of g (cycles_of table), record { is = inl (h, started g (cycles_of table) h) }))
    (λ e. (refuse no_exec broken_rig, record { is = inr ((λ h. true≢false (sym ((right_is g (cycles_of table)).1 h) ∙ e)), record { exec = refl; answer = refl }) }))

-- a sound record is the one that shows what it shows
sound_record : (x : Exec) → SoundRecord x → record_of x.rig x.cycles (view x) ≡ x
sound_record x h =
    record_same (record_of x.rig x.cycles (view x)) x (record_sound x.rig x.cycles h.rig (view x) h.state) h refl refl
    (record_shows x.rig x.cycles h.rig (view x) h.state)

-- every call can be made on a sound record
pub call_exists : (x : Exec) → SoundRecord x → (k : R.Call) → Proper k → (m : Made) × (m.call ≡ k) × MadeOn x m
call_exists x h k p =
    let m = made_of x.rig x.cycles (view x) k in
    (m, refl, subst (λ (y : Exec). MadeOn y m) (sound_record x h) (made x.rig x.cycles h.rig (view x) h.state k p))

-- and every run of calls
pub run_exists : (x : Exec) → SoundRecord x → (ks : List R.Call) → ProperRun ks → (ms : List Made) × (y : Exec) × (calls_of ms ≡ ks) × Ran x ms y
run_exists x h ks p =
    let ms = run_of x.rig x.cycles (view x) ks in
    let y = record_of x.rig x.cycles (R.run (rig_in x) (view x) ks) in
    (ms, y, calls_of_lem x.rig x.cycles (view x) ks, subst (λ (z : Exec). Ran z ms y) (sound_record x h) (ran x.rig x.cycles h.rig (view x) h.state ks p))

-- ---- AND ONLY ONE: the calls fix a run, its steps, its answers and its lent words

made_same : (x : Exec) (m n : Made) → MadeOn x m → MadeOn x n → m.call ≡ n.call → m ≡ n
made_same x m n a b e =
    let q = meets_same x m.call m.step n.step m.after n.after a.meets (subst (λ (k : R.Call). Meets x k n.step n.after) (sym e) b.meets) in
    λ i. record { call = e i; step = q.0 i; after = q.1 i }

pub run_same : (x : Exec) (ms ns : List Made) (y z : Exec) → Ran x ms y → Ran x ns z → calls_of ms ≡ calls_of ns → ms ≡ ns
run_same x [] [] y z p q e = refl
run_same x [] (n ∷ ns) y z p q e = absurd (omega (arith, ap length e))
run_same x (m ∷ ms) [] y z p q e = absurd (omega (arith, ap length e))
run_same x (m ∷ ms) (n ∷ ns) y z p q e =
    let f = made_same x m n p.0 q.0 (ap (λ (l : List R.Call). get_or l 0 R.finish) e) in
    let w = subst (λ (v : Made). Ran v.step.exec ns z) (sym f) q.1 in
    let t = run_same m.step.exec ms ns y z p.1 w (ap (drop 1) e) in
    λ i. f i ∷ t i
