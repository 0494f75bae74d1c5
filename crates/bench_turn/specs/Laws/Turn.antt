-- Laws of a turn: the call that was made, and its line.
use Rattle.std.specs.Prelude.{◌≡◌, refl, ◌≢◌, List, [], ℕ, replicate}
use Rattle.std.proofs.Common.{sym, ap, ◌∙◌, subst, ⊎_elim, arith}
use Rattle.exec.specs.Call.{bit, answer_of, ProperAnswer, refuse, Meets}
use Rattle.exec.specs.Call.{with_state}
use Rattle.exec_refusals.specs.Numbers.{not_sound_no}
use Rattle.exec.specs.declared.Exec.{Exec}
use Rattle.exec.specs.declared.Step.{Step}
use Rattle.exec.specs.declared.Answer.{Answer}
use Rattle.exec.specs.declared.Answer.TheVariants.{Accepted, Refused}
use Rattle.bench_script.specs.Letters.{question, tick_verb}
use Rattle.bench_script.specs.Output.{wrong_text}
use Rattle.put_text.specs.Wrote.{Wrote}
use Rattle.put_text.specs.Laws.Wrote.{wrote_as}
use Rattle.bench_show.specs.Shown.{words_lent}
use Rattle.bench_show.proofs.Laws.Shown.{text_other}
use Rattle.bench_script.specs.declared.Said.{Said}
use Rattle.bench_script.specs.declared.Said.TheVariants.{Schedule, Cancel, Terminate, Finish, Tick, Until, Cycles, Latched, Unlatched, Signal, Ask, NextWaking, Overruns, WhyNot, Wrong}
use Rattle.bench_turn.specs.Turn.{letter_of, asked_by, answer_text, Answered, Takes}
use Rattle.rules.specs.Calls as R

-- "any other script line is refused by 1"
abbrev pub wrong_shape : ℕ
wrong_shape = 1

-- the call that a line asks for was made; only a tick writes to the words that it is lent
abbrev pub Made : Exec → Said → List ℕ → Step → List ℕ → Type 0
Made e (Schedule t) before s after = Meets e (R.schedule t) s []
Made e (Cancel t) before s after = Meets e (R.cancel t) s []
Made e (Terminate t) before s after = Meets e (R.terminate t) s []
Made e Finish before s after = Meets e R.finish s []
Made e Tick before s after = Meets e (R.tick before) s after
Made e (Until t) before s after = Meets e (R.wait_until t) s []
Made e (Cycles n) before s after = Meets e (R.wait_for n) s []
Made e (Latched f v) before s after = Meets e (R.latched f (bit v)) s []
Made e (Unlatched f v) before s after = Meets e (R.unlatched f (bit v)) s []
Made e (Signal f v) before s after = Meets e (R.signal f (bit v)) s []
Made e (Ask f) before s after = Meets e (R.read_flag f) s []
Made e NextWaking before s after = Meets e R.next_waking s []
Made e (Overruns t) before s after = Meets e (R.read_overruns t) s []
Made e (WhyNot t d) before s after = Meets e (R.why_not t d) s []
Made e Wrong before s after = s ≡ refuse e wrong_shape

-- no call changes the rig or its cycles
kept : (e : Exec) (k : R.Call) (s : Step) (ws : List ℕ) → Meets e k s ws → s.exec ≡ with_state e s.exec.st
kept e k s ws m =
    ⊎_elim
    (λ w. λ i. record { rig = w.1.rig i; cycles = w.1.cycles i; st = s.exec.st })
    (λ w. let q : s.exec ≡ e = w.1.exec in q ∙ ap (λ (x : Exec). with_state e x.st) (sym q))
    m.is

-- the line of a call
module _ (e : Exec) (s : Step) (ws out : List ℕ) (at p : ℕ) (after : List ℕ) where
  lending_none : (verb : ℕ) (k : R.Call) → verb ≢ tick_verb → Meets e k s [] → Wrote out at (answer_text verb s ws) after p
      → Answered e verb k out at (record { st = s.exec.st; at = p }) after
  lending_none verb k n m w =
      record {
        step = s;
        words = [];
        meets = m;
        exec = kept e k s [] m;
        wrote =
            wrote_as out after (answer_text verb s ws) (answer_text verb s []) at p
            (text_other verb (answer_of s.answer) s.exec.st.count s.exec.st.running ws [] n) w;
      }

  pub answered : (said : Said) → letter_of said ≢ question → Made e said (replicate words_lent 0) s ws → Wrote out at (answer_text (letter_of said) s ws) after p
      → Takes e (letter_of said) (asked_by said) out at (record { st = s.exec.st; at = p }) after
  unfolding asked_by
  answered (Schedule t) n m w = lending_none 83 (R.schedule t) (λ q. omega arith) m w
  answered (Cancel t) n m w = lending_none 88 (R.cancel t) (λ q. omega arith) m w
  answered (Terminate t) n m w = lending_none 90 (R.terminate t) (λ q. omega arith) m w
  answered Finish n m w = lending_none 70 R.finish (λ q. omega arith) m w
  answered Tick n m w = record { step = s; words = ws; meets = m; exec = kept e (R.tick (replicate words_lent 0)) s ws m; wrote = w }
  answered (Until t) n m w = lending_none 85 (R.wait_until t) (λ q. omega arith) m w
  answered (Cycles k) n m w = lending_none 82 (R.wait_for k) (λ q. omega arith) m w
  answered (Latched f v) n m w = lending_none 76 (R.latched f (bit v)) (λ q. omega arith) m w
  answered (Unlatched f v) n m w = lending_none 78 (R.unlatched f (bit v)) (λ q. omega arith) m w
  answered (Signal f v) n m w = lending_none 71 (R.signal f (bit v)) (λ q. omega arith) m w
  answered (Ask f) n m w = lending_none 81 (R.read_flag f) (λ q. omega arith) m w
  answered NextWaking n m w = lending_none 86 R.next_waking (λ q. omega arith) m w
  answered (Overruns t) n m w = lending_none 79 (R.read_overruns t) (λ q. omega arith) m w
  answered (WhyNot t d) n m w = lending_none 89 (R.why_not t d) (λ q. omega arith) m w
  answered Wrong n m w = absurd (n refl)

-- the line that is none
pub unasked : (e : Exec) (said : Said) (out : List ℕ) (at p : ℕ) (after : List ℕ) → letter_of said ≡ question → Wrote out at wrong_text after p
    → Takes e (letter_of said) (asked_by said) out at (record { st = e.st; at = p }) after
unfolding asked_by
unasked e (Schedule t) out at p after q w = absurd (omega (arith, q))
unasked e (Cancel t) out at p after q w = absurd (omega (arith, q))
unasked e (Terminate t) out at p after q w = absurd (omega (arith, q))
unasked e Finish out at p after q w = absurd (omega (arith, q))
unasked e Tick out at p after q w = absurd (omega (arith, q))
unasked e (Until t) out at p after q w = absurd (omega (arith, q))
unasked e (Cycles n) out at p after q w = absurd (omega (arith, q))
unasked e (Latched f v) out at p after q w = absurd (omega (arith, q))
unasked e (Unlatched f v) out at p after q w = absurd (omega (arith, q))
unasked e (Signal f v) out at p after q w = absurd (omega (arith, q))
unasked e (Ask f) out at p after q w = absurd (omega (arith, q))
unasked e NextWaking out at p after q w = absurd (omega (arith, q))
unasked e (Overruns t) out at p after q w = absurd (omega (arith, q))
unasked e (WhyNot t d) out at p after q w = absurd (omega (arith, q))
unasked e Wrong out at p after q w = record { state = refl; wrote = w }

-- an answer of a refusal's number is proper
number_proper : (a : Answer) (n : ℕ) → (answer_of a).code ≡ n → n ≢ 0 → ProperAnswer a
number_proper (Accepted p) n e z = tt
number_proper (Refused m) n e z = λ q. z (sym e ∙ q)

-- what a call that was made answers is proper
meets_proper : (e : Exec) (k : R.Call) (s : Step) (ws : List ℕ) → Meets e k s ws → ProperAnswer s.answer
meets_proper e k s ws m =
    ⊎_elim
    (λ w. w.1.proper)
    (λ w. number_proper s.answer not_sound_no (ap (λ (a : R.Answer). a.code) w.1.answer) (λ q. omega (arith, q)))
    m.is

pub made_proper : (e : Exec) (said : Said) (ws : List ℕ) (s : Step) (vs : List ℕ) → Made e said ws s vs → ProperAnswer s.answer
made_proper e (Schedule t) ws s vs m = meets_proper e (R.schedule t) s [] m
made_proper e (Cancel t) ws s vs m = meets_proper e (R.cancel t) s [] m
made_proper e (Terminate t) ws s vs m = meets_proper e (R.terminate t) s [] m
made_proper e Finish ws s vs m = meets_proper e R.finish s [] m
made_proper e Tick ws s vs m = meets_proper e (R.tick ws) s vs m
made_proper e (Until t) ws s vs m = meets_proper e (R.wait_until t) s [] m
made_proper e (Cycles n) ws s vs m = meets_proper e (R.wait_for n) s [] m
made_proper e (Latched f v) ws s vs m = meets_proper e (R.latched f (bit v)) s [] m
made_proper e (Unlatched f v) ws s vs m = meets_proper e (R.unlatched f (bit v)) s [] m
made_proper e (Signal f v) ws s vs m = meets_proper e (R.signal f (bit v)) s [] m
made_proper e (Ask f) ws s vs m = meets_proper e (R.read_flag f) s [] m
made_proper e NextWaking ws s vs m = meets_proper e R.next_waking s [] m
made_proper e (Overruns t) ws s vs m = meets_proper e (R.read_overruns t) s [] m
made_proper e (WhyNot t d) ws s vs m = meets_proper e (R.why_not t d) s [] m
made_proper e Wrong ws s vs m = subst (λ (x : Step). ProperAnswer x.answer) (sym m) (λ q. omega (arith, q))

-- no line changes the rig or its cycles
pub made_kept : (e : Exec) (said : Said) (ws : List ℕ) (s : Step) (vs : List ℕ) → Made e said ws s vs → s.exec ≡ with_state e s.exec.st
made_kept e (Schedule t) ws s vs m = kept e (R.schedule t) s [] m
made_kept e (Cancel t) ws s vs m = kept e (R.cancel t) s [] m
made_kept e (Terminate t) ws s vs m = kept e (R.terminate t) s [] m
made_kept e Finish ws s vs m = kept e R.finish s [] m
made_kept e Tick ws s vs m = kept e (R.tick ws) s vs m
made_kept e (Until t) ws s vs m = kept e (R.wait_until t) s [] m
made_kept e (Cycles n) ws s vs m = kept e (R.wait_for n) s [] m
made_kept e (Latched f v) ws s vs m = kept e (R.latched f (bit v)) s [] m
made_kept e (Unlatched f v) ws s vs m = kept e (R.unlatched f (bit v)) s [] m
made_kept e (Signal f v) ws s vs m = kept e (R.signal f (bit v)) s [] m
made_kept e (Ask f) ws s vs m = kept e (R.read_flag f) s [] m
made_kept e NextWaking ws s vs m = kept e R.next_waking s [] m
made_kept e (Overruns t) ws s vs m = kept e (R.read_overruns t) s [] m
made_kept e (WhyNot t d) ws s vs m = kept e (R.why_not t d) s [] m
made_kept e Wrong ws s vs m = let q : s.exec ≡ e = ap (λ (x : Step). x.exec) m in q ∙ ap (λ (x : Exec). with_state e x.st) (sym q)
