-- Laws: a feed put together from its parts.
use Rattle.std.specs.Prelude.{ℕ, ◌+◌, ◌-◌, ◌≤◌, ◌<◌, ◌≡◌, refl, ◌⊎◌, ltb, length, take, drop}
use Rattle.std.proofs.Common.{sym, ap, ◌∙◌, subst, inl, inr, ⊎_elim, arith, length-append, length-drop, take-add, ltb-true, ltb-false}
use mathlib.Core.List.{List, [], ◌++◌, append-nil}
use Rattle.laws.specs.Cases.{by}
use Rattle.bench_script.specs.Output.{turn_room}
use Rattle.put_text.specs.Wrote.{Wrote}
use Rattle.put_text.specs.Laws.Wrote.{wrote_then, wrote_as, wrote_none, wrote_fits}
use Rattle.rig_meaning.proofs.Reading.{read_of}
use Rattle.bench_input.specs.Line.{last_text}
use Rattle.bench_morning.specs.Morning.{start_text}
use Rattle.bench_morning.specs.Desk.{Desk, over, desk_after, said, last_said}
use Rattle.bench_morning.specs.Laws.Desk.{after_append, said_append, over_after, over_said}
use Rattle.bench_morning.specs.Stream.{desk_by, desk_of, HoldsBy}
use Rattle.bench_stream.specs.Feeding.{Moves}
use Rattle.bench_morning.specs.Laws.Steps.{Begins, Opens}
use Rattle.bench_talk.specs.Talks.{Talks}
use Rattle.bench_talk.specs.Laws.Talk.{at_line}
use Rattle.bench_morning.specs.declared.Stream.{Stream}
use Rattle.bench_morning.specs.declared.Fed.{Fed}
use Rattle.bench_morning.specs.declared.Phase.{Phase}
use Rattle.bench_morning.specs.declared.Phase.TheVariants as P
use Rattle.bench_morning.specs.declared.Started as Line

module _ (s : Stream) (keep piece out : List ℕ) (room : turn_room ≤ length out) (o : Fed) (kept mid : List ℕ) (w : Opens s keep piece out o kept mid) where
  -- before the line START nothing is said
  early : (k : ℕ) → k < o.took → length (said (desk_of s keep) (take k piece)) + turn_room ≤ length out
  early k l = let e = ap length (w.quiet k l) in omega arith

  -- no room is left behind it
  pub feed_short : length mid < o.wrote + turn_room → Moves s keep piece out o kept mid
  feed_short h =
      record {
        desk = w.desk;
        wrote = w.wrote;
        took = w.took;
        roomy = early;
        stop = inr (let z = w.wrote.size in omega arith);
        holds = w.holds;
        size = w.size;
      }

  -- the rig's text goes on
  pub feed_opening : o.stream.phase ≡ P.Opening → Moves s keep piece out o kept mid
  feed_opening p =
      record {
        desk = w.desk;
        wrote = w.wrote;
        took = w.took;
        roomy = early;
        stop = inl (w.stays p);
        holds = w.holds;
        size = w.size;
      }

  -- bytes behind those that were taken
  past : (n : ℕ) → take (o.took + n) piece ≡ take o.took piece ++ take n (drop o.took piece)
  past n = take-add o.took n piece

  past_desk : (n : ℕ) → desk_after (desk_of s keep) (take (o.took + n) piece) ≡ desk_after (desk_of o.stream kept) (take n (drop o.took piece))
  past_desk n =
      ap (desk_after (desk_of s keep)) (past n) ∙ after_append (desk_of s keep) (take o.took piece) (take n (drop o.took piece))
      ∙ ap (λ (d : Desk). desk_after d (take n (drop o.took piece))) (sym w.desk)

  past_text : (n : ℕ) → said (desk_of s keep) (take (o.took + n) piece)
      ≡ said (desk_of s keep) (take o.took piece) ++ said (desk_of o.stream kept) (take n (drop o.took piece))
  past_text n =
      ap (said (desk_of s keep)) (past n) ∙ said_append (desk_of s keep) (take o.took piece) (take n (drop o.took piece))
      ∙ ap (λ (d : Desk). said (desk_of s keep) (take o.took piece) ++ said d (take n (drop o.took piece))) (sym w.desk)

  -- how much is said behind them
  past_length : (n : ℕ) → length (said (desk_of s keep) (take (o.took + n) piece))
      ≡ o.wrote + length (said (desk_of o.stream kept) (take n (drop o.took piece)))
  past_length n =
      let a = ap length (past_text n) in
      let b = length-append (said (desk_of s keep) (take o.took piece)) (said (desk_of o.stream kept) (take n (drop o.took piece))) in
      let c = w.wrote.place in
      omega arith

  -- room at every byte, early and late
  always : (n : ℕ) → ((k : ℕ) → k < n → o.wrote + length (said (desk_of o.stream kept) (take k (drop o.took piece))) + turn_room ≤ length out)
      → (k : ℕ) → k < o.took + n → length (said (desk_of s keep) (take k piece)) + turn_room ≤ length out
  always n h k l =
      by (ltb k o.took)
      (λ t. early k (ltb-true k o.took t))
      (λ t. let u = ltb-false k o.took t in
      let q : k ≡ o.took + (k - o.took) = omega arith in
      let a = past_length (k - o.took) in
      let b = h (k - o.took) (omega arith) in
      let c : length (said (desk_of s keep) (take k piece)) ≡ length (said (desk_of s keep) (take (o.took + (k - o.took)) piece)) =
      ap (λ (m : ℕ). length (said (desk_of s keep) (take m piece))) q in
      omega arith)

  -- the script
  module _ (p : o.stream.phase ≡ P.Talking) (fits : o.wrote ≤ length mid) (t : Fed) (written : List ℕ) (u : Talks o.stream (drop o.took piece) mid o.wrote t written) where
    line_here : desk_of o.stream kept ≡ at_line o.stream.panel o.stream.exec (take o.stream.held o.stream.line)
    line_here = ap (λ (x : Phase). desk_by x o.stream kept) p

    line_there : desk_of t.stream kept ≡ at_line t.stream.panel t.stream.exec (take t.stream.held t.stream.line)
    line_there = ap (λ (x : Phase). desk_by x t.stream kept) u.phase

    pub feed_talking : Moves s keep piece out (record { stream = t.stream; took = o.took + t.took; wrote = t.wrote }) kept written
    feed_talking =
        let bytes = take t.took (drop o.took piece) in
        let text = said (desk_of o.stream kept) bytes in
        let same : Wrote mid o.wrote text written t.wrote =
        wrote_as mid written (said (at_line o.stream.panel o.stream.exec (take o.stream.held o.stream.line)) bytes) text o.wrote t.wrote
        (ap (λ (d : Desk). said d bytes) (sym line_here)) u.wrote in
        let f = wrote_fits mid o.wrote text written t.wrote fits same in
        let z = w.wrote.size in
        let y = w.wrote.place in
        let x = length-drop o.took piece in
        let k = w.took in
        let l = u.took in
        record {
          desk = line_there ∙ u.desk ∙ ap (λ (d : Desk). desk_after d bytes) (sym line_here) ∙ sym (past_desk t.took);
          wrote =
              wrote_as out written (said (desk_of s keep) (take o.took piece) ++ text) (said (desk_of s keep) (take (o.took + t.took) piece)) 0 t.wrote
              (sym (past_text t.took))
              (wrote_then out mid written (said (desk_of s keep) (take o.took piece)) text 0 o.wrote t.wrote (omega arith) w.wrote same);
          took = omega arith;
          roomy =
              always t.took
              (λ i h. let a = u.roomy i h in
              let b = ap (λ (d : Desk). length (said d (take i (drop o.took piece)))) line_here in
              omega arith);
          stop = ⊎_elim (λ e. inl (omega (arith, e, x, k))) (λ e. inr (omega (arith, e, z))) u.stop;
          holds = subst (λ (x : Phase). HoldsBy x t.stream (length kept)) (sym u.phase) (u.held, u.sound);
          size = w.size;
        }

  -- behind a refused rig
  module _ (p : o.stream.phase ≡ P.Over) (fits : o.wrote + turn_room ≤ length mid) where
    over_here : desk_of o.stream kept ≡ over
    over_here = ap (λ (x : Phase). desk_by x o.stream kept) p

    silent : (n : ℕ) → said (desk_of o.stream kept) (take n (drop o.took piece)) ≡ []
    silent n = ap (λ (d : Desk). said d (take n (drop o.took piece))) over_here ∙ over_said (take n (drop o.took piece))

    pub feed_over : Moves s keep piece out (record { stream = o.stream; took = length piece; wrote = o.wrote }) kept mid
    feed_over =
        let n = length piece - o.took in
        let k = w.took in
        let z = w.wrote.size in
        let q : length piece ≡ o.took + n = omega arith in
        record {
          desk =
              over_here
              ∙ sym (ap (λ (m : ℕ). desk_after (desk_of s keep) (take m piece)) q ∙ past_desk n ∙ ap (λ (d : Desk). desk_after d (take n (drop o.took piece))) over_here ∙ over_after (take n (drop o.took piece)));
          wrote =
              wrote_as out mid (said (desk_of s keep) (take o.took piece)) (said (desk_of s keep) (take (length piece) piece)) 0 o.wrote
              (sym (ap (λ (m : ℕ). said (desk_of s keep) (take m piece)) q ∙ past_text n
              ∙ ap (λ (l : List ℕ). said (desk_of s keep) (take o.took piece) ++ l) (silent n) ∙ append-nil (said (desk_of s keep) (take o.took piece))))
              w.wrote;
          took = omega arith;
          roomy =
              λ i h.
              always n (λ j l. let a = ap length (silent j) in omega arith) i (omega arith);
          stop = inl refl;
          holds = w.holds;
          size = w.size;
        }

-- ---- the end of the input

module _ (s : Stream) (keep out : List ℕ) where
  pub end_opening : s.phase ≡ P.Opening → (r : Line.Started) (written : List ℕ) → Begins s.panel (take s.at keep) out r written
      → Wrote out 0 (last_said (desk_of s keep)) written r.wrote
  unfolding last_said
  end_opening p r written w =
      wrote_as out written (start_text (read_of (take s.at keep))) (last_said (desk_of s keep)) 0 r.wrote
      (sym (ap (λ (x : Phase). last_said (desk_by x s keep)) p)) w.wrote

  pub end_talking : s.phase ≡ P.Talking → (n : ℕ) (written : List ℕ) → Wrote out 0 (last_text (take s.held s.line)) written n
      → Wrote out 0 (last_said (desk_of s keep)) written n
  unfolding last_said
  end_talking p n written w =
      wrote_as out written (last_text (take s.held s.line)) (last_said (desk_of s keep)) 0 n (sym (ap (λ (x : Phase). last_said (desk_by x s keep)) p)) w

  pub end_over : s.phase ≡ P.Over → Wrote out 0 (last_said (desk_of s keep)) out 0
  unfolding last_said
  end_over p = wrote_as out out [] (last_said (desk_of s keep)) 0 0 (sym (ap (λ (x : Phase). last_said (desk_by x s keep)) p)) (wrote_none out 0)
