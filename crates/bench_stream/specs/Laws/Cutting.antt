-- ANY WAY OF CUTTING THE INPUT GIVES THE SAME OUTPUT: over any run of feeds the pieces written, one after the other, are what
-- the pieces read decide of the morning, and after the end they are all of it.
use Rattle.std.specs.Prelude.{ℕ, ◌+◌, ◌≤◌, ◌<◌, ◌≡◌, refl, ◌⊎◌, Bool, List, [], ◌++◌, ltb, take}
use Rattle.std.proofs.Common.{sym, ◌∙◌, subst, ⊎_elim, append_assoc, append-nil, ltb-true, ltb-false}
use Rattle.std.proofs.Math.Path.{ap}
use native.Mathlib.Omega.{arith}
use Rattle.std.proofs.Math.ListN.{length}
use Rattle.std.proofs.Math.Seq.{take_at}
use Rattle.laws.specs.Cases.{by}
use Rattle.laws.specs.Put.{put}
use Rattle.bench_script.specs.Output.{turn_room}
use Rattle.put_text.specs.Wrote.{Wrote}
use Rattle.put_text.specs.Laws.Wrote.{wrote_same}
use Rattle.bench_input.specs.Opening.{full}
use Rattle.bench_morning.specs.Morning.{morning_text}
use Rattle.bench_morning.specs.Desk.{Desk, begun, desk_after, said, last_said}
use Rattle.bench_morning.specs.Laws.Desk.{after_append, said_append}
use Rattle.bench_morning.specs.Laws.Whole.{whole_morning}
use Rattle.bench_morning.specs.Stream.{desk_of, HoldsIn, beginning}
use Rattle.bench_stream.specs.Feeding.{Moves, Feeds, Ends}
use Rattle.bench_stream.specs.Laws.Fits.{ready_takes}
use Rattle.bench_morning.specs.declared.Stream.{Stream}
use Rattle.bench_morning.specs.declared.Fed.{Fed}

-- with the panel's verbs on or off
module _ (panel : Bool) where
  -- a run of feeds from the beginning: the bytes read, the bytes written, the stream and its buffer then. Pieces and rooms are any.
  pub data Run : List ℕ → List ℕ → Stream → List ℕ → Type 0 where
    begins : (keep : List ℕ) → full ≤ length keep → Run [] [] (beginning panel) keep
    feeds : (read written : List ℕ) (s : Stream) (keep : List ℕ) → Run read written s keep
        → (piece out : List ℕ) (r : Fed) (kept front : List ℕ) → Feeds s keep piece out r kept front
        → Run (read ++ take r.took piece) (written ++ take r.wrote front) r.stream kept

  -- what holds of a stream after any run
  pub record Streams (read written : List ℕ) (s : Stream) (keep : List ℕ) : Type 0 where
    pub desk : desk_of s keep ≡ desk_after (begun panel) read
    pub text : written ≡ said (begun panel) read
    pub holds : HoldsIn s (length keep)

  -- what was written stands at the front
  pub wrote_front : (out t m : List ℕ) (n : ℕ) → Wrote out 0 t m n → take n m ≡ t
  unfolding put
  wrote_front out t m n w =
      let p : length t ≡ n = let e = w.place in omega arith in
      ap (take n) w.text ∙ take_at t _ n p

  streams_begin : (keep : List ℕ) → full ≤ length keep → Streams [] [] (beginning panel) keep
  unfolding desk_after said
  streams_begin keep h = record { desk = refl; text = refl; holds = (h, omega arith, omega arith) }

  streams_feed : (read written : List ℕ) (s : Stream) (keep : List ℕ) → Streams read written s keep
      → (piece out : List ℕ) (r : Fed) (kept front : List ℕ) → Feeds s keep piece out r kept front
      → Streams (read ++ take r.took piece) (written ++ take r.wrote front) r.stream kept
  streams_feed read written s keep w piece out r kept front f =
      ⊎_elim
      (λ p. let m = p.1 in
      let t = take r.took piece in
      record {
        desk = m.desk ∙ ap (λ (d : Desk). desk_after d t) w.desk ∙ sym (after_append (begun panel) read t);
        text =
            (λ i. w.text i ++ wrote_front out (said (desk_of s keep) t) front r.wrote m.wrote i)
            ∙ ap (λ (d : Desk). said (begun panel) read ++ said d t) w.desk ∙ sym (said_append (begun panel) read t);
        holds = m.holds;
      })
      (λ p. let n : r.took ≡ 0 = ap (λ (x : Fed). x.took) p.1 in
      let z : r.wrote ≡ 0 = ap (λ (x : Fed). x.wrote) p.1 in
      let a : read ≡ read ++ take r.took piece = sym (ap (λ (k : ℕ). read ++ take k piece) n ∙ append-nil read) in
      let b : written ≡ written ++ take r.wrote front = sym (ap (λ (k : ℕ). written ++ take k front) z ∙ append-nil written) in
      let c : s ≡ r.stream = sym (ap (λ (x : Fed). x.stream) p.1) in
      subst (λ (x : List ℕ). Streams x (written ++ take r.wrote front) r.stream kept) a
      (subst (λ (x : List ℕ). Streams read x r.stream kept) b
      (subst (λ (x : Stream). Streams read written x kept) c (subst (Streams read written s) (sym p.2) w))))
      f.is

  pub run_streams : (read written : List ℕ) (s : Stream) (keep : List ℕ) → Run read written s keep → Streams read written s keep
  run_streams _ _ _ _ (begins keep h) = streams_begin keep h
  run_streams _ _ _ _ (feeds read written s keep u piece out r kept front f) =
      streams_feed read written s keep (run_streams read written s keep u) piece out r kept front f

  -- THE PROMISE, at the end: all of the morning
  pub ended_whole : (read written : List ℕ) (s : Stream) (keep : List ℕ) → Run read written s keep
      → (out : List ℕ) (n : ℕ) (front : List ℕ) → turn_room ≤ length out → Ends s keep out n front
      → written ++ take n front ≡ morning_text panel read
  ended_whole read written s keep u out n front h e =
      let w = run_streams read written s keep u in
      ⊎_elim
      (λ p. (λ i. w.text i ++ wrote_front out (last_said (desk_of s keep)) front n p.1 i)
      ∙ ap (λ (d : Desk). said (begun panel) read ++ last_said d) w.desk ∙ whole_morning panel read)
      (λ p. absurd (p.0 (record { room = h; holds = w.holds })))
      e.is

  -- and before it: what was written begins the morning, however the input goes on
  pub so_far : (read written : List ℕ) (s : Stream) (keep : List ℕ) → Run read written s keep
      → (rest : List ℕ) → morning_text panel (read ++ rest) ≡ written ++ (said (desk_of s keep) rest ++ last_said (desk_after (desk_of s keep) rest))
  so_far read written s keep u rest =
      let w = run_streams read written s keep u in
      sym (whole_morning panel (read ++ rest))
      ∙ (λ i. said_append (begun panel) read rest i ++ last_said (after_append (begun panel) read rest i))
      ∙ append_assoc (said (begun panel) read) (said (desk_after (begun panel) read) rest) (last_said (desk_after (desk_after (begun panel) read) rest))
      ∙ (λ i. sym w.text i ++ (said (sym w.desk i) rest ++ last_said (desk_after (sym w.desk i) rest)))

  -- TWO WAYS OF CUTTING the same bytes write the same
  pub same_output : (read a b : List ℕ) (s t : Stream) (keep kept : List ℕ) → Run read a s keep → Run read b t kept → a ≡ b
  same_output read a b s t keep kept u v = (run_streams read a s keep u).text ∙ sym (run_streams read b t kept v).text

  -- A feed with room for a turn takes a byte at least: whoever feeds what is left comes to the end
  pub takes_some : (read written : List ℕ) (s : Stream) (keep : List ℕ) → Run read written s keep
      → (piece out : List ℕ) (r : Fed) (kept front : List ℕ) → turn_room ≤ length out → 0 < length piece → Feeds s keep piece out r kept front
      → 0 < r.took
  takes_some read written s keep u piece out r kept front h k f =
      (ready_takes s keep piece out r kept front (record { room = h; holds = (run_streams read written s keep u).holds }) k f).0

-- ---- the statement of a feed fixes what was taken, what was written, and what is still to come

feed_below : (s : Stream) (keep piece out : List ℕ) (r q : Fed) (kept front other back : List ℕ)
    → Moves s keep piece out r kept front → Moves s keep piece out q other back → r.took < q.took → ⊥
feed_below s keep piece out r q kept front other back m n h =
    let a = n.roomy r.took h in
    let b = m.wrote.place in
    let c = n.took in
    ⊎_elim (λ e. omega (arith, e)) (λ e. omega (arith, e)) m.stop

moves_took : (s : Stream) (keep piece out : List ℕ) (r q : Fed) (kept front other back : List ℕ)
    → Moves s keep piece out r kept front → Moves s keep piece out q other back → r.took ≡ q.took
moves_took s keep piece out r q kept front other back m n =
    by (ltb r.took q.took)
    (λ t. absurd (feed_below s keep piece out r q kept front other back m n (ltb-true r.took q.took t)))
    (λ t. by (ltb q.took r.took)
    (λ u. absurd (feed_below s keep piece out q r other back kept front n m (ltb-true q.took r.took u)))
    (λ u. omega (arith, ltb-false r.took q.took t, ltb-false q.took r.took u)))

pub record Same (r q : Fed) (kept front other back : List ℕ) : Type 0 where
  pub took : r.took ≡ q.took
  pub wrote : r.wrote ≡ q.wrote
  pub output : front ≡ back
  pub desk : desk_of r.stream kept ≡ desk_of q.stream other

pub feeds_same : (s : Stream) (keep piece out : List ℕ) (r q : Fed) (kept front other back : List ℕ)
    → Feeds s keep piece out r kept front → Feeds s keep piece out q other back → Same r q kept front other back
feeds_same s keep piece out r q kept front other back f g =
    ⊎_elim
    (λ x. ⊎_elim
    (λ y. let m = x.1 in
    let n = y.1 in
    let t = moves_took s keep piece out r q kept front other back m n in
    let d = desk_of s keep in
    let w =
    wrote_same out 0 (said d (take q.took piece)) front back r.wrote q.wrote
    (subst (λ (k : ℕ). Wrote out 0 (said d (take k piece)) front r.wrote) t m.wrote) n.wrote in
    record {
      took = t;
      wrote = w.1;
      output = w.0;
      desk = m.desk ∙ ap (λ (k : ℕ). desk_after d (take k piece)) t ∙ sym n.desk;
    })
    (λ y. absurd (y.0 x.0)) g.is)
    (λ x. ⊎_elim
    (λ y. absurd (x.0 y.0))
    (λ y. let e : r ≡ q = x.1 ∙ sym y.1 in
    record {
      took = ap (λ (z : Fed). z.took) e;
      wrote = ap (λ (z : Fed). z.wrote) e;
      output = x.3 ∙ sym y.3;
      desk = λ i. desk_of (e i).stream ((x.2 ∙ sym y.2) i);
    })
    g.is)
    f.is

pub ends_same : (s : Stream) (keep out : List ℕ) (n m : ℕ) (front back : List ℕ)
    → Ends s keep out n front → Ends s keep out m back → (n ≡ m) × (front ≡ back)
ends_same s keep out n m front back f g =
    ⊎_elim
    (λ x. ⊎_elim (λ y. let w = wrote_same out 0 (last_said (desk_of s keep)) front back n m x.1 y.1 in (w.1, w.0)) (λ y. absurd (y.0 x.0)) g.is)
    (λ x. ⊎_elim (λ y. absurd (x.0 y.0)) (λ y. (x.1 ∙ sym y.1, x.2 ∙ sym y.2)) g.is)
    f.is
