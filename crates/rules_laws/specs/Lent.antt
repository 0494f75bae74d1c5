-- LENT BUFFERS: what a call writes fits, a buffer keeps its length, and no other word is touched.
use Rattle.std.specs.Prelude.{◌≡◌, ◌⊎◌, Bool, true, false, not, cond, eqb, ltb, leb, drop}
use Rattle.std.proofs.Math.Path.{refl, ap}
use Rattle.std.proofs.Common.{sym, ◌∙◌, inl, inr, arith, le_refl, add-zero, length-append}
use mathlib.Core.List.{List, [], ◌∷◌, ◌++◌}
use Prim.Native.Nat.{ℕ, zero, suc, ◌+◌, ◌-◌, ◌*◌, ◌%◌, ◌≤◌, ◌<◌}
use borrow.Author.Tests.{eqb-true, ltb-false, not-false}
use Rattle.std.proofs.Math.ListN.{length, get_or, length-drop}
use Rattle.std.proofs.Math.Seq.{length-take-le, get_or-take, get_or-drop}
use Rattle.laws.specs.Cases.{or_false}
use Rattle.laws.specs.Laws.Iter.{iter_ind}
use Rattle.laws.specs.Put.{put}
use Rattle.laws.specs.Laws.Put.{length_put, put_inside, put_before, put_behind}
use Rattle.rules.specs.Rig.{Rig, Row}
use Rattle.rules.specs.RigOk.{RowsOk}
use Rattle.rules.specs.State.{State}
use Rattle.rules.specs.Bus.{block_at, area_words, block_words, written, copied, row_due, receive_word, transmit_word, row_words, bus_one, bus_words}
use Rattle.rules.specs.Calls.{Call, schedule, cancel, terminate, finish, tick, wait_until, wait_for, latched, unlatched, signal, read_flag, read_block, write_block, next_waking, read_overruns, why_not}
use Rattle.rules.specs.Calls.{refusals, refusal, nobody_runs, no_such_one, last_count, wrong_block, words_at, lent, output, accepted, after, step}
use Rattle.rules_laws.specs.Acceptance.{passed, there_is}

-- ---- a tick's bus words: two a row at most, so 128 words are enough

row_length : (master : ℕ) (b : Row) → length (row_words master b) ≤ 2
unfolding row_words
row_length master b = go (eqb b.sender master) (eqb b.receiver master)
  where
    go : (x y : Bool) → length (cond x (receive_word b ∷ []) (cond y (transmit_word b ∷ []) (receive_word b ∷ transmit_word b ∷ []))) ≤ 2
    go true y = omega arith
    go false true = omega arith
    go false false = omega arith

pub words_length : (rows master : ℕ) (row : ℕ → Row) (count : ℕ) → length (bus_words rows master row count) ≤ 2 * rows
unfolding bus_words
words_length rows master row count =
    iter_ind (λ i ws. length ws ≤ 2 * i) (bus_one master row count) [] (le_refl _)
    (λ i ws h. go (row_due (row i) count) i ws h) rows
  where
    go : (b : Bool) (i : ℕ) (ws : List ℕ) → length ws ≤ 2 * i → length (cond b (ws ++ row_words master (row i)) ws) ≤ 2 * suc i
    go true i ws h = omega (arith, length-append ws (row_words master (row i)), row_length master (row i))
    go false i ws h = omega arith

pub words_fit : (r : Rig) → RowsOk r → (count : ℕ) → length (words_at r count) ≤ 128
unfolding words_at
words_fit r ok count = omega (arith, words_length r.rows r.master r.row count, ok.rows_le)

-- ---- a row's block

-- what acceptance tells of a block
pub record Block (r : Rig) (k : ℕ) (area buffer : List ℕ) : Type 0 where
  pub known : (1 ≤ k) × (k ≤ r.rows)
  pub area_is : length area ≡ 33 * r.rows
  pub buffer_is : length buffer ≡ (r.row (k - 1)).words

pub block_is : (r : Rig) (k : ℕ) (area buffer : List ℕ) → no_such_one r.rows k ≡ false → wrong_block r k area buffer ≡ false → Block r k area buffer
unfolding wrong_block
block_is r k area buffer a b =
    let e = or_false (not (eqb (length area) (area_words r))) (not (eqb (length buffer) (block_words r k))) b in
    record {
      known = there_is r.rows k a;
      area_is = eqb-true (length area) (area_words r) (not-false (eqb (length area) (area_words r)) e.0);
      buffer_is = eqb-true (length buffer) (block_words r k) (not-false (eqb (length buffer) (block_words r k)) e.1);
    }

module _ (r : Rig) (ok : RowsOk r) (k : ℕ) (area buffer : List ℕ) (h : Block r k area buffer) where
  -- the block lies in the area
  pub block_inside : block_at k + suc (length buffer) ≤ length area
  block_inside = omega (arith, h.known.0, h.known.1, h.area_is, h.buffer_is, ok.words_le (k - 1) (omega (arith, h.known.0, h.known.1)))

  -- "Write stores the data and the count modulo 65,536 as tag"
  pub written_tag : (count : ℕ) → get_or (written count k area buffer) (block_at k) 0 ≡ count % 65536
  unfolding written
  written_tag count =
      ap (λ (j : ℕ). get_or (written count k area buffer) j 0) (sym (add-zero (block_at k)))
      ∙ put_inside area (block_at k) (count % 65536 ∷ buffer) block_inside 0 (omega arith)

  pub written_data : (count i : ℕ) → i < length buffer → get_or (written count k area buffer) (block_at k + suc i) 0 ≡ get_or buffer i 0
  unfolding written
  written_data count i b = put_inside area (block_at k) (count % 65536 ∷ buffer) block_inside (suc i) (omega arith)

  -- "and touches no other word"
  pub written_other : (count j : ℕ) → (j < block_at k) ⊎ (block_at k + suc (length buffer) ≤ j) → get_or (written count k area buffer) j 0 ≡ get_or area j 0
  unfolding written
  written_other count j (inl b) = put_before area (block_at k) (count % 65536 ∷ buffer) block_inside j b
  written_other count j (inr b) = put_behind area (block_at k) (count % 65536 ∷ buffer) block_inside j b

  pub written_length : (count : ℕ) → length (written count k area buffer) ≡ length area
  unfolding written
  written_length count = length_put area (block_at k) (count % 65536 ∷ buffer) block_inside

  -- "read copies the data out"
  pub copied_data : (i : ℕ) → i < length buffer → get_or (copied k area buffer) i 0 ≡ get_or area (block_at k + suc i) 0
  unfolding copied
  copied_data i b =
      get_or-take (length buffer) (drop (block_at k + 1) area) i 0 b
      ∙ get_or-drop (block_at k + 1) area i 0
      ∙ ap (λ (n : ℕ). get_or area n 0) (omega arith)

  pub copied_length : length (copied k area buffer) ≡ length buffer
  unfolding copied
  copied_length =
      length-take-le (length buffer) (drop (block_at k + 1) area) (omega (arith, length-drop (block_at k + 1) area, block_inside))

-- ---- every call

module _ (r : Rig) (ok : RowsOk r) (s : State) where
  -- "words past those written stay"
  pub tick_other : (buffer : List ℕ) (count j : ℕ) → 128 ≤ length buffer → length (words_at r count) ≤ j
      → get_or (put buffer 0 (words_at r count)) j 0 ≡ get_or buffer j 0
  tick_other buffer count j a b =
      put_behind buffer 0 (words_at r count) (omega (arith, words_fit r ok count)) j (omega arith)

  accepted_lent : (k : Call) → refusal r s k ≡ 0 → (x : State) → length (output r x k).lent ≡ length (lent k)
  unfolding refusal refusals output lent
  accepted_lent (schedule t) e x = refl
  accepted_lent (cancel t) e x = refl
  accepted_lent (terminate t) e x = refl
  accepted_lent finish e x = refl
  accepted_lent (tick buffer) e x =
      let a = passed 8 (leb last_count s.count) _ e in
      let b = passed 9 (ltb (length buffer) 128) [] a.1 in
      length_put buffer 0 (words_at r x.count) (omega (arith, words_fit r ok x.count, ltb-false (length buffer) 128 b.0))
  accepted_lent (wait_until t) e x = refl
  accepted_lent (wait_for n) e x = refl
  accepted_lent (latched f v) e x = refl
  accepted_lent (unlatched f v) e x = refl
  accepted_lent (signal f v) e x = refl
  accepted_lent (read_flag f) e x = refl
  accepted_lent (read_block k area buffer) e x =
      let a = passed 4 (nobody_runs s) _ e in
      let b = passed 5 (no_such_one r.rows k) _ a.1 in
      let c = passed 9 (wrong_block r k area buffer) [] b.1 in
      copied_length r ok k area buffer (block_is r k area buffer b.0 c.0)
  accepted_lent (write_block k area buffer) e x =
      let a = passed 4 (nobody_runs s) _ e in
      let b = passed 5 (no_such_one r.rows k) _ a.1 in
      let c = passed 9 (wrong_block r k area buffer) [] b.1 in
      written_length r ok k area buffer (block_is r k area buffer b.0 c.0) x.count
  accepted_lent next_waking e x = refl
  accepted_lent (read_overruns t) e x = refl
  accepted_lent (why_not t d) e x = refl

  -- a lent buffer keeps its length
  pub lent_length : (k : Call) → length (step r s k).lent ≡ length (lent k)
  unfolding step after accepted
  lent_length k = go (refusal r s k) refl
    where
      go : (n : ℕ) → refusal r s k ≡ n → length (after n r s k).lent ≡ length (lent k)
      go zero e = accepted_lent k e _
      go (suc n) e = refl
