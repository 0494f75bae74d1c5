-- LINKS FOR GIVEN CHAINS: whatever lists of tasks the chains are to be, each task once and in one of them, there are links that
-- hold them. They are made as the code makes them, by putting one task after the other to the end of its chain.
use Rattle.std.specs.Prelude.{◌≡◌, refl, ◌≢◌, cond, eqb, ltb, length, set, replicate}
use Rattle.std.proofs.Math.Path.{sym, ap, fun_ext}
use Rattle.std.proofs.Common.{◌∙◌, subst, inl, inr, ⊎_elim, true≢false, arith, length-set, lt-ltb, le-ltb, ltb-true, ltb-false, eqb-true, eq-eqb}
use mathlib.Core.List.{List, [], ◌∷◌, ◌++◌, append_assoc, append-nil}
use Prim.Native.Nat.{ℕ, zero, suc, ◌+◌, ◌≤◌, ◌<◌}
use Rattle.std.proofs.lemmas.List.{length-replicate}
use Rattle.std.proofs.Math.Seq.{get_or-set_other}
use Rattle.std.proofs.lemmas.Bool.{eqb-false}
use Rattle.laws.specs.Cases.{by}
use Rattle.laws.specs.Functions.{upd}
use Rattle.laws.specs.Laws.Functions.{upd_same, upd_upd, upd_self}
use Rattle.laws.specs.Members.{In, Distinct}
use Rattle.chains.specs.Held.{at, Held, Sized, Selves}
use Rattle.chains.specs.Laws.Held.{selves_empty, linked_after, tail_node}
use Rattle.chains.specs.Read.{chains_of, inside}
use Rattle.chains.specs.Laws.Read.{held_chains, inside_is}
use Rattle.chains.specs.declared.Links.{Links}
use Rattle.witness.specs.Tables.{table, table_length, table_at}

-- each anchor linked to itself, no task linked
unfoldable pub fresh_links : Links
fresh_links =
    let selves = table 322 (λ (i : ℕ). cond (ltb 64 i) i 0) in
    record { next = selves; prev = selves; on = replicate 65 0 }

-- task t behind the last of the chain of anchor s
unfoldable pub joined : Links → ℕ → ℕ → Links
joined l s t =
    let u = at l.prev s in
    record {
      next = set (set l.next u t) t (at l.next u);
      prev = set (set l.prev (at l.next u) t) t u;
      on = set l.on t s;
    }

-- the tasks of a list, one after the other
unfoldable pub joined_all : Links → ℕ → List ℕ → Links
joined_all l s [] = l
joined_all l s (t ∷ ts) = joined_all (joined l s t) s ts

-- the first n chains, from that of anchor 65 on; there are 257
unfoldable pub links_up_to : ℕ → (ℕ → List ℕ) → Links
links_up_to zero X = fresh_links
links_up_to (suc n) X = joined_all (links_up_to n X) (65 + n) (X (65 + n))

unfoldable pub links_of : (ℕ → List ℕ) → Links
links_of X = links_up_to 257 X

-- chains of tasks 1 to 64, each task once and in one chain, none but at an anchor
pub record Chainable (X : ℕ → List ℕ) : Type 0 where
  pub tasks : (t c : ℕ) → In t (X c) → (0 < t) × (t ≤ 64)
  pub once : (c : ℕ) → Distinct (X c)
  pub apart : (t c d : ℕ) → In t (X c) → In t (X d) → c ≡ d
  pub only : (t c : ℕ) → In t (X c) → (65 ≤ c) × (c ≤ 321)

-- ---- one task more

selves : Selves fresh_links.next 322
unfolding fresh_links
selves =
    let f : ℕ → ℕ = λ i. cond (ltb 64 i) i 0 in
    record {
      size = table_length 322 f;
      anchor = λ k a b. table_at 322 f k 0 b ∙ rw (lt-ltb 64 k a);
      none = λ k a. table_at 322 f k 0 (omega arith) ∙ rw (le-ltb 64 k a);
    }

pub fresh_held : Held fresh_links (λ (c : ℕ). [])
unfolding fresh_links
fresh_held = selves_empty fresh_links.next fresh_links.prev selves selves

pub fresh_sized : Sized fresh_links
unfolding fresh_links
fresh_sized = record { next = selves.size; prev = selves.size; on = length-replicate {A = ℕ} 65 0 }

two_stores : (l : List ℕ) (i v j w : ℕ) → length (set (set l i v) j w) ≡ length l
two_stores l i v j w = length-set (set l i v) j w ∙ length-set l i v

joined_sized : (l : Links) (s t : ℕ) → Sized l → Sized (joined l s t)
unfolding joined
joined_sized l s t z =
    let u = at l.prev s in
    record {
      next = two_stores l.next u t t (at l.next u) ∙ z.next;
      prev = two_stores l.prev (at l.next u) t t u ∙ z.prev;
      on = length-set l.on t s ∙ z.on;
    }

module _ (s : ℕ) (low : 64 < s) (high : s < 322) where
  joined_held : (l : Links) → Sized l → (t : ℕ) → 0 < t → t ≤ 64 → at l.on t ≡ 0 → (X : ℕ → List ℕ) → Held l X
      → Held (joined l s t) (upd X s (X s ++ t ∷ []))
  unfolding joined
  joined_held l z t some task idle X h =
      let e = tail_node l X h s low high in
      linked_after l z s (at l.prev s) t
      (record { low = low; high = high; some = some; task = task; idle = idle; node = e.0; inside = e.1 }) X h (X s) [] (sym (append-nil (X s))) e.2

  joined_on : (l : Links) (t u : ℕ) → u ≢ t → at (joined l s t).on u ≡ at l.on u
  unfolding joined
  joined_on l t u n = get_or-set_other l.on t u s 0 n

  -- a list of tasks, each idle and once
  pub all_held : (ts : List ℕ) → Distinct ts → (l : Links) → Sized l
      → ((t : ℕ) → In t ts → (0 < t) × (t ≤ 64) × (at l.on t ≡ 0))
      → (X : ℕ → List ℕ) → Held l X
      → Held (joined_all l s ts) (upd X s (X s ++ ts)) × Sized (joined_all l s ts)
  unfolding joined_all
  all_held [] d l z f X h = (subst (Held l) (same X) h, z)
    where
      same : (X : ℕ → List ℕ) → X ≡ upd X s (X s ++ [])
      same X = sym (ap (upd X s) (append-nil (X s)) ∙ upd_self X s)
  all_held (t ∷ ts) d l z f X h =
      let k = f t (inl refl) in
      let Y : ℕ → List ℕ = upd X s (X s ++ t ∷ []) in
      let r =
      all_held ts d.1 (joined l s t) (joined_sized l s t z)
      (λ u i. let m = f u (inr i) in (m.0, m.1, joined_on l t u (λ e. d.0 (subst (λ (v : ℕ). In v ts) e i)) ∙ m.2))
      Y (joined_held l z t k.0 k.1 k.2 X h) in
      (subst (Held (joined_all (joined l s t) s ts)) (same X t ts) r.0, r.1)
    where
      same : (X : ℕ → List ℕ) (t : ℕ) (ts : List ℕ)
          → upd (upd X s (X s ++ t ∷ [])) s (upd X s (X s ++ t ∷ []) s ++ ts) ≡ upd X s (X s ++ t ∷ ts)
      same X t ts =
          upd_upd X s (X s ++ t ∷ []) (upd X s (X s ++ t ∷ []) s ++ ts)
          ∙ ap (λ (l : List ℕ). upd X s (l ++ ts)) (upd_same X s (X s ++ t ∷ []))
          ∙ ap (upd X s) (append_assoc (X s) (t ∷ []) ts)
