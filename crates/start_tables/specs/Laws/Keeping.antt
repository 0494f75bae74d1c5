-- Links that are kept, one after the other: none at first; a line that passes is kept behind the others, by its task and its place, and one
-- that does not is passed over.
use Rattle.std.specs.Prelude.{◌≡◌, [], ◌∷◌, ◌++◌, Bool, true, false, ◌&&◌, ◌||◌, List, ℕ, ◌+◌, ◌≤◌, ◌<◌, eqb, length, set}
use Rattle.std.proofs.Common.{sym, ◌∙◌, subst, arith, get_or-set_same, get_or-set_other, eqb-true}
use Rattle.std.proofs.lemmas.Bool.{eqb-false}
use Rattle.std.proofs.lemmas.List.{get_or_at, get_or_append_left, length-append, length-map, map-append}
use Rattle.laws.specs.Any.{any}
use Rattle.laws.specs.Cases.{by}
use Rattle.laws.specs.Laws.Any.{any_zero, any_more, any_skip, any_same}
use Rattle.rig_tables.specs.Places.{at}
use Rattle.start_tests.specs.Tables.{Kept}
use Rattle.start_tables.specs.Links.{tasks_of, places_of}
use Rattle.start_tables.specs.declared.Link.{Link}

-- a list with one entry more: the new one, and those before it
module _ (l : List ℕ) (m x : ℕ) where
  new : m < length l → at (set l m x) m ≡ x
  new room = get_or-set_same l m x 0 room

  old : (j : ℕ) → j < m → at (set l m x) j ≡ at l j
  old j b = get_or-set_other l m j x 0 (λ q. omega (arith, b, q))

  entries : (P : ℕ → Type 0) → m < length l → P x → ((j : ℕ) → j < m → P (at l j)) → (j : ℕ) → j < m + 1 → P (at (set l m x) j)
  entries P room here rest j b =
      by (eqb j m) (λ y. subst (λ (i : ℕ). P (at (set l m x) i)) (sym (eqb-true j m y)) (subst P (sym (new room)) here))
      (λ y. let c = below j (eqb-false j m y) b in subst P (sym (old j c)) (rest j c))
    where
      below : (i : ℕ) → (i ≡ m → ⊥) → i < m + 1 → i < m
      below i n h = omega arith

module _ (test : ℕ → Bool) (task_of place_of : ℕ → ℕ) where
  pub kept_none : (task place : List ℕ) → Kept 0 test task_of place_of 0 task place
  kept_none task place = record {
    few = omega arith;
    tasks = λ j h. absurd (omega arith);
    places = λ j h. absurd (omega arith);
    same = λ q. any_zero (λ k. test k && q (task_of k) (place_of k)) ∙ sym (any_zero (λ j. q (at task j) (at place j)));
  }

  module _ (k m : ℕ) (task place : List ℕ) (h : Kept k test task_of place_of m task place) where
    pub kept_over : test k ≡ false → Kept (k + 1) test task_of place_of m task place
    kept_over e = record {
      few = omega (arith, h.few);
      tasks = h.tasks;
      places = h.places;
      same = λ q. sym (any_skip k (λ i. test i && q (task_of i) (place_of i)) (rw e)) ∙ h.same q;
    }

    module _ (t p : ℕ) (a : m < length task) (b : m < length place) where
      one_more : (q : ℕ → ℕ → Bool) → any (m + 1) (λ j. q (at (set task m t) j) (at (set place m p) j)) ≡ (any m (λ j. q (at task j) (at place j)) || q t p)
      one_more q =
          any_more m (λ j. q (at (set task m t) j) (at (set place m p) j))
          ∙ rw (any_same m (λ j. q (at (set task m t) j) (at (set place m p) j)) (λ j. q (at task j) (at place j)) (λ j c. rw (old task m t j c, old place m p j c)), new task m t a, new place m p b)

      pub kept_one : test k ≡ true → t ≡ task_of k → p ≡ place_of k → t ≤ 64 → p < 1040 → Kept (k + 1) test task_of place_of (m + 1) (set task m t) (set place m p)
      kept_one e f g low there = record {
        few = omega (arith, h.few);
        tasks = entries task m t (λ x. x ≤ 64) a low h.tasks;
        places = entries place m p (λ x. x < 1040) b there h.places;
        same = λ q. any_more k (λ i. test i && q (task_of i) (place_of i)) ∙ rw (h.same q, e, sym f, sym g) (sym (one_more q));
      }

-- the same of lists that grow behind
module _ (l : List ℕ) (x : ℕ) where
  pushed : (P : ℕ → Type 0) → P x → ((j : ℕ) → j < length l → P (at l j)) → (j : ℕ) → j < length l + 1 → P (at (l ++ x ∷ []) j)
  pushed P here rest j b =
      by (eqb j (length l)) (λ y. subst P (sym (get_or_at l x [] 0 j (sym (eqb-true j (length l) y)))) here)
      (λ y. let c = below j (eqb-false j (length l) y) b in subst P (sym (get_or_append_left l (x ∷ []) 0 j c)) (rest j c))
    where
      below : (i : ℕ) → (i ≡ length l → ⊥) → i < length l + 1 → i < length l
      below i n h = omega arith

module _ (test : ℕ → Bool) (task_of place_of : ℕ → ℕ) (k m : ℕ) (task place : List ℕ) (a : length task ≡ m) (b : length place ≡ m)
    (h : Kept k test task_of place_of m task place) (t p : ℕ) where
  last_more : (q : ℕ → ℕ → Bool) → any (m + 1) (λ j. q (at (task ++ t ∷ []) j) (at (place ++ p ∷ []) j)) ≡ (any m (λ j. q (at task j) (at place j)) || q t p)
  last_more q =
      any_more m (λ j. q (at (task ++ t ∷ []) j) (at (place ++ p ∷ []) j))
      ∙ rw (
        any_same m (λ j. q (at (task ++ t ∷ []) j) (at (place ++ p ∷ []) j)) (λ j. q (at task j) (at place j))
            (λ j c. rw (get_or_append_left task (t ∷ []) 0 j (omega (arith, a, c)), get_or_append_left place (p ∷ []) 0 j (omega (arith, b, c)))),
        get_or_at task t [] 0 m a,
        get_or_at place p [] 0 m b,
      )

  kept_pushed : test k ≡ true → t ≡ task_of k → p ≡ place_of k → t ≤ 64 → p < 1040
      → Kept (k + 1) test task_of place_of (m + 1) (task ++ t ∷ []) (place ++ p ∷ [])
  kept_pushed e f g low there = record {
    few = omega (arith, h.few);
    tasks = λ j c. pushed task t (λ x. x ≤ 64) low (λ i d. h.tasks i (omega (arith, a, d))) j (omega (arith, a, c));
    places = λ j c. pushed place p (λ x. x < 1040) there (λ i d. h.places i (omega (arith, b, d))) j (omega (arith, b, c));
    same = λ q. any_more k (λ i. test i && q (task_of i) (place_of i)) ∙ rw (h.same q, e, sym f, sym g) (sym (last_more q));
  }

-- a link that passes is kept behind the others
pub kept_link : (test : ℕ → Bool) (task_of place_of : ℕ → ℕ) (k : ℕ) (links : List Link) (new : Link)
    → Kept k test task_of place_of (length links) (tasks_of links) (places_of links)
    → test k ≡ true → new.task ≡ task_of k → new.place ≡ place_of k → new.task ≤ 64 → new.place < 1040
    → Kept (k + 1) test task_of place_of (length (links ++ new ∷ [])) (tasks_of (links ++ new ∷ [])) (places_of (links ++ new ∷ []))
kept_link test task_of place_of k links new h e f g low there =
    rw (length-append links (new ∷ []), map-append (λ (l : Link). l.task) links (new ∷ []), map-append (λ (l : Link). l.place) links (new ∷ []))
    (kept_pushed test task_of place_of k (length links) (tasks_of links) (places_of links) (length-map links _) (length-map links _) h new.task new.place e f g low there)
