-- The tests of a table's entries part by part, as the loops compute them, and that together they say what the tests of
-- Tests.antt say.
use Rattle.std.specs.Prelude.{◌≡◌, refl, ◌≢◌, ◌⊎◌, Bool, true, false, cond, ◌&&◌, List, ℕ, ◌+◌, ◌-◌, ◌≤◌, ◌<◌, eqb, leb, length, get_or, take, drop}
use Rattle.std.proofs.Common.{sym, ◌∙◌, ap, arith, add-one, eqb-true}
use Rattle.std.specs.Int.Bits.{bit_or}
use Rattle.std.proofs.lemmas.List.{get_or-take, get_or-drop, length-drop, length-take-le}
use Rattle.std.proofs.lemmas.Bool.{eqb-false}
use Rattle.laws.specs.Cases.{by, and_yes}
use Rattle.laws.specs.All.{all, since}
use Rattle.laws.specs.Laws.All.{all_same, all_on, since_start, since_at}
use Rattle.laws.specs.Faults.{or_zero}
use Rattle.rig_tables.specs.Tests.{small_one}
use Rattle.laws.specs.Largest.{top_next}
use Rattle.laws.specs.Decides.{Is}
use Rattle.laws.specs.Laws.Decides.{is_eqb, is_leb, is_ltb, is_and, is_else, is_then, is_all, is_said, is_same}
use Rattle.rules.specs.Calls.{no_such_one}
use Rattle.rules_laws.specs.Acceptance.{there_is}
use Rattle.sound_tables.specs.Tests.{within_one, within_b, empty_b}
use Rattle.sound_tables.specs.Exact.{no_such}

-- an entry is at most top
abbrev pub cap : ℕ → List ℕ → ℕ → Bool
cap top l i = leb (get_or l i 0) top

-- an entry is 0
abbrev pub none : List ℕ → ℕ → Bool
none l i = eqb (get_or l i 0) 0

-- the place after the last of 0 to many, in a table of a size
pub record After (many size r : ℕ) : Type 0 where
  pub inside : r ≤ size
  pub most : r ≤ many + 1
  pub next : (i : ℕ) → i < size → i ≤ many → i < r

-- ---- the largest entry

-- What the loop keeps: the largest entry so far is at most top exactly when each is. A turn of it.
abbrev pub Most : ℕ → List ℕ → ℕ → ℕ → ℕ → Type 0
Most top l from most i = leb most top ≡ all i (since from (cap top l))

pub most_next : (top : ℕ) (l : List ℕ) (from most i : ℕ) → from ≤ i → Most top l from most i
    → {new : ℕ} {A B : Type 0} → (A × (new ≡ get_or l i 0)) ⊎ (B × (new ≡ most)) → (A → most < get_or l i 0) → (B → get_or l i 0 ≤ most)
    → Most top l from new (i + 1)
most_next top l from most i h p = top_next most i (since from (cap top l)) (get_or l i 0) top p (sym (since_at from (cap top l) i h))

-- ---- what the parts say together

some : (i : ℕ) → i ≢ 0 → 1 ≤ i
some i n = omega arith

module _ (many : ℕ) where
  -- i is one of the numbers 1 to many
  abbrev Named : ℕ → Type 0
  Named i = (1 ≤ i) × (i ≤ many)

  is_no_such : (i : ℕ) → Is (no_such_one many i) (Named i → ⊥)
  is_no_such i = (no_such many i, (λ n. by (no_such_one many i) (λ e. e) (λ e. absurd (n (there_is many i e)))))

  -- a place that is not of such a number is place 0 or beyond the last
  beyond : (size end i : ℕ) → After many size end → (Named i → ⊥) → i ≢ 0 → i < end → ⊥
  beyond size end i e n z g = n (some i z, omega (arith, e.most, g))

  module _ (l : List ℕ) (end : ℕ) (e : After many 65 end) where
    abbrev Empty : Type 0
    Empty = (i : ℕ) → i < 65 → (Named i → ⊥) → get_or l i 0 ≡ 0

    abbrev EmptyParts : Type 0
    EmptyParts = (get_or l 0 0 ≡ 0) × ((i : ℕ) → i < 65 → (i < end → ⊥) → get_or l i 0 ≡ 0)

    empty_parts : Empty → EmptyParts
    empty_parts f = (f 0 (omega arith) (λ w. omega (arith, w.0)), (λ i h n. f i h (λ w. n (e.next i h w.1))))

    parts_empty : EmptyParts → Empty
    parts_empty w i h n =
        by (eqb i 0) (λ q. rw (eqb-true i 0 q) w.0) (λ q. w.1 i h (beyond 65 end i e n (eqb-false i 0 q)))

    pub empty_each : empty_b l many ≡ (eqb (get_or l 0 0) 0 && all 65 (since end (none l)))
    empty_each =
        is_same (is_said (is_all 65 (λ i h. is_then (is_no_such i) (is_eqb (get_or l i 0) 0))) empty_parts parts_empty)
        (is_and (is_eqb (get_or l 0 0) 0) (is_all 65 (λ i h. is_else (is_ltb i end) (is_eqb (get_or l i 0) 0))))

  module _ (l : List ℕ) (top first end : ℕ) (s : After 0 (length l) first) (e : After many (length l) end) where
    abbrev WithinAt : ℕ → Type 0
    WithinAt i = (Named i → get_or l i 0 ≤ top) × ((Named i → ⊥) → get_or l i 0 ≤ 0)

    is_within : (i : ℕ) → Is (within_one l many top i) (WithinAt i)
    is_within i = go (no_such_one many i) refl
      where
        go : (b : Bool) → no_such_one many i ≡ b → Is (leb (get_or l i 0) (cond b 0 top)) (WithinAt i)
        go true q =
            let no_one = no_such many i q in
            is_said (is_leb (get_or l i 0) 0) (λ x. ((λ w. absurd (no_one w)), (λ n. x))) (λ g. g.1 no_one)
        go false q =
            let one = there_is many i q in
            is_said (is_leb (get_or l i 0) top) (λ x. ((λ w. x), (λ n. absurd (n one)))) (λ g. g.0 one)

    abbrev Whole : Type 0
    Whole = (i : ℕ) → i < length l → WithinAt i

    abbrev Part : ℕ → ℕ → ℕ → Type 0
    Part from to high = (i : ℕ) → i < to → (i < from → ⊥) → get_or l i 0 ≤ high

    within_parts : Whole → Part 0 first 0 × (Part first end top × Part end (length l) 0)
    within_parts f = (
      (λ i h n. (f i (omega (arith, h, s.inside))).1 (λ w. omega (arith, w.0, h, s.most))),
      (
        (λ i h n.
            let b : i < length l = omega (arith, h, e.inside) in
            (f i b).0 (some i (λ z. n (s.next i b (omega (arith, z)))), omega (arith, h, e.most))),
        (λ i h n. (f i h).1 (λ w. n (e.next i h w.1))),
      ),
    )

    parts_within : Part 0 first 0 × (Part first end top × Part end (length l) 0) → Whole
    parts_within p i h = (
      (λ w. p.1.0 i (e.next i h w.1) (λ g. omega (arith, g, s.most, w.0))),
      (λ n.
          by (eqb i 0) (λ q. p.0 i (s.next i h (omega (arith, eqb-true i 0 q))) (λ z. omega (arith, z)))
          (λ q. p.1.1 i h (beyond (length l) end i e n (eqb-false i 0 q)))),
    )

    is_part : (from to high : ℕ) → Is (all to (since from (cap high l))) (Part from to high)
    is_part from to high = is_all to (λ i h. is_else (is_ltb i from) (is_leb (get_or l i 0) high))

    pub within_each : within_b l many top ≡ (all first (since 0 (cap 0 l)) && (all end (since first (cap top l)) && all (length l) (since end (cap 0 l))))
    within_each =
        is_same (is_said (is_all (length l) (λ i h. is_within i)) within_parts parts_within)
        (is_and (is_part 0 first 0) (is_and (is_part first end top) (is_part end (length l) 0)))

-- ---- the parts as slices

ends_of : (n many first end : ℕ) → After 0 n first → After many n end → (0 < n → 0 < end) → first ≤ end
ends_of n many first end s e f = by (eqb n 0) (λ q. omega (arith, s.inside, eqb-true n 0 q)) (λ q. omega (arith, s.most, f (omega (arith, eqb-false n 0 q))))

-- the place after 0 is not behind the place after the last of 0 to many
pub ends_rise : (n many first end : ℕ) → After 0 n first → After many n end → first ≤ end
ends_rise n many first end s e = ends_of n many first end s e (λ h. e.next 0 h (omega arith))

-- the entries of a slice, by their places in the table
slice_is : (top a k to : ℕ) (l : List ℕ) → a + k ≡ to → to ≤ length l → all (length (take k (drop a l))) (small_one (take k (drop a l)) top) ≡ all to (since a (cap top l))
slice_is top a k to l q h =
    let part = take k (drop a l) in
    let long : length part ≡ k = length-take-le k (drop a l) (omega (arith, h, length-drop a l)) in
    ap (λ (n : ℕ). all n (small_one part top)) long
    ∙ all_same k (small_one part top) (λ i. since a (cap top l) (a + i))
    (λ i g. ap (λ (x : ℕ). leb x top) (get_or-take k (drop a l) i 0 g ∙ get_or-drop a l i 0) ∙ since_at a (cap top l) (a + i) (omega arith))
    ∙ all_on a k (since a (cap top l)) (since_start a (cap top l) a (omega arith))
    ∙ ap (λ (n : ℕ). all n (since a (cap top l))) q

pub within_slices : (l : List ℕ) (many top first end : ℕ) → After 0 (length l) first → After many (length l) end
    → within_b l many top
    ≡ (all (length (take first l)) (small_one (take first l) 0)
    && (all (length (take (end - first) (drop first l))) (small_one (take (end - first) (drop first l)) top)
    && all (length (take (length l - end) (drop end l))) (small_one (take (length l - end) (drop end l)) 0)))
within_slices l many top first end s e =
    let rise = ends_rise (length l) many first end s e in
    within_each many l top first end s e
    ∙ sym (rw (slice_is 0 0 first first l (omega arith) s.inside, slice_is top first (end - first) end l (omega (arith, rise)) e.inside, slice_is 0 end (length l - end) (length l) l (omega (arith, e.inside)) (omega arith)) refl)

-- ---- entries that are joined

and_twice : (a b c : Bool) → ((a && b) && c) ≡ (a && (b && c))
and_twice true b c = refl
and_twice false b c = refl

-- what is joined so far, place 0 with it, is 0 exactly when each entry is
abbrev pub Joined : List ℕ → ℕ → ℕ → ℕ → Type 0
Joined l from faults i = eqb faults 0 ≡ (eqb (get_or l 0 0) 0 && all i (since from (none l)))

pub joined_none : (l : List ℕ) (from : ℕ) → Joined l from (get_or l 0 0) from
joined_none l from = sym (ap (λ (b : Bool). eqb (get_or l 0 0) 0 && b) (since_start from (none l) from (omega arith)) ∙ and_yes (eqb (get_or l 0 0) 0))

pub joined_next : (l : List ℕ) (from faults i : ℕ) → from ≤ i → Joined l from faults i → Joined l from (bit_or faults (get_or l i 0)) (i + 1)
unfolding all
joined_next l from faults i h p =
    let z = eqb (get_or l 0 0) 0 in
    let so_far = all i (since from (none l)) in
    or_zero faults (get_or l i 0) ∙ ap (λ (b : Bool). b && none l i) p ∙ and_twice z so_far (none l i)
    ∙ ap (λ (b : Bool). z && (so_far && b)) (since_at from (none l) i h) ∙ rw add-one refl

pub joined_all : (l : List ℕ) (many from faults : ℕ) → After many 65 from → Joined l from faults 65 → eqb faults 0 ≡ empty_b l many
joined_all l many from faults e p = p ∙ sym (empty_each many l from e)
