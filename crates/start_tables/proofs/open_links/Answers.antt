use mathlib.Core.Path.{◌≡◌, sym, ◌∙◌, ap}
use borrow.Author.Tests.{eq-eqb, ne_eqb}
use Prim.Native.Nat.{ℕ}
use native.Mathlib.Omega.{arith}
use lib.Dec.{eqb}
use lib.ListN.{length, set, get_or-map}
use Rattle.laws.specs.Laws.Iter.{iter_zero}
use Rattle.laws.specs.Laws.Stores.{stored_yes, stored_no}
use Rattle.rig_tables.specs.Places.{at}
use Rattle.start_tests.specs.Tables.{open_one, opened_in}
use Rattle.start_tables.specs.Links.{tasks_of, places_of}
use Rattle.start_tables.specs.declared.Link.{Link}
use Rattle.start_tables.proofs.open_links.Goals as goal
use Rattle.start_tables.proofs.open_links.Goals.{else-can-link-eq1, then-can-link-eq1}

-- a link's parts, read in the lists
abbrev no_link : Link
no_link = record { task = 0; place = 0 }

pub loop-link-init : goal.loop-link-init
loop-link-init c = sym (iter_zero _ _)

pub bounds-can-link : goal.bounds-can-link
bounds-can-link c =
    let i = c.loop-link.link-index in
    omega (arith, c.requires.tasks i c.loop-link-test.true, get_or-map (λ (l : Link). l.task) c.args.links.now i no_link)

pub bounds-table-link : goal.bounds-table-link
bounds-table-link c =
    let i = c.loop-link.link-index in
    omega (arith, c.requires.places i c.loop-link-test.true, get_or-map (λ (l : Link). l.place) c.args.links.now i no_link)

pub loop-link-preserved : goal.loop-link-preserved
loop-link-preserved c =
    let l = c.loop-link in
    let a = c.args in
    let links = a.links.now in
    let i = l.link-index in
    let t = ap (λ (t : ℕ). eqb (at a.can.now t) 1) (get_or-map (λ (l : Link). l.task) links i no_link) in
    let p = ap (λ (p : ℕ). set l.table p 1) (sym (get_or-map (λ (l : Link). l.place) links i no_link)) in
    let made = stored_yes (open_one (tasks_of links) a.can.now) (at (places_of links)) (λ i. 1) i a.table.now l.table l.invariant in
    let left = stored_no (open_one (tasks_of links) a.can.now) (at (places_of links)) (λ i. 1) i a.table.now l.table l.invariant in
    elim c.if-can-link-eq1.branch [
      | then-can-link-eq1 w ↦ w.table-is ∙ p ∙ made (t ∙ eq-eqb _ _ w.if-can-link-eq1.true)
      | else-can-link-eq1 w ↦ w.table-is ∙ left (t ∙ ne_eqb _ _ w.if-can-link-eq1.false)
    ]

pub returns : goal.returns
unfolding opened_in
returns c =
    let e : c.loop-link.link-index ≡ length c.args.links.now = omega arith in
    rw e at c.loop-link.invariant
