-- A CALL ON A LENT RECORD, with bytes to be read, that makes a fresh record: whatever the record is, an entry whose code is `function` meets
-- its contract. The borrow is opened, the callee is called, the record that it hands back is stored over the old one, and the borrow is
-- closed at it. Of the callee the walk knows its contract alone. Made by tools/walks. Assumes nothing.
use mathlib.Core.Path.{refl, sym, subst, ap}
use Prim.Native.Nat.{ℕ}
use mathlib.Core.List.{[], ◌∷◌, List}
use lib.ListN.{length}
use seplogic.Ra.Ura.{Ura}
use base.Fraction.{full_share}
use mir.Syntax.{Callee as Name, Fn, seq, assign, call, return, local, value_local, named, mut, imm, ty_int, ty_ref, w8, place, deref, field, copy, rv_opd}
use mir.Val.{Val, vptr}
use base.Logic.{SProp, ent, sep, emp, via, fst∗, id⊢}
use base.Fml.{GName, Lft, Share, ftrue, fat, flft, fobs, fbor}
use prog.Wp.{Calls, Loops, WpFn, Tables}
use types.Logic.{Logic, sem}
use contract.Monad.{fact}
use types.Kit.{‵, raw, some, later, ◌⊛◌, ⋆, ◌$◌, ◌∵◌, !, qed, by, move, keep, drop, use1, use2, split, join, pick, rewrite, fsplit, fsplit3, fjoin, fjoin3, feq_i, suffices, frame, await, done}
use types.Run.{look, init, store_raw, forget, stop, hop, fld, from, load, of_opd, and_then, no_more, assigns, land, returns, enter, alloc1, alloc0, params1, pass1, pass0, free1, free0}
use types.Part.{whole, sub, look_in}
use types.SemTy.{Body as LentBody}
use sound.WpLaws.{FmC, fm_of, WpFn-mono}
use denote.RattleType.{owns}
use denote.Laws.{Is, shows}
use denote.Memory.{mem}
use denote.Builtin.{u8, RefMutOf, SliceRefOf}
use denote.Bor.{Bor}
use denote.Ref.{MutBor, MutRef, mut_Tells, mut_vals}
use denote.Slice.{slice_ty, slice_val, Room, ShrSlice, shr_slice_Tells, shr_slice_vals}
use denote.Signature.{plain, shr_slice_of}
use denote.Steps.{only, opens, closes, owned, peeks, heard, nothing}
use denote.Struct.Steps.{spelt}
use denote.Triple.Entry.{on_entry}
use denote.Triple.Spec.{Meets, triple_of}
use denote.Triple.Statement.{Contract, Triple}
use denote.Triple.Call.{calls_at}
use denote.Triple.Clauses.{Ended, Clauses, closing, ensured, lasts}
use denote.Triple.Walked.{says, Stays, stay_ref, stay_dropped, walk_of, AllGo, Goes-ref, Goes-dropped, Walks, ends_at, walked, walk_Meets}
use denote.Exit.{yes}
use Rattle.lent_walks.proofs.Lent.{Types, Laws, X, N, S, step_type}

module _ (T : Types) (L : Laws T) (callee : Name) (K : List ℕ → T.Step → Type 0) where
  -- the entry's code
  abbrev pub function : Fn
  function = record {
    lifetimes = 2;
    outlives = [];
    ty_params = [];
    givens = 0;
    params = 2;
    locals = local T.answer.ty value_local ∷ local (ty_ref (named 0) mut T.exec.written.ty) value_local ∷ local (slice_ty (ty_ref (named 1) imm (ty_int w8))) value_local ∷ local (step_type T) value_local ∷ [];
    body = seq (call callee (copy (place 2 []) ∷ []) (place 3 [])) (seq (assign (place 1 (deref T.exec.ty ∷ [])) (rv_opd (copy (place 3 (field 0 ∷ []))))) (seq (assign (place 0 []) (rv_opd (copy (place 3 (field 1 ∷ []))))) return));
  }

  -- the callee's contract, and the entry's: the same statement, of the step that the record and the answer make
  abbrev pub called : Ended
  called = record {
    signature = record { lifetimes = 1; outlives = []; params = SliceRefOf (0 ∷ []) tt (plain (λ κs. u8)) (λ κs. tt) ∷ []; result = plain (λ κs. S T) };
    kept = (yes, tt);
  }

  abbrev pub called_clauses : {M : Type 1} (𝓤 : Ura M) → Clauses 𝓤 called
  called_clauses 𝓤 κs a = record { ghost = Unit {0}; requires = λ _. emp 𝓤; ensures = λ _ r end. fact 𝓤 (K a.0.now r) }

  abbrev pub self : Ended
  self = record {
    signature = record { lifetimes = 2; outlives = []; params = RefMutOf (0 ∷ []) tt (plain (λ κs. X T)) (λ κs. tt) ∷ SliceRefOf (1 ∷ []) tt (plain (λ κs. u8)) (λ κs. tt) ∷ []; result = plain (λ κs. N T) };
    kept = (yes, (yes, tt));
  }

  abbrev pub self_clauses : {M : Type 1} (𝓤 : Ura M) → Clauses 𝓤 self
  self_clauses 𝓤 κs a = record { ghost = Unit {0}; requires = λ _. emp 𝓤; ensures = λ _ r end. fact 𝓤 (K a.1.0.now (L.step_of end.0.now r)) }

  -- what is had of each parameter at exit: the record is still lent, a `&mut [T]` was given to the callee, and nothing is needed of
  -- the others
  abbrev stayed : Stays self.signature.params self.kept
  stayed = (stay_ref (0 ∷ []) tt (plain (λ _. X T)), (stay_dropped (shr_slice_of (1 ∷ []) tt (plain (λ _. u8))) yes, tt))

  abbrev pub Callee : {M : Type 1} {𝓤 : Ura M} (𝓛 : Logic 𝓤) → Contract 𝓤
  Callee {𝓤 = 𝓤} 𝓛 = triple_of 𝓛 called.signature (closing 𝓛 called (called_clauses 𝓤))

  module _ {M : Type 1} {𝓤 : Ura M} (𝓛 : Logic 𝓤) (κ : Lft) (q : Share) (b o : ℕ) (γ : GName) (h : T.exec.Value) (κ1 : Lft) (q1 : Share) (b1 o1 : ℕ) (v1 : List ℕ) (room1 : Room u8 (length v1)) where
    open 𝓛 use {H, A}

    abbrev Arg : Type 0
    Arg = MutBor T.exec.Value × (Bor (List ℕ) × Unit {0})

    abbrev x : Arg
    x = (record { ref_ptr = (b, o); ghost_name = γ; now = h }, (record { ref_ptr = (b1, o1); now = v1 }, tt))

    abbrev Vals : Type 0
    Vals = List Val × (List Val × Unit {0})

    abbrev at : Vals
    at = (vptr b o ∷ [], (slice_val (b1, o1) (length v1) ∷ [], tt))

    abbrev Post : Val → SProp 𝓤
    Post = (walk_of 𝓛 self stayed (self_clauses 𝓤)).post (((κ, (κ1, tt)), (q, (q1, tt)), tt, x, at), tt)

    -- the last values of the callee's parameters, and what it ensures
    abbrev Last : Type 0
    Last = Unit {0} × Unit {0}

    abbrev Known : T.Step → Last → Type 0
    Known r zs = K (v1) r

    exits : (r : T.Step) (zs : Last) → Is (N T) (L.answer_of_step r) (L.nval (L.answer_of_step r) ∷ []) → Known r zs → ent 𝓤 (⋆ 𝓛 (‵ (fobs γ ((X T).coded.code (L.exec_of r))) ∷ ‵ (fbor κ (LentBody (mem (X T)) b o γ)) ∷ ‵ (flft κ q) ∷ (‵ (flft κ1 q1) ⊛ ‵ ftrue) ∷ [])) (Post (L.nval (L.answer_of_step r)))
    exits r zs is e =
        qed 𝓛 (‵ (fobs γ ((X T).coded.code (L.exec_of r))) ∷ ‵ (fbor κ (LentBody (mem (X T)) b o γ)) ∷ ‵ (flft κ q) ∷ (‵ (flft κ1 q1) ⊛ ‵ ftrue) ∷ []) ∵
        suffices ! _ (ends_at 𝓛 self stayed (self_clauses 𝓤) (((κ, (κ1, tt)), (q, (q1, tt)), tt, x, at), tt) (L.nval (L.answer_of_step r)) (L.answer_of_step r) (L.exec_of r, (tt, tt)) (tt, (tt, tt))) $
        says ! (subst (λ (s : T.Step). Known s zs) (sym (L.rebuilt r)) e) $ move ! (2 ∷ 3 ∷ []) $ join ! $ frame ! $ feq_i ! (List Val) (vptr b o ∷ []) (vptr b o ∷ []) refl $ fjoin3 ! $ nothing ! $
        nothing ! $ fjoin ! $ move ! (1 ∷ 0 ∷ []) $ fjoin ! $ frame ! $
        owned ! (N T) (Is (N T)) (L.n_makes 𝓛) (L.answer_of_step r) _ is $ done !

    -- what the callee's triple binds outside, and its `pre`: the others' tokens and what the others own go to it as they stand
    abbrev to : (Callee 𝓛).Ghost
    to = (((κ1, tt), (q1, tt), tt, (record { ref_ptr = (b1, o1); now = v1 }, tt), (slice_val (b1, o1) (length v1) ∷ [], tt)), tt)

    goes_in : ent 𝓤 (sep 𝓤 (sem 𝓛 (owns (ShrSlice (named 1) κ1 u8 ∷ []) x.1 at.1)) (sep 𝓤 (A.lft κ1 q1) (sem 𝓛 ftrue))) ((Callee 𝓛).pre to)
    goes_in = qed 𝓛 (‵ (owns (ShrSlice (named 1) κ1 u8 ∷ []) x.1 at.1) ∷ (‵ (flft κ1 q1) ⊛ ‵ ftrue) ∷ []) ∵ move ! (1 ∷ 0 ∷ []) $ join ! $ frame ! $ done !

    module _ (C : Calls 𝓤 H) (Λ : Loops 𝓤 H) (fm : FmC 𝓤 H 𝓛.laws C) (known : Triple 𝓤 (C callee) (Callee 𝓛)) where
      walk : ent 𝓤 (on_entry 𝓛 self.signature (κ, (κ1, tt)) (q, (q1, tt)) x at) (WpFn 𝓤 H C Λ function (vptr b o ∷ slice_val (b1, o1) (length v1) ∷ []) Post)
      walk =
          qed 𝓛 ((‵ (flft κ q) ⊛ ‵ (flft κ1 q1) ⊛ ‵ ftrue) ∷ ‵ (owns (MutRef (named 0) κ (X T) ∷ ShrSlice (named 1) κ1 u8 ∷ []) x at) ∷ []) ∵ split ! $ move ! (2 ∷ []) $ fsplit ! $ fsplit3 ! $ drop ! $ move ! (0 ∷ 1 ∷ 3 ∷ []) $
          -- [obs; the borrow; its token; what the others own; their tokens]
          enter ! C Λ function (vptr b o ∷ slice_val (b1, o1) (length v1) ∷ []) _ $
          alloc1 ! (λ l0. alloc1 ! (λ l1. alloc1 ! (λ l2. alloc1 ! (λ l3. alloc0 ! $ params1 ! $
          pass1 ! (init ! 4 refl (tt, tt)) $ pass1 ! (init ! 2 refl (tt, (tt, (record { fits = room1.0 }, tt)))) $ pass0 ! $
          move ! (8 ∷ 9 ∷ 10 ∷ []) $ opens ! tt (X T) {h = h} b o (λ vs. spelt ! (X T) (Is (X T)) (shows 𝓛 (X T)) (λ y. L.xval y ∷ []) L.x_tells full_share h vs b o $
          move ! (1 ∷ []) $ peeks ! (X T) (Is (X T)) (shows 𝓛 (X T)) h (L.xval h ∷ []) (λ was. move ! (1 ∷ 0 ∷ []) $
          -- [the record's cell; what it owns; the open borrow; obs; auth; the locals, the last first; what the others own; their tokens]
          move ! (13 ∷ 14 ∷ []) $ use2 𝓛 (raw ((Callee 𝓛).pre to)) (goes_in) $
          calls_at ! fm (Callee 𝓛) known to (and_then ! (load ! (from ! (stop !)) (look ! 8 refl)) (no_more !)) (λ w.
          use1 𝓛 (later (some (λ (r : T.Step). ((‵ (flft κ1 q1) ⊛ ‵ ftrue) ⊛ ‵ ((S T).own_val r (w ∷ []))) ⊛ raw (ensured 𝓛 called (called_clauses 𝓤) (κ1, tt) (record { ref_ptr = (b1, o1); now = v1 }, tt) tt r)))) (id⊢ 𝓤 _) $ await ! tt $ pick ! (λ r.
          split ! $ move ! (1 ∷ []) $ use1 𝓛 (some (λ (zs : Last). ‵ (lasts called (κ1, tt) (record { ref_ptr = (b1, o1); now = v1 }, tt) zs) ⊛ raw (fact 𝓤 (Known r zs)))) (id⊢ 𝓤 _) $ pick ! (λ zs. split ! $ move ! (1 ∷ []) $ heard ! (Known r zs) (λ e.
          -- each parameter's last value is taken off
          fsplit ! $ drop ! $ drop ! $ move ! (0 ∷ []) $ split ! $ move ! (1 ∷ []) $
          peeks ! (S T) (Is (S T)) (shows 𝓛 (S T)) r (w ∷ []) (λ is.
          -- [what the step owns; the others' tokens; the slices' last lists, the last first; the record's cell; what it owns; the open borrow; obs; auth; the locals]
          land ! (from ! (stop !)) (init ! 7 refl ((L.s_lawful 𝓛).typed r _ is).0) $ rewrite ! 7 (λ (u : Val). ‵ (fat full_share (step_type T) l3 0 u)) (ap only (L.s_tells r _ is)) refl $
          assigns ! (of_opd ! (load ! (from ! (fld ! refl (stop !))) (look_in ! 7 (sub ! 0 refl (whole !))))) (from ! (hop ! (look ! 11 refl) (stop !))) (store_raw ! 2 refl ((L.x_lawful 𝓛).typed (L.exec_of r) _ (L.is_exec r _ is)).0) $
          assigns ! (of_opd ! (load ! (from ! (fld ! refl (stop !))) (look_in ! 7 (sub ! 1 refl (whole !))))) (from ! (stop !)) (init ! 13 refl ((L.n_lawful 𝓛).typed (L.answer_of_step r) _ (L.is_answer r _ is)).0) $
          drop ! $ move ! (2 ∷ []) $ drop ! $ owned ! (X T) (Is (X T)) (L.x_makes 𝓛) (L.exec_of r) _ (L.is_exec r _ is) $ move ! (2 ∷ 0 ∷ 3 ∷ 4 ∷ 5 ∷ []) $ closes ! tt (X T) (L.exec_of r) (L.xval (L.exec_of r) ∷ []) b o $
          -- [obs; the borrow; its token; the others' tokens; the slices' last lists; the locals]
          returns ! (look ! 10 refl) $ forget ! 4 refl $ forget ! 6 refl $ forget ! 8 refl $ forget ! 10 refl $
          move ! (10 ∷ 11 ∷ []) $ free1 ! $ move ! (8 ∷ 9 ∷ []) $ free1 ! $ move ! (6 ∷ 7 ∷ []) $ free1 ! $ move ! (4 ∷ 5 ∷ []) $ free1 ! $ free0 ! $
          keep ! (0 ∷ 1 ∷ 2 ∷ 3 ∷ []) $ by ! (exits r zs (L.is_answer r _ is) e))))))))))))

  module _ {M : Type 1} {𝓤 : Ura M} (𝓛 : Logic 𝓤) where
    open 𝓛 use {H}

    walks : (C : Calls 𝓤 H) (Λ : Loops 𝓤 H) → FmC 𝓤 H 𝓛.laws C → Triple 𝓤 (C callee) (Callee 𝓛) → Walks 𝓛 self stayed (WpFn 𝓤 H C Λ function) (self_clauses 𝓤)
    walks C Λ fm known = walked 𝓛 self stayed (self_clauses 𝓤) (WpFn 𝓤 H C Λ function) (λ κs. (mut_vals, (shr_slice_vals, tt)))
        (λ κs. (mut_Tells (named 0) κs.0 (X T), (shr_slice_Tells (named 1) κs.1.0 u8, tt)))
        (λ κs qs bounds a g are. via 𝓤 _ (fst∗ 𝓤 _ (emp 𝓤)) (walk 𝓛 κs.0 qs.0 a.0.ref_ptr.0 a.0.ref_ptr.1 a.0.ghost_name a.0.now κs.1.0 qs.1.0 a.1.0.ref_ptr.0 a.1.0.ref_ptr.1 a.1.0.now are.1.0.0.1 C Λ fm known))

    goes : AllGo 𝓛 2 self.signature.params self.kept stayed
    goes = (Goes-ref 𝓛 2 0 tt (plain (λ _. X T)), (Goes-dropped 𝓛 2 (shr_slice_of (1 ∷ []) tt (plain (λ _. u8))) yes (λ κs x f. refl), tt))

    pub meets : (𝓣 : Tables 𝓤 H) → Triple 𝓤 (𝓣.C callee) (Callee 𝓛) → Meets 𝓛 self.signature (WpFn 𝓤 H 𝓣.C 𝓣.Λ function) (closing 𝓛 self (self_clauses 𝓤))
    meets 𝓣 known =
        walk_Meets 𝓛 self stayed goes (self_clauses 𝓤) (WpFn 𝓤 H 𝓣.C 𝓣.Λ function) (WpFn-mono 𝓤 H 𝓛.laws 𝓣 function)
        (walks 𝓣.C 𝓣.Λ (fm_of 𝓤 H 𝓛.laws 𝓣) known)
