-- A CALL ON A LENT RECORD, with a value, a value: whatever the record is, an entry whose code is `function` meets
-- its contract. The borrow is opened, the record is copied out and passed by value, the callee is called, a second callee turns what it answers into the step, the record that it hands back is stored over the old one, and the borrow is
-- closed at it. Of the callee the walk knows its contract alone. Made by tools/walks. Assumes nothing.
use mathlib.Core.Path.{refl, sym, subst, ap}
use Prim.Native.Nat.{ℕ}
use mathlib.Core.List.{[], ◌∷◌, List}
use seplogic.Ra.Ura.{Ura}
use base.Fraction.{full_share}
use mir.Syntax.{Callee as Name, Fn, seq, assign, call, return, local, value_local, named, mut, ty_ref, place, deref, field, copy, rv_opd}
use mir.Val.{Val, vptr}
use base.Logic.{SProp, ent, sep, emp, via, fst∗, id⊢}
use base.Fml.{GName, Lft, Share, ftrue, fat, flft, fobs, fbor}
use prog.Wp.{Calls, Loops, WpFn, Tables}
use types.Logic.{Logic, sem}
use contract.Monad.{fact}
use types.Kit.{‵, raw, some, later, ◌⊛◌, ⋆, ◌$◌, ◌∵◌, !, qed, by, move, keep, drop, use1, use2, split, join, pick, rewrite, fsplit, fsplit3, fjoin, fjoin3, feq_i, suffices, frame, await, done}
use types.Run.{look, look_raw, init, store_raw, forget, stop, hop, fld, from, load, of_opd, and_then, no_more, assigns, land, returns, enter, alloc1, alloc0, params1, pass1, pass0, free1, free0}
use types.Part.{whole, sub, look_in}
use types.SemTy.{Body as LentBody}
use sound.WpLaws.{FmC, fm_of, WpFn-mono}
use denote.RattleType.{owns}
use denote.Laws.{Is, shows}
use denote.Memory.{mem}
use denote.Builtin.{RefMutOf}
use denote.Ref.{MutBor, MutRef, mut_Tells, mut_vals}
use denote.Signature.{plain}
use denote.Steps.{only, opens, closes, owned, peeks, heard, nothing}
use denote.Struct.Steps.{spelt}
use denote.Triple.Entry.{on_entry}
use denote.Triple.Spec.{Meets, triple_of}
use denote.Triple.Statement.{Contract, Triple}
use denote.Triple.Call.{calls_at}
use denote.Triple.Clauses.{Ended, Clauses, closing, ensured, lasts}
use denote.Triple.Walked.{says, Stays, stay_ref, stay_dropped, walk_of, AllGo, Goes-ref, Goes-dropped, Walks, ends_at, walked, walk_Meets}
use denote.Exit.{yes}
use Rattle.lent_walks.proofs.Lent.{One, Plain, row, Types, Laws, X, N, S, step_type}

module _ (T : Types) (L : Laws T) (P1 : One) (p1 : Plain P1) (P2 : One) (p2 : Plain P2) (Q : One) (handed : Plain Q) (callee : Name) (K : T.exec.Value → P1.Value → P2.Value → Q.Value → Type 0) (teller : Name) (I : Q.Value → T.Step → Type 0) (J : T.exec.Value → P1.Value → P2.Value → T.Step → Type 0) (both : (h : T.exec.Value) (v1 : P1.Value) (v2 : P2.Value) (p : Q.Value) (r : T.Step) → K h v1 v2 p → I p r → J h v1 v2 r) where
  -- the entry's code
  abbrev pub function : Fn
  function = record {
    lifetimes = 1;
    outlives = [];
    ty_params = [];
    givens = 0;
    params = 3;
    locals = local T.answer.ty value_local ∷ local (ty_ref (named 0) mut T.exec.written.ty) value_local ∷ local P1.ty value_local ∷ local P2.ty value_local ∷ local (step_type T) value_local ∷ local Q.ty value_local ∷ local T.exec.ty value_local ∷ [];
    body = seq (assign (place 6 []) (rv_opd (copy (place 1 (deref T.exec.ty ∷ []))))) (seq (call callee (copy (place 6 []) ∷ copy (place 2 []) ∷ copy (place 3 []) ∷ []) (place 5 [])) (seq (call teller (copy (place 5 []) ∷ []) (place 4 [])) (seq (assign (place 1 (deref T.exec.ty ∷ [])) (rv_opd (copy (place 4 (field 0 ∷ []))))) (seq (assign (place 0 []) (rv_opd (copy (place 4 (field 1 ∷ []))))) return))));
  }

  -- the callee's contract, and the entry's: the same statement, of the step that the record and the answer make
  abbrev pub called : Ended
  called = record {
    signature = record { lifetimes = 0; outlives = []; params = plain (λ κs. X T) ∷ plain (λ κs. row P1) ∷ plain (λ κs. row P2) ∷ []; result = plain (λ κs. row Q) };
    kept = (yes, (yes, (yes, tt)));
  }

  abbrev pub called_clauses : {M : Type 1} (𝓤 : Ura M) → Clauses 𝓤 called
  called_clauses 𝓤 κs a = record { ghost = Unit {0}; requires = λ _. emp 𝓤; ensures = λ _ r end. fact 𝓤 (K a.0 a.1.0 a.1.1.0 r) }

  abbrev pub telling : Ended
  telling = record { signature = record { lifetimes = 0; outlives = []; params = plain (λ κs. row Q) ∷ []; result = plain (λ κs. S T) }; kept = (yes, tt) }

  abbrev pub telling_clauses : {M : Type 1} (𝓤 : Ura M) → Clauses 𝓤 telling
  telling_clauses 𝓤 κs a = record { ghost = Unit {0}; requires = λ _. emp 𝓤; ensures = λ _ r end. fact 𝓤 (I a.0 r) }

  abbrev pub self : Ended
  self = record {
    signature = record { lifetimes = 1; outlives = []; params = RefMutOf (0 ∷ []) tt (plain (λ κs. X T)) (λ κs. tt) ∷ plain (λ κs. row P1) ∷ plain (λ κs. row P2) ∷ []; result = plain (λ κs. N T) };
    kept = (yes, (yes, (yes, tt)));
  }

  abbrev pub self_clauses : {M : Type 1} (𝓤 : Ura M) → Clauses 𝓤 self
  self_clauses 𝓤 κs a = record { ghost = Unit {0}; requires = λ _. emp 𝓤; ensures = λ _ r end. fact 𝓤 (J a.0.now a.1.0 a.1.1.0 (L.step_of end.0.now r)) }

  -- what is had of each parameter at exit: the record is still lent, a `&mut [T]` was given to the callee, and nothing is needed of
  -- the others
  abbrev stayed : Stays self.signature.params self.kept
  stayed = (stay_ref (0 ∷ []) tt (plain (λ _. X T)), (stay_dropped (plain (λ κs. row P1)) yes, (stay_dropped (plain (λ κs. row P2)) yes, tt)))

  abbrev pub Callee : {M : Type 1} {𝓤 : Ura M} (𝓛 : Logic 𝓤) → Contract 𝓤
  Callee {𝓤 = 𝓤} 𝓛 = triple_of 𝓛 called.signature (closing 𝓛 called (called_clauses 𝓤))

  abbrev pub Teller : {M : Type 1} {𝓤 : Ura M} (𝓛 : Logic 𝓤) → Contract 𝓤
  Teller {𝓤 = 𝓤} 𝓛 = triple_of 𝓛 telling.signature (closing 𝓛 telling (telling_clauses 𝓤))

  module _ {M : Type 1} {𝓤 : Ura M} (𝓛 : Logic 𝓤) (κ : Lft) (q : Share) (b o : ℕ) (γ : GName) (h : T.exec.Value) (v1 : P1.Value) (is1 : Is (row P1) v1 (p1.val v1 ∷ [])) (v2 : P2.Value) (is2 : Is (row P2) v2 (p2.val v2 ∷ [])) where
    open 𝓛 use {H}

    abbrev Arg : Type 0
    Arg = MutBor T.exec.Value × (P1.Value × (P2.Value × Unit {0}))

    abbrev x : Arg
    x = (record { ref_ptr = (b, o); ghost_name = γ; now = h }, (v1, (v2, tt)))

    abbrev Vals : Type 0
    Vals = List Val × (List Val × (List Val × Unit {0}))

    abbrev at : Vals
    at = (vptr b o ∷ [], (p1.val v1 ∷ [], (p2.val v2 ∷ [], tt)))

    abbrev Post : Val → SProp 𝓤
    Post = (walk_of 𝓛 self stayed (self_clauses 𝓤)).post (((κ, tt), (q, tt), tt, x, at), tt)

    -- the last values of the callee's parameters, and what it ensures
    abbrev Last : Type 0
    Last = Unit {0} × (Unit {0} × (Unit {0} × Unit {0}))

    abbrev Known : Q.Value → Last → Type 0
    Known r zs = K (h) (v1) (v2) r

    abbrev Shown : T.Step → Last → Type 0
    Shown r zs = J (h) (v1) (v2) r

    exits : (r : T.Step) (zs : Last) → Is (N T) (L.answer_of_step r) (L.nval (L.answer_of_step r) ∷ []) → Shown r zs → ent 𝓤 (⋆ 𝓛 (‵ (fobs γ ((X T).coded.code (L.exec_of r))) ∷ ‵ (fbor κ (LentBody (mem (X T)) b o γ)) ∷ ‵ (flft κ q) ∷ ‵ ftrue ∷ [])) (Post (L.nval (L.answer_of_step r)))
    exits r zs is e =
        qed 𝓛 (‵ (fobs γ ((X T).coded.code (L.exec_of r))) ∷ ‵ (fbor κ (LentBody (mem (X T)) b o γ)) ∷ ‵ (flft κ q) ∷ ‵ ftrue ∷ []) ∵
        suffices ! _ (ends_at 𝓛 self stayed (self_clauses 𝓤) (((κ, tt), (q, tt), tt, x, at), tt) (L.nval (L.answer_of_step r)) (L.answer_of_step r) (L.exec_of r, (tt, (tt, tt))) (tt, (tt, (tt, tt)))) $
        says ! (subst (λ (s : T.Step). Shown s zs) (sym (L.rebuilt r)) e) $ move ! (2 ∷ 3 ∷ []) $ join ! $ frame ! $ feq_i ! (List Val) (vptr b o ∷ []) (vptr b o ∷ []) refl $ fjoin3 ! $ nothing ! $
        nothing ! $ fjoin ! $ nothing ! $ fjoin ! $ move ! (1 ∷ 0 ∷ []) $ fjoin ! $ frame ! $
        owned ! (N T) (Is (N T)) (L.n_makes 𝓛) (L.answer_of_step r) _ is $ done !

    -- what the callee's triple binds outside, and its `pre`: the others' tokens and what the others own go to it as they stand
    abbrev to : (Callee 𝓛).Ghost
    to = ((tt, tt, tt, (h, (v1, (v2, tt))), (L.xval h ∷ [], (p1.val v1 ∷ [], (p2.val v2 ∷ [], tt)))), tt)

    goes_in : Is (X T) h (L.xval h ∷ []) → ent 𝓤 (sep 𝓤 (sem 𝓛 (owns (row P1 ∷ row P2 ∷ []) x.1 at.1)) (sem 𝓛 ftrue)) ((Callee 𝓛).pre to)
    goes_in is = qed 𝓛 (‵ (owns (row P1 ∷ row P2 ∷ []) x.1 at.1) ∷ ‵ ftrue ∷ []) ∵ owned ! (X T) (Is (X T)) (L.x_makes 𝓛) h _ is $ fjoin ! $ move ! (1 ∷ 0 ∷ []) $ join ! $ frame ! $ done !

    abbrev on : Q.Value → Val → (Teller 𝓛).Ghost
    on p w = ((tt, tt, tt, (p, tt), (w ∷ [], tt)), tt)

    goes_on : (p : Q.Value) (w : Val) → ent 𝓤 (sem 𝓛 ((row Q).own_val p (w ∷ []))) ((Teller 𝓛).pre (on p w))
    goes_on p w = qed 𝓛 (‵ ((row Q).own_val p (w ∷ [])) ∷ []) ∵ nothing ! $ move ! (1 ∷ 0 ∷ []) $ fjoin ! $ nothing ! $ join ! $ nothing ! $ move ! (1 ∷ 0 ∷ []) $ join ! $ done !

    module _ (C : Calls 𝓤 H) (Λ : Loops 𝓤 H) (fm : FmC 𝓤 H 𝓛.laws C) (known : Triple 𝓤 (C callee) (Callee 𝓛)) (tells : Triple 𝓤 (C teller) (Teller 𝓛)) where
      walk : ent 𝓤 (on_entry 𝓛 self.signature (κ, tt) (q, tt) x at) (WpFn 𝓤 H C Λ function (vptr b o ∷ p1.val v1 ∷ p2.val v2 ∷ []) Post)
      walk =
          qed 𝓛 ((‵ (flft κ q) ⊛ ‵ ftrue) ∷ ‵ (owns (MutRef (named 0) κ (X T) ∷ row P1 ∷ row P2 ∷ []) x at) ∷ []) ∵ split ! $ move ! (2 ∷ []) $ fsplit ! $ fsplit3 ! $ drop ! $ move ! (0 ∷ 1 ∷ 3 ∷ []) $
          -- [obs; the borrow; its token; what the others own; their tokens]
          enter ! C Λ function (vptr b o ∷ p1.val v1 ∷ p2.val v2 ∷ []) _ $
          alloc1 ! (λ l0. alloc1 ! (λ l1. alloc1 ! (λ l2. alloc1 ! (λ l3. alloc1 ! (λ l4. alloc1 ! (λ l5. alloc1 ! (λ l6. alloc0 ! $ params1 ! $
          pass1 ! (init ! 10 refl (tt, tt)) $ pass1 ! (init ! 8 refl ((p1.lawful 𝓛).typed v1 _ is1).0) $ pass1 ! (init ! 6 refl ((p2.lawful 𝓛).typed v2 _ is2).0) $ pass0 ! $
          move ! (14 ∷ 15 ∷ 16 ∷ []) $ opens ! tt (X T) {h = h} b o (λ vs. spelt ! (X T) (Is (X T)) (shows 𝓛 (X T)) (λ y. L.xval y ∷ []) L.x_tells full_share h vs b o $
          move ! (1 ∷ []) $ peeks ! (X T) (Is (X T)) (shows 𝓛 (X T)) h (L.xval h ∷ []) (λ was. move ! (1 ∷ 0 ∷ []) $
          -- [the record's cell; what it owns; the open borrow; obs; auth; the locals, the last first; what the others own; their tokens]
          assigns ! (of_opd ! (load ! (from ! (hop ! (look ! 15 refl) (stop !))) (look_raw ! 0 refl))) (from ! (stop !)) (init ! 5 refl ((L.x_lawful 𝓛).typed h _ was).0) $
          move ! (19 ∷ 20 ∷ []) $ use2 𝓛 (raw ((Callee 𝓛).pre to)) (goes_in was) $
          calls_at ! fm (Callee 𝓛) known to (and_then ! (load ! (from ! (stop !)) (look ! 6 refl)) (and_then ! (load ! (from ! (stop !)) (look ! 14 refl)) (and_then ! (load ! (from ! (stop !)) (look ! 12 refl)) (no_more !)))) (λ w.
          use1 𝓛 (later (some (λ (r : Q.Value). (‵ ftrue ⊛ ‵ ((row Q).own_val r (w ∷ []))) ⊛ raw (ensured 𝓛 called (called_clauses 𝓤) tt (h, (v1, (v2, tt))) tt r)))) (id⊢ 𝓤 _) $ await ! tt $ pick ! (λ p.
          split ! $ move ! (1 ∷ []) $ use1 𝓛 (some (λ (zs : Last). ‵ (lasts called tt (h, (v1, (v2, tt))) zs) ⊛ raw (fact 𝓤 (Known p zs)))) (id⊢ 𝓤 _) $ pick ! (λ zs. split ! $ move ! (1 ∷ []) $ heard ! (Known p zs) (λ e.
          -- each parameter's last value is taken off
          fsplit ! $ drop ! $ fsplit ! $ drop ! $ fsplit ! $ drop ! $ drop ! $ move ! (0 ∷ []) $ split ! $ move ! (1 ∷ []) $
          peeks ! (row Q) (Is (row Q)) (shows 𝓛 (row Q)) p (w ∷ []) (λ isp.
          land ! (from ! (stop !)) (init ! 9 refl ((handed.lawful 𝓛).typed p _ isp).0) $
          use1 𝓛 (raw ((Teller 𝓛).pre (on p w))) (goes_on p w) $
          calls_at ! fm (Teller 𝓛) tells (on p w) (and_then ! (load ! (from ! (stop !)) (look ! 9 refl)) (no_more !)) (λ w.
          use1 𝓛 (later (some (λ (r : T.Step). (‵ ftrue ⊛ ‵ ((S T).own_val r (w ∷ []))) ⊛ raw (ensured 𝓛 telling (telling_clauses 𝓤) tt (p, tt) tt r)))) (id⊢ 𝓤 _) $ await ! tt $ pick ! (λ r.
          split ! $ move ! (1 ∷ []) $ use1 𝓛 (some (λ (ys : Unit {0} × Unit {0}). ‵ (lasts telling tt (p, tt) ys) ⊛ raw (fact 𝓤 (I p r)))) (id⊢ 𝓤 _) $ pick ! (λ ys. split ! $ move ! (1 ∷ []) $ heard ! (I p r) (λ told.
          fsplit ! $ drop ! $ drop ! $ split ! $ drop ! $
          peeks ! (S T) (Is (S T)) (shows 𝓛 (S T)) r (w ∷ []) (λ is.
          -- [what the step owns; the others' tokens; the slices' last lists, the last first; the record's cell; what it owns; the open borrow; obs; auth; the locals]
          land ! (from ! (stop !)) (init ! 11 refl ((L.s_lawful 𝓛).typed r _ is).0) $ rewrite ! 11 (λ (u : Val). ‵ (fat full_share (step_type T) l4 0 u)) (ap only (L.s_tells r _ is)) refl $
          assigns ! (of_opd ! (load ! (from ! (fld ! refl (stop !))) (look_in ! 11 (sub ! 0 refl (whole !))))) (from ! (hop ! (look ! 17 refl) (stop !))) (store_raw ! 2 refl ((L.x_lawful 𝓛).typed (L.exec_of r) _ (L.is_exec r _ is)).0) $
          assigns ! (of_opd ! (load ! (from ! (fld ! refl (stop !))) (look_in ! 11 (sub ! 1 refl (whole !))))) (from ! (stop !)) (init ! 19 refl ((L.n_lawful 𝓛).typed (L.answer_of_step r) _ (L.is_answer r _ is)).0) $
          drop ! $ move ! (2 ∷ []) $ drop ! $ owned ! (X T) (Is (X T)) (L.x_makes 𝓛) (L.exec_of r) _ (L.is_exec r _ is) $ move ! (2 ∷ 0 ∷ 3 ∷ 4 ∷ 5 ∷ []) $ closes ! tt (X T) (L.exec_of r) (L.xval (L.exec_of r) ∷ []) b o $
          -- [obs; the borrow; its token; the others' tokens; the slices' last lists; the locals]
          returns ! (look ! 16 refl) $ forget ! 4 refl $ forget ! 6 refl $ forget ! 8 refl $ forget ! 10 refl $ forget ! 12 refl $ forget ! 14 refl $ forget ! 16 refl $
          move ! (16 ∷ 17 ∷ []) $ free1 ! $ move ! (14 ∷ 15 ∷ []) $ free1 ! $ move ! (12 ∷ 13 ∷ []) $ free1 ! $ move ! (10 ∷ 11 ∷ []) $ free1 ! $ move ! (8 ∷ 9 ∷ []) $ free1 ! $ move ! (6 ∷ 7 ∷ []) $ free1 ! $ move ! (4 ∷ 5 ∷ []) $ free1 ! $ free0 ! $
          keep ! (0 ∷ 1 ∷ 2 ∷ 3 ∷ []) $ by ! (exits r zs (L.is_answer r _ is) (both h v1 v2 p r e told)))))))))))))))))))))

  module _ {M : Type 1} {𝓤 : Ura M} (𝓛 : Logic 𝓤) where
    open 𝓛 use {H}

    walks : (C : Calls 𝓤 H) (Λ : Loops 𝓤 H) → FmC 𝓤 H 𝓛.laws C → Triple 𝓤 (C callee) (Callee 𝓛) → Triple 𝓤 (C teller) (Teller 𝓛) → Walks 𝓛 self stayed (WpFn 𝓤 H C Λ function) (self_clauses 𝓤)
    walks C Λ fm known tells = walked 𝓛 self stayed (self_clauses 𝓤) (WpFn 𝓤 H C Λ function) (λ κs. (mut_vals, ((λ y. p1.val y ∷ []), ((λ y. p2.val y ∷ []), tt))))
        (λ κs. (mut_Tells (named 0) κs.0 (X T), (p1.tells, (p2.tells, tt))))
        (λ κs qs bounds a g are. via 𝓤 _ (fst∗ 𝓤 _ (emp 𝓤)) (walk 𝓛 κs.0 qs.0 a.0.ref_ptr.0 a.0.ref_ptr.1 a.0.ghost_name a.0.now a.1.0 are.1.0 a.1.1.0 are.1.1.0 C Λ fm known tells))

    goes : AllGo 𝓛 1 self.signature.params self.kept stayed
    goes = (Goes-ref 𝓛 1 0 tt (plain (λ _. X T)), (Goes-dropped 𝓛 1 (plain (λ κs. row P1)) yes (λ κs x f. refl), (Goes-dropped 𝓛 1 (plain (λ κs. row P2)) yes (λ κs x f. refl), tt)))

    pub meets : (𝓣 : Tables 𝓤 H) → Triple 𝓤 (𝓣.C callee) (Callee 𝓛) → Triple 𝓤 (𝓣.C teller) (Teller 𝓛) → Meets 𝓛 self.signature (WpFn 𝓤 H 𝓣.C 𝓣.Λ function) (closing 𝓛 self (self_clauses 𝓤))
    meets 𝓣 known tells =
        walk_Meets 𝓛 self stayed goes (self_clauses 𝓤) (WpFn 𝓤 H 𝓣.C 𝓣.Λ function) (WpFn-mono 𝓤 H 𝓛.laws 𝓣 function)
        (walks 𝓣.C 𝓣.Λ (fm_of 𝓤 H 𝓛.laws 𝓣) known tells)
