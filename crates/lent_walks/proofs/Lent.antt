-- WHAT A WALK OVER A LENT RECORD KNOWS of the record, of the answer and of the step that holds the two: each is plain data of one machine
-- value, and nothing more is said of it. So a walk is checked once, whatever the record's fields are. Assumes nothing.
use mathlib.Core.Path.{◌≡◌}
use mathlib.Core.List.{[], ◌∷◌, List}
use seplogic.Ra.Ura.{Ura}
use mir.Syntax.{Sym, Ty, ty_int, ty_bool, ty_struct, tnil, tcons, Written, w32}
use mir.Val.{Val, vint, vbool, vstruct, vnil, vcons}
use Prim.Native.Nat.{ℕ}
use base.Fml.{Fml, Lft}
use base.Stored.{Coded}
use types.Logic.{Logic}
use denote.RattleType.{RattleType}
use denote.Laws.{Is, Tells, Makes, Lawful}
use denote.Plain.{uint_Tells, uint_Lawful, bool_Tells, bool_Lawful}
use denote.Builtin.{u32, bool}
use denote.Exit.{unchanged}

-- a type of one machine value that a function's exit leaves as it was passed
pub record One : Type 2 where
  pub Value : Type 0
  pub ty : Ty
  pub written : Written
  pub reaches : List (Written × List Ty)
  pub lives : Lft
  pub own : Value → List Val → Fml
  pub coded : Coded Value
  pub shr_at : Value → ℕ → ℕ → Lft → Fml

abbrev pub row : One → RattleType
row o = record { Denot = o.Value; mir = o.ty ∷ []; written = o.written; reaches = o.reaches; lives = o.lives; own_val = o.own; exit = λ k. unchanged; coded = o.coded; shr_at = o.shr_at }

-- a declared type's row by its parts: `row (one R τ)` is R itself where R has the one machine type τ
abbrev pub one : RattleType → Ty → One
one R τ = record { Value = R.Denot; ty = τ; written = R.written; reaches = R.reaches; lives = R.lives; own = R.own_val; coded = R.coded; shr_at = R.shr_at }

-- what a walk knows of a parameter by value
pub record Plain (P : One) : Type 2 where
  pub val : P.Value → Val
  pub tells : Tells (row P) (Is (row P)) (λ x. val x ∷ [])
  pub lawful : {M : Type 1} {𝓤 : Ura M} (𝓛 : Logic 𝓤) → Lawful 𝓛 (row P)

abbrev pub number : One
number = one u32 (ty_int w32)

abbrev pub number_plain : Plain number
number_plain = record { val = vint w32; tells = uint_Tells w32; lawful = λ 𝓛. uint_Lawful 𝓛 w32 }

abbrev pub truth : One
truth = one bool ty_bool

abbrev pub truth_plain : Plain truth
truth_plain = record { val = vbool; tells = bool_Tells; lawful = λ 𝓛. bool_Lawful 𝓛 }

-- the record, the answer, and the step: a struct of the two, of the name `sym`
pub record Types : Type 2 where
  pub exec : One
  pub answer : One
  pub sym : Sym
  pub Step : Type 0
  pub written : Written
  pub reaches : List (Written × List Ty)
  pub lives : Lft
  pub own : Step → List Val → Fml
  pub coded : Coded Step
  pub shr_at : Step → ℕ → ℕ → Lft → Fml

abbrev pub X : Types → RattleType
X T = row T.exec

abbrev pub N : Types → RattleType
N T = row T.answer

abbrev pub step_type : Types → Ty
step_type T = ty_struct T.sym (tcons T.exec.ty (tcons T.answer.ty tnil))

abbrev pub S : Types → RattleType
S T = row (record { Value = T.Step; ty = step_type T; written = T.written; reaches = T.reaches; lives = T.lives; own = T.own; coded = T.coded; shr_at = T.shr_at })

pub record Laws (T : Types) : Type 2 where
  pub xval : T.exec.Value → Val
  pub nval : T.answer.Value → Val
  pub exec_of : T.Step → T.exec.Value
  pub answer_of_step : T.Step → T.answer.Value
  pub step_of : T.exec.Value → T.answer.Value → T.Step
  pub rebuilt : (r : T.Step) → step_of (exec_of r) (answer_of_step r) ≡ r
  pub x_tells : Tells (X T) (Is (X T)) (λ x. xval x ∷ [])
  pub s_tells : Tells (S T) (Is (S T)) (λ r. vstruct (vcons (xval (exec_of r)) (vcons (nval (answer_of_step r)) vnil)) ∷ [])
  pub is_exec : (r : T.Step) (vs : List Val) → Is (S T) r vs → Is (X T) (exec_of r) (xval (exec_of r) ∷ [])
  pub is_answer : (r : T.Step) (vs : List Val) → Is (S T) r vs → Is (N T) (answer_of_step r) (nval (answer_of_step r) ∷ [])
  pub x_lawful : {M : Type 1} {𝓤 : Ura M} (𝓛 : Logic 𝓤) → Lawful 𝓛 (X T)
  pub s_lawful : {M : Type 1} {𝓤 : Ura M} (𝓛 : Logic 𝓤) → Lawful 𝓛 (S T)
  pub n_lawful : {M : Type 1} {𝓤 : Ura M} (𝓛 : Logic 𝓤) → Lawful 𝓛 (N T)
  pub x_makes : {M : Type 1} {𝓤 : Ura M} (𝓛 : Logic 𝓤) → Makes 𝓛 (X T) (Is (X T))
  pub n_makes : {M : Type 1} {𝓤 : Ura M} (𝓛 : Logic 𝓤) → Makes 𝓛 (N T) (Is (N T))
