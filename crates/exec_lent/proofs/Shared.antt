-- What the laws of crate lent_walks are told of a lent `Exec`, its answer and the `Step` that holds the two: what they ask of a record
-- is so of this one.
use mathlib.Core.Path.{refl}
use denote.Struct.Laws as SL
use denote.Enum.Laws as EL
use Rattle.exec.specs.declared.Step.{Step}
use Rattle.exec.specs.contracts.Exec as X
use Rattle.exec.proofs.Exec.TheLaws as X'
use Rattle.exec.specs.contracts.Step as S
use Rattle.exec.proofs.Step.TheLaws as S'
use Rattle.exec.specs.contracts.Answer as N
use Rattle.exec.proofs.Answer.TheLaws as N'
use Rattle.lent_walks.proofs.Lent.{Types, Laws, one}

abbrev pub types : Types
types = record {
  exec = one X.the_row X'.mir;
  answer = one N.the_row N'.mir;
  sym = (S.the_type).name;
  Step = Step;
  written = (S.the_row).written;
  reaches = (S.the_row).reaches;
  lives = (S.the_row).lives;
  own = (S.the_row).own_val;
  coded = (S.the_row).coded;
  shr_at = (S.the_row).shr_at;
}

abbrev pub laws : Laws types
laws = record {
  xval = SL.val X.the_type X'.the_laws;
  nval = EL.val N.the_type N'.the_laws;
  exec_of = λ r. r.exec;
  answer_of_step = λ r. r.answer;
  step_of = λ x a. record { exec = x; answer = a };
  rebuilt = λ r. refl;
  x_tells = SL.tells X.the_type X'.the_laws;
  s_tells = SL.tells S.the_type S'.the_laws;
  is_exec = λ r vs p. (SL.owed S.the_type S'.the_laws r vs p).0;
  is_answer = λ r vs p. (SL.owed S.the_type S'.the_laws r vs p).1.0;
  x_lawful = λ 𝓛. SL.lawful X.the_type X'.the_laws 𝓛;
  s_lawful = λ 𝓛. SL.lawful S.the_type S'.the_laws 𝓛;
  n_lawful = λ 𝓛. EL.lawful N.the_type N'.the_laws 𝓛 tt;
  x_makes = λ 𝓛. SL.makes X.the_type X'.the_plain 𝓛;
  n_makes = λ 𝓛. EL.makes N.the_type N'.the_plain 𝓛;
}
