-- The signal: what it queues, and what it owes.
use Rattle.std.specs.Prelude.{◌≡◌, Bool, List, [], ℕ}
use Rattle.std.proofs.Common.{◌∙◌, ap}
use Rattle.rig.specs.declared.Cycle.{Cycle}
use Rattle.rig.specs.declared.Rig.{Rig}
use Rattle.rules.specs.State as S
use Rattle.rules.specs.Serving.{push}
use Rattle.rules.specs.Calls as R
use Rattle.exec_queue.specs.View.{entries_of}
use Rattle.exec_queue.specs.Post.{Pushed}
use Rattle.exec_queue.specs.declared.Queue.{Queue}
use Rattle.exec_state.specs.View.{rig_of, view_of, work_of}
use Rattle.exec_state.specs.Laws.Effects.{pushed_one}
use Rattle.exec_state.specs.declared.State.{State}
use Rattle.laws.specs.Bits.{bit}

-- the queue that the code makes
pub signal_work : (g : Rig) (cycles : List Cycle) (s : State) (f : ℕ) (b : Bool) (none q : Queue) (v : ℕ) → entries_of none ≡ [] → v ≡ bit b → Pushed none f v q
    → work_of s q ≡ R.effect (rig_of g cycles) (view_of s) (R.signal f (bit b))
unfolding R.effect
signal_work g cycles s f b none q v z e m =
    ap (λ (l : List S.Entry). record { now = view_of s; queue = l }) (pushed_one none q f v z m ∙ ap (λ (n : ℕ). push f n []) e)
