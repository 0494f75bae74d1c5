-- The rows of a right rig.
use Rattle.std.specs.Prelude.{List}
use Rattle.std.proofs.Common.{arith}
use Rattle.rig.specs.Rules.{Right}
use Rattle.rig.specs.declared.Cycle.{Cycle}
use Rattle.rig.specs.declared.Rig.{Rig}
use Rattle.compool.specs.Post.{RowsFit}

-- the rows are as the bus words ask
pub rows_fit : (g : Rig) (cycles : List Cycle) → Right g cycles → RowsFit g.rows g.row
rows_fit g cycles h =
    record {
      few = h.row_count;
      row = λ k b.
          let s = h.rows k b in
          record {
            sender = s.sender;
            sender_sub = omega (arith, s.sender_sub.1);
            receiver = s.receiver;
            receiver_sub = omega (arith, s.receiver_sub.1);
            period = omega (arith, s.phase);
          };
    }
