use Rattle.std.proofs.Common.{refl, arith}
use Rattle.elimination.specs.Held.{own, row_at}
use Rattle.elimination.proofs.Writes.{Written-next, written_row, written_others}
use Rattle.elimination.proofs.matrix.put.Goals as goal

pub loop-j-preserved : goal.loop-j-preserved
loop-j-preserved c = Written-next _ c.loop-j.invariant (λ n h q. omega arith) (omega arith) (λ l. refl)

pub returns : goal.returns
unfolding own row_at
returns c = let w = c.loop-j.invariant in (w.size, λ l. written_row _ w (omega arith) l, λ l k h. written_others _ w (omega arith) l k h)
