use Rattle.std.proofs.Common.{arith}
use Rattle.elimination.specs.Held.{own, row_at}
use Rattle.elimination.proofs.Writes.{written_own}
use Rattle.elimination.proofs.matrix.taken.Goals as goal

pub returns : goal.returns
unfolding own row_at
returns c = λ l. written_own c.loop-j.invariant (omega arith) l
