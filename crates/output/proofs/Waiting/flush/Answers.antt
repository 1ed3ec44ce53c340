-- What waited is written, or a part of it.
use Rattle.std.proofs.Common.{rules, take, length}
use Rattle.streams.specs.Streams.{written}
use Rattle.output.proofs.WhatWaits.{flushed_Sent, unwritten}
use Rattle.output.proofs.Waiting.flush.Goals as goal

pub returns-clause-sent : goal.returns-clause-sent
returns-clause-sent g c = λ before said s.
    let xs = take c.args.self.now.len c.args.out.now in
    rw c.emptied-2.ensures
    (flushed_Sent (written (length xs) c.write-written.result) c.write-written.result.whole (search rules)
    (rw c.front.ensures at c.write-written.ensures.bytes) (rw c.front.ensures at c.write-written.ensures.whole) s)

pub returns-clause-unwritten : goal.returns-clause-unwritten
returns-clause-unwritten g c sound fails =
    let xs = take c.args.self.now.len c.args.out.now in
    (written (length xs) c.write-written.result, unwritten (length xs) c.write-written.result (rw c.front.ensures at c.write-written.ensures.stopped) (rw c.emptied-2.ensures at fails), rw c.front.ensures at c.write-written.ensures.bytes)
