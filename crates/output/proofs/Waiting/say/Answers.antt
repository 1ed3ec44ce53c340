-- The line waits behind what waited, or alone, once that is written.
use Rattle.std.proofs.Common.{◌≤◌, arith}
use Rattle.output.proofs.WhatWaits.{moved_on, put_nothing, line-Waits, first-Waits, line_Into, first-Into, line-Sent, first_Sent}
use Rattle.output.proofs.Waiting.say.Goals as goal

pub returns-else-self-at-clause-waits : goal.returns-else-self-at-clause-waits
returns-else-self-at-clause-waits g c said less w = line-Waits w _ c.put_line-self.ensures (moved_on c.put_line-self.ensures c.if-self-at.false)

pub returns-else-self-at-clause-result_after : goal.returns-else-self-at-clause-result_after
returns-else-self-at-clause-result_after g c = line_Into c.put_line-self.ensures (moved_on c.put_line-self.ensures c.if-self-at.false)

pub returns-else-self-at-clause-sent : goal.returns-else-self-at-clause-sent
returns-else-self-at-clause-sent g c before said less s = line-Sent s _ c.put_line-self.ensures (moved_on c.put_line-self.ensures c.if-self-at.false)

pub returns-then-self-at-clause-waits : goal.returns-then-self-at-clause-waits
returns-then-self-at-clause-waits g c said less w =
    first-Waits w c.put_line-self.ensures (omega arith) c.put_line-self-then-self-at.ensures c.flush.ensures.len_value less

pub returns-then-self-at-clause-result_after : goal.returns-then-self-at-clause-result_after
returns-then-self-at-clause-result_after g c =
    first-Into c.put_line-self.ensures (omega arith) c.put_line-self-then-self-at.ensures c.flush.ensures.len_value

pub returns-then-self-at-clause-sent : goal.returns-then-self-at-clause-sent
returns-then-self-at-clause-sent g c before said less s =
    let stays : c.put_line-self.result ≤ c.args.self.now.len = omega arith in
    let flushed = c.flush.ensures.sent before said (rw (put_nothing c.put_line-self.ensures stays, c.if-self-at.true) s) in
    first_Sent c.put_line-self.ensures stays flushed c.flush.ensures.len_value c.put_line-self-then-self-at.ensures less
