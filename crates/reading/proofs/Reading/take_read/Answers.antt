-- Nothing delivered ends the input; what was delivered is the front of the chunk that is taken.
use Rattle.std.proofs.Common.{refl, ap, rules}
use Rattle.reading.specs.declared.Reading.{Reading}
use Rattle.reading.proofs.ReadTaken.{read_ended, read_taken, ended_sent, taken_sent}
use Rattle.reading.proofs.Reading.take_read.Goals as goal

pub returns-then-count-eq0-clause-received : goal.returns-then-count-eq0-clause-received
returns-then-count-eq0-clause-received g c input f =
    let none = c.if-count-eq0.true in
    let left = ap (λ (r : Reading). r.left) c.take_last.ensures.rest_kept in
    read_ended c.args.chunk.now c.args.answer.now c.count-count.ensures.in_bounds c.count-count.ensures.value none refl left
    (c.take_last.ensures.at input f) (c.take_last.ensures.last_said input f)

pub returns-then-count-eq0-clause-sent : goal.returns-then-count-eq0-clause-sent
returns-then-count-eq0-clause-sent g c input f =
    let no_byte = c.if-count-eq0.true in
    let left = ap (λ (r : Reading). r.left) c.take_last.ensures.rest_kept in
    let received = read_ended c.args.chunk.now c.args.answer.now c.count-count.ensures.in_bounds c.count-count.ensures.value no_byte refl left
    (c.take_last.ensures.at input f) (c.take_last.ensures.last_said input f) in (
      received,
      ended_sent c.args.chunk.now c.args.answer.now c.count-count.ensures.in_bounds c.count-count.ensures.value no_byte received
          (g.W.Write.contents c.args.output.now) (g.W.Write.contents c.take_last.new.output) (c.take_last.ensures.sent input f),
    )

pub returns-else-count-eq0-clause-received : goal.returns-else-count-eq0-clause-received
returns-else-count-eq0-clause-received g c input f =
    let some = c.if-count-eq0.false in
    read_taken c.args.chunk.now c.args.answer.now c.count-count.ensures.in_bounds c.count-count.ensures.value some (search rules)
    c.take_chunk.ensures.more_value c.take_chunk.ensures.left_value (c.take_chunk.ensures.follows_on input f)

pub returns-else-count-eq0-clause-sent : goal.returns-else-count-eq0-clause-sent
returns-else-count-eq0-clause-sent g c input f =
    let a_byte = c.if-count-eq0.false in
    taken_sent c.args.chunk.now c.args.answer.now c.count-count.ensures.in_bounds c.count-count.ensures.value a_byte (search rules)
    c.take_chunk.ensures.more_value c.take_chunk.ensures.left_value (g.W.Write.contents c.args.output.now) (g.W.Write.contents c.take_chunk.new.output)
    (c.take_chunk.ensures.sent input f)
