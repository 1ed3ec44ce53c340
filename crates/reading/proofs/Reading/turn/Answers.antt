-- What the read answered is taken, and what the write answered is heeded.
use Rattle.reading.proofs.ReadTaken.{turn_taken, turn_Sent}
use Rattle.reading.proofs.Reading.turn.Goals as goal

pub returns-clause-turned : goal.returns-clause-turned
returns-clause-turned g c bytes f = turn_taken (c.take_read.ensures.received bytes f) c.after_flush.ensures.flushed c.flush.ensures.len_value

pub returns-clause-sent : goal.returns-clause-sent
returns-clause-sent g c bytes f =
    let taken = c.take_read.ensures.sent bytes f in
    turn_Sent taken.0 (g.W.Write.contents c.args.output.now) (g.W.Write.contents c.take_read.new.output) (g.W.Write.contents c.flush.new.output) taken.1
    c.after_flush.ensures.flushed c.flush.ensures.len_value (g.R.Read.remaining c.args.input.now) (g.R.Read.remaining c.read-read.new.input)
    c.read-read.ensures.came c.flush.ensures.sent
