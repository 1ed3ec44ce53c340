-- The line that was begun is the last of the input's lines, unless it has no bytes.
use Rattle.std.proofs.Common.{refl}
use Rattle.saying.specs.Standing.{At}
use Rattle.transcript.specs.Session.{Progress}
use Rattle.reading.proofs.ChunkTaken.{input_ended, last_Carries}
use Rattle.reading.proofs.Reading.take_last.Goals as goal

pub returns-clause-at : goal.returns-clause-at
returns-clause-at g c input f =
    input_ended input c.args.self.now c.args.history.now c.args.out.now f refl (λ (p : Progress). At p c.take_pending.new.self c.take_pending.new.history c.take_pending.new.out)
    c.take_pending.ensures.at

pub returns-clause-sent : goal.returns-clause-sent
returns-clause-sent g c input f =
    last_Carries input c.args.self.now c.take_pending.new.self c.args.history.now c.args.out.now f refl (g.W.Write.contents c.args.output.now) (g.W.Write.contents c.take_pending.new.output)
    c.take_pending.ensures.sent
