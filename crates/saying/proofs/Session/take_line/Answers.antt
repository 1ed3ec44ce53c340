-- The engine takes the line; its answer is said, and the lines of a listing after it.
use Rattle.std.proofs.Common.{ℕ, List, refl, rules}
use Rattle.output.specs.Waits.{Sent}
use Rattle.saying.proofs.LineTaken.{line_skipped, line_said, line_listed, skipped_into, said_into, listed_into, said_nothing, said_by, listed_by}
use Rattle.saying.proofs.Session.take_line.Goals as goal

pub returns-then-len-eq0-clause-at : goal.returns-then-len-eq0-clause-at
returns-then-len-eq0-clause-at g c p at = line_skipped p _ _ _ _ at c.take_line-len.ensures refl (search rules) c.if-len-eq0.true

pub returns-then-len-eq0-clause-waiting_after : goal.returns-then-len-eq0-clause-waiting_after
returns-then-len-eq0-clause-waiting_after g c p at = skipped_into p _ _ _ _ at c.take_line-len.ensures refl (search rules) c.if-len-eq0.true

pub returns-then-len-eq0-clause-sent : goal.returns-then-len-eq0-clause-sent
returns-then-len-eq0-clause-sent g c p before at s =
    rw (said_nothing p _ _ _ _ at c.take_line-len.ensures refl (search rules) c.if-len-eq0.true) s

pub returns-then-self-clause-at : goal.returns-then-self-clause-at
returns-then-self-clause-at g c p at =
    line_listed p _ _ _ _ at c.take_line-len.ensures refl (search rules) c.if-len-eq0.false c.say.ensures.waits c.say.ensures.result_after c.front.ensures
    c.say.auto.out c.list.auto.out c.list.ensures.waits

pub returns-then-self-clause-waiting_after : goal.returns-then-self-clause-waiting_after
returns-then-self-clause-waiting_after g c p at =
    listed_into p _ _ _ _ at c.take_line-len.ensures refl (search rules) c.if-len-eq0.false c.say.ensures.waits c.say.ensures.result_after c.front.ensures
    c.say.auto.out c.list.ensures.waits c.list.ensures.result_after

pub returns-then-self-clause-sent : goal.returns-then-self-clause-sent
returns-then-self-clause-sent g c p before at s =
    listed_by p _ _ _ _ at c.take_line-len.ensures refl (search rules) c.if-len-eq0.false c.say.ensures.waits c.say.ensures.result_after c.front.ensures
    (λ (said : List ℕ). Sent before said c.args.out.now c.args.self.now.waiting (g.W.Write.contents c.args.output.now))
    (λ (said : List ℕ). Sent before said c.say.new.out c.say.new.self (g.W.Write.contents c.say.new.output))
    (λ (said : List ℕ). Sent before said c.list.new.out c.list.new.waiting (g.W.Write.contents c.list.new.output))
    (c.say.ensures.sent before) c.say.auto.out (λ e h said. c.list.ensures.sent e h before said) s

pub returns-else-self-clause-at : goal.returns-else-self-clause-at
returns-else-self-clause-at g c p at =
    line_said p _ _ _ _ at c.take_line-len.ensures refl (search rules) c.if-len-eq0.false c.say.ensures.waits c.say.ensures.result_after c.front.ensures
    c.if-self.false c.say.auto.out

pub returns-else-self-clause-waiting_after : goal.returns-else-self-clause-waiting_after
returns-else-self-clause-waiting_after g c p at =
    said_into p _ _ _ _ at c.take_line-len.ensures refl (search rules) c.if-len-eq0.false c.say.ensures.waits c.say.ensures.result_after c.front.ensures
    c.if-self.false

pub returns-else-self-clause-sent : goal.returns-else-self-clause-sent
returns-else-self-clause-sent g c p before at s =
    said_by p _ _ _ _ at c.take_line-len.ensures refl (search rules) c.if-len-eq0.false c.say.ensures.waits c.say.ensures.result_after c.front.ensures
    (λ (said : List ℕ). Sent before said c.args.out.now c.args.self.now.waiting (g.W.Write.contents c.args.output.now))
    (λ (said : List ℕ). Sent before said c.say.new.out c.say.new.self (g.W.Write.contents c.say.new.output))
    c.if-self.false (c.say.ensures.sent before) s
