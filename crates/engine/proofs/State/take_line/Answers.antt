-- A line of no bytes is skipped, a short buffer is refusal 1, and any other line has its turn, whose answer has room in the 64 bytes.
use Rattle.std.proofs.Common.{sym, ◌∙◌}
use Rattle.engine.proofs.States.{stands}
use Rattle.engine.proofs.CallLaws.{Given-none, Given-short, Given-answer}
use Rattle.engine.proofs.State.take_line.Goals as goal

pub returns-then-is_empty : goal.returns-then-is_empty
returns-then-is_empty c e h = Given-none e _ _ _ _ h (sym c.is_empty.ensures ∙ c.if-is_empty.true)

pub returns-then-buffer-lt-LEAST_BUFFER : goal.returns-then-buffer-lt-LEAST_BUFFER
returns-then-buffer-lt-LEAST_BUFFER c e h =
    rw c.number.ensures (Given-short e _ _ _ _ h (sym c.is_empty.ensures ∙ c.if-is_empty.false) c.if-buffer-lt-LEAST_BUFFER.true)

pub returns : goal.returns
returns c e h =
    Given-answer e _ _ _ _ h (sym c.is_empty.ensures ∙ c.if-is_empty.false) c.if-buffer-lt-LEAST_BUFFER.false _ _ _ _ _ _
    (c.take_line-answer.ensures e.circuit e.opened (stands e _ _ h))
    c.write.ensures c.has_lines-self.ensures c.refusal_number.ensures
