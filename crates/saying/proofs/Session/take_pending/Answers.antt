-- A line of which 1,025 bytes are kept is taken as the whole line is.
use Rattle.std.proofs.Common.{ap, ◌∙◌}
use Rattle.transcript.specs.Session.{with_line}
use Rattle.saying.specs.Saying.{said_to}
use Rattle.saying.proofs.KeptLines.{kept_taken, kept_said}
use Rattle.saying.proofs.Session.take_pending.Goals as goal

pub returns-clause-at : goal.returns-clause-at
returns-clause-at g c p line at is =
    let same = ap (with_line p) c.front-line.ensures ∙ kept_taken p line _ is in
    rw same at (c.take_line.ensures.at p at)

pub returns-clause-waiting_after : goal.returns-clause-waiting_after
returns-clause-waiting_after g c p line at is =
    let same = ap (said_to p) c.front-line.ensures ∙ kept_said p line _ is in
    rw same at (c.take_line.ensures.waiting_after p at)

pub returns-clause-sent : goal.returns-clause-sent
returns-clause-sent g c p line before at is s =
    let same = ap (with_line p) c.front-line.ensures ∙ kept_taken p line _ is in
    rw same at (c.take_line.ensures.sent p before at s)
