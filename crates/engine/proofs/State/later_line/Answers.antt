-- The state's words are those of the circuit's polynomial, so the entry is that of its listing, and its bytes have room.
use Rattle.engine.proofs.CallLaws.{fetch_short, fetch_nought, fetch_unlisted, fetch_past, fetch_line}
use Rattle.engine.proofs.State.later_line.Goals.{then-number-eq0-via-then-number-eq0, then-number-eq0-via-else-number-eq0+then-not-self}
use Rattle.engine.proofs.State.later_line.Goals as goal

pub returns-then-buffer-lt-LEAST_BUFFER : goal.returns-then-buffer-lt-LEAST_BUFFER
returns-then-buffer-lt-LEAST_BUFFER c e h k = rw c.number.ensures (fetch_short e _ h _ k _ c.if-buffer-lt-LEAST_BUFFER.true)

pub returns-then-number-eq0 : goal.returns-then-number-eq0
returns-then-number-eq0 c e h k =
    let room = c.if-buffer-lt-LEAST_BUFFER.false in
    elim c.then-number-eq0.branch [
      | then-number-eq0-via-then-number-eq0 w ↦ fetch_nought e _ h _ k _ room w.if-number-eq0.true
      | then-number-eq0-via-else-number-eq0+then-not-self w ↦ fetch_unlisted e _ h _ k _ room w.if-not-self.true
    ]

pub returns-in_default : goal.returns-in_default
returns-in_default c e h k =
    fetch_past e _ h _ k _ c.if-buffer-lt-LEAST_BUFFER.false c.if-number-eq0.false c.if-not-self.false _
    c.term_at.ensures
    c.in_default.is

pub returns : goal.returns
returns c e h k =
    fetch_line e _ h _ k _ c.if-buffer-lt-LEAST_BUFFER.false c.if-number-eq0.false c.if-not-self.false _
    c.term_at.ensures
    _ _ _
    c.in-Some.is
    c.write.ensures
