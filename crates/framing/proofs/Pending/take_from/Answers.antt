-- The part before the first line feed is put behind the line so far; the feed's place tells what is left.
use Rattle.std.proofs.Common.{◌∙◌, sym}
use Rattle.framing.proofs.Scans.{none_pending, none_left, feed_pending, feed_left}
use Rattle.framing.proofs.Pending.take_from.Goals as goal

pub returns-in_default-clause-pending : goal.returns-in_default-clause-pending
returns-in_default-clause-pending c = c.append.ensures ∙ none_pending _ _ (sym c.feed_at.ensures ∙ c.in_default.is)

pub returns-in_default-clause-rest : goal.returns-in_default-clause-rest
returns-in_default-clause-rest c = none_left _ _ (sym c.feed_at.ensures ∙ c.in_default.is)

pub returns-clause-pending : goal.returns-clause-pending
returns-clause-pending c = c.append-2.ensures ∙ feed_pending _ _ _ (sym c.feed_at.ensures ∙ c.in-Some.is)

pub returns-clause-rest : goal.returns-clause-rest
returns-clause-rest c = feed_left _ _ _ (sym c.feed_at.ensures ∙ c.in-Some.is)
