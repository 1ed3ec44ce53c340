-- The digits of a number are those of its tenth and the last one. The measure is the number.
use Rattle.writing.proofs.Text.+push_number.Given as goal

abbrev pub decreases-push_number : goal.decreases-push_number
decreases-push_number l = l.n
