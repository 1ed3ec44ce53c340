-- Each line that is completed is taken; what is left of the chunk grows shorter.
use Rattle.std.proofs.Common.{true, ◌≡◌, ℕ, ◌-◌, List, length}
use Rattle.output.specs.Output.{FailureKept}
use Rattle.reading.proofs.ChunkTaken.{Amid, AmidOn}
use Rattle.reading.proofs.Reading.take_chunk.Given as goal

abbrev pub invariant-loop-behind : goal.invariant-loop-behind
invariant-loop-behind g l = record {
  places : length l.history ≡ length l.fn.history;
  size : length l.out ≡ length l.fn.out;
  more : l.self.more ≡ true;
  heard : l.self.heard ≡ l.fn.self.heard;
  left : l.self.left ≡ l.fn.self.left - 1;
  on : (input : List ℕ) (a : Amid input l.chunk l.chunk l.fn.self.session l.fn.self.pending l.fn.history l.fn.out) →
      AmidOn input l.chunk l.chunk l.fn.self.session l.fn.self.pending l.fn.history l.fn.out a l.rest l.self.session l.self.pending l.history l.out
      (g.W.Write.contents l.fn.output) (g.W.Write.contents l.output);
  failure : FailureKept l.fn.self.session.waiting l.self.session.waiting;
}

abbrev pub decreases-loop-behind : goal.decreases-loop-behind
decreases-loop-behind g l = length l.rest
