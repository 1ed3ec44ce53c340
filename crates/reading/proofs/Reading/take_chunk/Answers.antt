-- Each line that is completed is taken; a chunk that holds no further line feed is kept as the line that was begun.
use Rattle.std.proofs.Common.{refl, rules}
use Rattle.framing.proofs.Scans.{left_none, left_some}
use Rattle.reading.proofs.ChunkTaken.{chunk_begun, on_begun, on_line, chunk_followed}
use Rattle.reading.proofs.Reading.take_chunk.Goals as goal

pub loop-behind-init : goal.loop-behind-init
loop-behind-init g c = record {
  places = refl;
  size = refl;
  more = refl;
  heard = refl;
  left = search rules;
  on = λ input a. on_begun _ _ _ _ _ _ _ a _;
  failure = λ failed. failed;
}

pub loop-behind-preserved : goal.loop-behind-preserved
loop-behind-preserved g c =
    let loop = c.loop-behind in
    let taken = c.take_pending in
    let left = left_some _ _ c.in-Some.ensures.rest in
    record {
      places = search rules;
      size = search rules;
      more = loop.invariant.more;
      heard = loop.invariant.heard;
      left = loop.invariant.left;
      on = λ input a.
          on_line _ _ _ _ _ _ _ a loop.rest.now loop.self.session loop.self.pending loop.history loop.out c.take_from.new.self c.take_from.ensures.pending _ _
          (loop.invariant.on input a) left.0 left.1 c.empty-self.ensures taken.ensures.at taken.ensures.waiting_after _ taken.ensures.sent;
      failure = λ failed. taken.ensures.failure_kept (loop.invariant.failure failed);
    }

pub returns-clause-follows_on : goal.returns-clause-follows_on
returns-clause-follows_on g c input f =
    let loop = c.loop-behind in
    (chunk_followed input c.args.chunk.now c.args.self.now _ _ f loop.rest.now loop.self.session loop.self.pending loop.history loop.out c.take_from.new.self
    c.take_from.ensures.pending (g.W.Write.contents c.args.output.now) (g.W.Write.contents loop.output)
    (loop.invariant.on input (chunk_begun input c.args.chunk.now c.args.self.now _ _ f)) (left_none _ _ c.in_default.ensures.rest)).0

pub returns-clause-sent : goal.returns-clause-sent
returns-clause-sent g c input f =
    let loop = c.loop-behind in
    chunk_followed input c.args.chunk.now c.args.self.now _ _ f loop.rest.now loop.self.session loop.self.pending loop.history loop.out c.take_from.new.self
    c.take_from.ensures.pending (g.W.Write.contents c.args.output.now) (g.W.Write.contents loop.output)
    (loop.invariant.on input (chunk_begun input c.args.chunk.now c.args.self.now _ _ f)) (left_none _ _ c.in_default.ensures.rest)
