-- The lines are said as they are fetched, and there are no more of them than terms.
use Rattle.std.proofs.Common.{◌≡◌, ℕ, List, ◌+◌, ◌-◌, suc, refl, rules, arith}
use Rattle.output.specs.Waits.{Sent, Waits}
use Rattle.output.proofs.WhatWaits.{nothing_into}
use Rattle.transcript.proofs.LaterLines.{later_few}
use Rattle.saying.proofs.ListingSaid.{none_Listed, all_listed, past_listed, one_Listed, all_into, one_into}
use Rattle.saying.proofs.list.Goals as goal

pub loop-number-init : goal.loop-number-init
loop-number-init g c = record {
  same_length = refl;
  room = search rules;
  waits = none_Listed _ _ (λ (said : List ℕ). Waits said c.args.out.now c.args.waiting.now);
  into = λ e h held big. nothing_into _;
  failure = λ failed. failed;
  sent = λ before. none_Listed _ _ (λ (said : List ℕ). Sent before said c.args.out.now c.args.waiting.now (g.W.Write.contents c.args.output.now));
}

pub returns-then-len-eq0-clause-waits : goal.returns-then-len-eq0-clause-waits
returns-then-len-eq0-clause-waits g c e h said held big w =
    let loop = c.loop-number in
    let number : loop.number ≡ suc (loop.number - 1) = omega arith in
    all_listed _ _ (λ (said : List ℕ). Waits said c.args.out.now c.args.waiting.now) (loop.number - 1) (λ (said : List ℕ). Waits said loop.out loop.waiting) loop.invariant.waits e h said held big w
    (past_listed _ (loop.number - 1) loop.number number c.later_line-len.ensures loop.invariant.room c.if-len-eq0.true e h held)

pub returns-then-len-eq0-clause-result_after : goal.returns-then-len-eq0-clause-result_after
returns-then-len-eq0-clause-result_after g c e h held big =
    let loop = c.loop-number in
    let number : loop.number ≡ suc (loop.number - 1) = omega arith in
    all_into c.args.state.now c.args.out.now c.args.waiting.now (loop.number - 1) loop.out loop.waiting loop.invariant.into e h held big
    (past_listed _ (loop.number - 1) loop.number number c.later_line-len.ensures loop.invariant.room c.if-len-eq0.true e h held)

pub returns-then-len-eq0-clause-sent : goal.returns-then-len-eq0-clause-sent
returns-then-len-eq0-clause-sent g c e h before said held big w =
    let loop = c.loop-number in
    let number : loop.number ≡ suc (loop.number - 1) = omega arith in
    all_listed _ _ (λ (said : List ℕ). Sent before said c.args.out.now c.args.waiting.now (g.W.Write.contents c.args.output.now)) (loop.number - 1) (λ (said : List ℕ). Sent before said loop.out loop.waiting (g.W.Write.contents loop.output)) (loop.invariant.sent before) e h said held big w
    (past_listed _ (loop.number - 1) loop.number number c.later_line-len.ensures loop.invariant.room c.if-len-eq0.true e h held)

pub loop-number-preserved : goal.loop-number-preserved
loop-number-preserved g c =
    let loop = c.loop-number in
    let fetched = c.later_line-len in
    let said = c.say in
    let number : loop.number ≡ suc (loop.number - 1) = omega arith in
    let next : loop.number + 1 - 1 ≡ loop.number = omega arith in
    record {
      same_length = search rules;
      room = search rules;
      waits = rw next (one_Listed _ _ (λ (said : List ℕ). Waits said c.args.out.now c.args.waiting.now) (loop.number - 1) (λ (said : List ℕ). Waits said loop.out loop.waiting) loop.invariant.waits loop.number (λ (said : List ℕ). Waits said c.say.new.out c.say.new.self) number fetched.ensures loop.invariant.room c.front.ensures (search rules)
          (rw loop.invariant.same_length at said.ensures.waits) c.if-len-eq0.false);
      into = rw next (one_into c.args.state.now c.args.out.now c.args.waiting.now (loop.number - 1) loop.out loop.waiting loop.invariant.into loop.number said.new.out _ said.new.self number fetched.ensures loop.invariant.room c.front.ensures
          said.ensures.result_after c.if-len-eq0.false);
      failure = λ failed. said.ensures.failure_kept (loop.invariant.failure failed);
      sent = λ before. rw next (one_Listed _ _ (λ (said : List ℕ). Sent before said c.args.out.now c.args.waiting.now (g.W.Write.contents c.args.output.now)) (loop.number - 1) (λ (said : List ℕ). Sent before said loop.out loop.waiting (g.W.Write.contents loop.output)) (loop.invariant.sent before) loop.number (λ (said : List ℕ). Sent before said c.say.new.out c.say.new.self (g.W.Write.contents c.say.new.output)) number fetched.ensures loop.invariant.room c.front.ensures (search rules)
          (rw loop.invariant.same_length at (said.ensures.sent before)) c.if-len-eq0.false);
    }

pub returns-clause-waits : goal.returns-clause-waits
returns-clause-waits g c e h said held big w =
    let loop = c.loop-number in
    all_listed _ _ (λ (said : List ℕ). Waits said c.args.out.now c.args.waiting.now) (loop.number - 1) (λ (said : List ℕ). Waits said loop.out loop.waiting) loop.invariant.waits e h said held big w (omega (arith, later_few e))

pub returns-clause-result_after : goal.returns-clause-result_after
returns-clause-result_after g c e h held big =
    let loop = c.loop-number in
    all_into c.args.state.now c.args.out.now c.args.waiting.now (loop.number - 1) loop.out loop.waiting loop.invariant.into e h held big (omega (arith, later_few e))

pub returns-clause-sent : goal.returns-clause-sent
returns-clause-sent g c e h before said held big w =
    let loop = c.loop-number in
    all_listed _ _ (λ (said : List ℕ). Sent before said c.args.out.now c.args.waiting.now (g.W.Write.contents c.args.output.now)) (loop.number - 1) (λ (said : List ℕ). Sent before said loop.out loop.waiting (g.W.Write.contents loop.output)) (loop.invariant.sent before) e h said held big w (omega (arith, later_few e))
