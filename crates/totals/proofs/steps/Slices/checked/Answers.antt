-- The tests in turn: the number of positions, the first slice, and the slices after it.
use Rattle.std.proofs.Common.{refl, ◌+◌, ◌^◌, ◌<◌, arith, le-leb}
use borrow.Author.Tests.{lt-leb}
use Rattle.gf2.proofs.WordBits.{one_shifted}
use Rattle.slices.specs.Totals.{are_slices}
use Rattle.totals.proofs.steps.Slices.checked.Goals as goal

pub returns-then-m-gt16 : goal.returns-then-m-gt16
unfolding are_slices
returns-then-m-gt16 c = rw (lt-leb c.args.m 16 c.if-m-gt16.true)

pub returns-in_err-left : goal.returns-in_err-left
unfolding are_slices
returns-in_err-left c =
    let a = c.args in
    let s : _ = one_shifted 64 a.m (omega arith) in
    let past : 2 ^ a.m < a.from = omega (arith, c.in_err-left.ensures, s) in
    rw (c.from_residual.ensures, le-leb a.m 16 (omega arith), lt-leb (a.from + a.count) (2 ^ a.m) (omega arith))

pub returns-then-left-count : goal.returns-then-left-count
unfolding are_slices
returns-then-left-count c =
    let a = c.args in
    let s : _ = one_shifted 64 a.m (omega arith) in
    rw (le-leb a.m 16 (omega arith), lt-leb (a.from + a.count) (2 ^ a.m) (omega arith))

pub returns : goal.returns
unfolding are_slices
returns c =
    let a = c.args in
    let s : _ = one_shifted 64 a.m (omega arith) in
    (rw (le-leb a.m 16 (omega arith), le-leb (a.from + a.count) (2 ^ a.m) (omega arith)), refl, refl, refl)
