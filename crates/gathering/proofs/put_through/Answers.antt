-- `gathering::put_through` meets its contract: the lines are measured as they are printed, and copied where they fit. Assumes nothing.
use native.Mathlib.Omega.{arith}
use mathlib.Core.Path.{sym}
use lib.Seq.{length-take-le}
use Rattle.gathering.proofs.Through.{no_room, printed_again, copied}
use borrow.Author.Rules.{rules}
use Rattle.gathering.proofs.put_through.Goals as goal

pub returns-then-out-size : goal.returns-then-out-size
returns-then-out-size c = record { whole = no_room _ (search rules) c.put_answers-size.ensures c.if-out-size.true; own_after = c.put_answers-size.ensures.bytes }

pub returns-then-own-size : goal.returns-then-own-size
returns-then-own-size c = record { whole = printed_again _ (omega (arith, c.well_formed)) c.put_answers-size.ensures c.if-out-size.false c.put_answers.ensures; own_after = c.put_answers-size.ensures.bytes }

pub slice_bounds-bytes-end-2 : goal.slice_bounds-bytes-end-2
slice_bounds-bytes-end-2 c = sym (length-take-le _ _ c.if-own-size.false)

pub returns : goal.returns
returns c =
    record {
      whole = copied _ (omega (arith, c.well_formed)) c.put_answers-size.ensures (omega (arith, c.well_formed)) (omega (arith, c.put_answers-size.auto, c.if-own-size.false)) c.if-out-size.false c.bytes.ensures;
      own_after = c.put_answers-size.ensures.bytes;
    }
