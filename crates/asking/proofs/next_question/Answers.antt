-- `asking::next_question` meets its contract.
use Rattle.std.proofs.Common.{arith, ◌∙◌}
use Rattle.asking.proofs.Onward.{no_line, nothing_asked, steps}
use Rattle.asking.proofs.next_question.Goals as goal

pub returns-in-Some-question_in : goal.returns-in-Some-question_in
returns-in-Some-question_in c = rw c.loop-line.invariant.2 at (steps c.in-Some.ensures c.in-Some-question_in.ensures _ _ _ _ _ c.loop-line.invariant.0 c.loop-line.invariant.1 c.hand.ensures c.map.ensures.cases)

pub loop-line-preserved : goal.loop-line-preserved
loop-line-preserved c = (omega arith, c.loop-line.invariant.1 ∙ nothing_asked c.in-Some.ensures c.in_default-question_in.ensures, c.loop-line.invariant.2)

pub returns : goal.returns
returns c = record { none = c.loop-line.invariant.1 ∙ no_line _ _ c.in_default.ensures; list = c.loop-line.invariant.2 }
