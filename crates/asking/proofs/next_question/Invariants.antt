-- `asking::next_question` meets its contract. The loop's invariant: the lines that were passed asked nothing.
use Rattle.std.proofs.Common.{◌≡◌, ◌-◌, ◌≤◌, length}
use Rattle.asking.specs.Questions.{questions_from}
use Rattle.asking.proofs.next_question.Given as goal

abbrev pub invariant-loop-line : goal.invariant-loop-line
invariant-loop-line l = (l.at ≤ l.from) × (questions_from l.sheet l.at ≡ questions_from l.sheet l.from) × (l.indices ≡ l.initial.indices)

abbrev pub decreases-loop-line : goal.decreases-loop-line
decreases-loop-line l = length l.sheet - l.from
