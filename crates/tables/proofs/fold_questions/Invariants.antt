-- A turn goes on in the sheet, and there are no more questions than bytes.
use Rattle.std.proofs.Common.{◌-◌, ◌≤◌, length}
use Rattle.tables.proofs.fold_questions.Given as goal

abbrev pub invariant-loop-ask : goal.invariant-loop-ask
invariant-loop-ask l = (l.asked.count ≤ l.at) × (l.at ≤ length l.sheet)

abbrev pub decreases-loop-ask : goal.decreases-loop-ask
decreases-loop-ask l = length l.sheet - l.at
