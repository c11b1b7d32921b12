-- `cells::first_steps` meets its contract. The loop's invariant: the first j steps are printed. Assumes nothing.
use Rattle.answers.specs.Lines.{steps_fields}
use Rattle.cells.specs.Behind.{behind}
use Rattle.steps.specs.Lists.{steps_in}
use Rattle.text.specs.Printed.{Printed}
use Rattle.cells.proofs.first_steps.Given as goal

abbrev pub invariant-loop-j : goal.invariant-loop-j
invariant-loop-j l = Printed (behind (steps_fields (steps_in l.steps.kinds.now l.steps.bytes.now l.steps.bounds.now l.steps.marks.now l.steps.indices.now l.j))) l.initial.out l.at l.p l.out
