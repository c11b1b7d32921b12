-- `cells::numbers` meets its contract. The loop's invariant: the numbers so far are printed. Assumes nothing.
use Rattle.std.proofs.Common.{map, take}
use Rattle.decimal.specs.Decimal.{decimal}
use Rattle.cells.specs.Behind.{behind}
use Rattle.text.specs.Printed.{Printed}
use Rattle.cells.proofs.numbers.Given as goal

abbrev pub invariant-loop-n : goal.invariant-loop-n
invariant-loop-n l = Printed (behind (map decimal (take l.n-index l.ns))) l.initial.out l.at l.p l.out
