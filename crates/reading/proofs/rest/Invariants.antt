-- `reading::rest` meets its contract. The loop's invariant: the lines up to index at make a sheet, and those that are left make of it what the whole is.
use Rattle.std.proofs.Common.{◌-◌, length, drop}
use Rattle.decimal.specs.Text.{split}
use Rattle.sheet.specs.Grammar.{Setting}
use Rattle.sheet.specs.Sheet.{read_lines}
use Rattle.reading.specs.Reads.{empty_sheet}
use Rattle.reading.proofs.Reached.{Reached}
use Rattle.reading.proofs.rest.Given as goal

abbrev pub invariant-loop-line : goal.invariant-loop-line
invariant-loop-line l = Reached l.s l.write (read_lines (empty_sheet l.fn.g) (Setting l.fn.g) (split 10 (drop l.from l.s))) l.initial.types l.initial.members l.initial.given l.at l.t l.types l.members l.given

abbrev pub decreases-loop-line : goal.decreases-loop-line
decreases-loop-line l = length l.s - l.at
