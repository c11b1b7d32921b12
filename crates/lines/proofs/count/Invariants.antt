-- `lines::count`. The loop's invariant: n fields and those that are left are as many as there are.
use Rattle.std.proofs.Common.{◌≡◌, ◌-◌, ◌≤◌, length}
use Rattle.sheet.specs.Fields.{read_all}
use Rattle.fields.specs.Pieces.{behind}
use Rattle.lines.specs.Says.{counted_from}
use Rattle.lines.proofs.count.Given as goal

abbrev pub invariant-loop-end : goal.invariant-loop-end
invariant-loop-end g l = (l.n ≤ l.end) × (counted_from 0 (read_all g.read (behind l.line l.at)) ≡ counted_from l.n (read_all g.read (behind l.line l.end)))

abbrev pub decreases-loop-end : goal.decreases-loop-end
decreases-loop-end g l = length l.line - l.end
