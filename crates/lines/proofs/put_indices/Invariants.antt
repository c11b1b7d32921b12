-- `lines::put_indices`. The loop's invariant: what the fields up to the one that ends at `end` name is written.
use Rattle.std.proofs.Common.{◌-◌, ◌*◌, ◌≤◌, length}
use Rattle.spirv.specs.Rows.{encode_index}
use Rattle.sheet.specs.Fields.{read_index}
use Rattle.lines.proofs.Left.{Filled}
use Rattle.lines.proofs.put_indices.Given as goal

abbrev pub invariant-loop-f : goal.invariant-loop-f
invariant-loop-f l = (l.n ≤ 2 * l.end) × Filled encode_index read_index l.line l.initial.list 0 l.at l.n l.end l.list

abbrev pub decreases-loop-f : goal.decreases-loop-f
decreases-loop-f l = length l.line - l.end
