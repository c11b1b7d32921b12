-- `lines::put_members`. The loop's invariant: what the fields up to the one that ends at `end` name is written.
use Rattle.std.proofs.Common.{ℕ, ◌-◌, ◌≤◌, ◌∷◌, [], length}
use Rattle.sheet.specs.Fields.{read_type}
use Rattle.lines.proofs.Left.{Filled}
use Rattle.lines.proofs.put_members.Given as goal

abbrev pub invariant-loop-f : goal.invariant-loop-f
invariant-loop-f l = (l.n ≤ l.end) × Filled (λ (m : ℕ). m ∷ []) (read_type l.above) l.line l.initial.list l.first l.at l.n l.end l.list

abbrev pub decreases-loop-f : goal.decreases-loop-f
decreases-loop-f l = length l.line - l.end
