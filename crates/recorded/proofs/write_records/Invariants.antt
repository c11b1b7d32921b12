-- `recorded::write_records`. The loop's invariant: the first i records are written.
use Rattle.std.proofs.Common.{◌≡◌}
use Rattle.recorded.proofs.Laws.{so_far}
use Rattle.recorded.proofs.write_records.Given as goal

abbrev pub invariant-loop-i : goal.invariant-loop-i
invariant-loop-i l = l.records ≡ so_far l.steps.kinds.now l.steps.bytes.now l.steps.bounds.now l.steps.marks.now l.steps.indices.now l.initial.records l.i
