-- `recorded::write_records` meets its contract.
use Rattle.std.proofs.Common.{sym, arith}
use Rattle.recorded.proofs.Laws.{so_far_none, so_far_next}
use Rattle.recorded.proofs.write_records.Goals as goal

pub loop-i-init : goal.loop-i-init
loop-i-init c = sym (so_far_none _ _ _ _ _ _)

pub loop-i-preserved : goal.loop-i-preserved
loop-i-preserved c =
    let s = c.args.steps.now in
    let e = so_far_next s.kinds.now s.bytes.now s.bounds.now s.marks.now s.indices.now c.args.records.now c.loop-i.i (omega (arith, c.requires)) in
    rw (c.loop-i.invariant, c.record_of.ensures, c.at.ensures) e
