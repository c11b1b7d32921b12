-- `records::layouts` meets its contract, by one row more. Assumes nothing.
use Rattle.std.proofs.Common.{ℕ, List, arith, ap, refl, ◌∙◌}
use Rattle.shapes.specs.Rows.{flat}
use Rattle.records.specs.Records.{records}
use Rattle.records.proofs.Filled.{record_next}
use Rattle.records.proofs.layouts.Goals as goal

pub loop-i-init : goal.loop-i-init
unfolding records flat
loop-i-init c = record { offsets = refl; layouts = refl }

pub loop-i-preserved : goal.loop-i-preserved
loop-i-preserved c =
    let a = c.args.all.now in
    let l = c.loop-i in
    let e = rw (l.invariant.offsets, l.invariant.layouts) at c.add_record.ensures in
    let g = e ∙ record_next a.cfg a.types.now a.members.now a.given.now c.args.offsets.now l.i c.args.layouts.now (omega arith) in
    record { offsets = ap (λ (p : List ℕ × List ℕ). p.0) g; layouts = ap (λ (p : List ℕ × List ℕ). p.1) g }
