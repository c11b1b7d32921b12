-- The loop's invariant: the lists are those of the first i types. Assumes nothing.
use Rattle.std.proofs.Common.{◌≡◌, ◌*◌, ◌++◌, drop}
use Rattle.shapes.specs.Rows.{flat}
use Rattle.records.specs.Records.{records}
use Rattle.records.proofs.layouts.Given as goal

abbrev pub invariant-loop-i : goal.invariant-loop-i
invariant-loop-i l =
    let s = records l.all.cfg l.all.types.now l.all.members.now l.all.given.now l.initial.offsets l.i in
    record { offsets : l.offsets ≡ s.1; layouts : l.layouts ≡ flat s.0 ++ drop (10 * l.i) l.initial.layouts }
