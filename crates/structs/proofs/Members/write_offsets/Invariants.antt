-- The loop's invariant: the offsets that are left, stored behind those that are there, give the whole. Assumes nothing.
use Rattle.std.proofs.Common.{◌≡◌, ◌+◌, drop}
use Rattle.std.proofs.lemmas.List.Edits.{sets}
use Rattle.layout.specs.Structs.{no_members}
use Rattle.structs.specs.Rows.{below_in}
use Rattle.structs.specs.Steps.{offsets_of, extent_in}
use Rattle.structs.proofs.Members.write_offsets.Given as goal

abbrev pub invariant-loop-i : goal.invariant-loop-i
invariant-loop-i l =
    sets l.offsets (l.at + l.i) (offsets_of l.self.cfg (below_in l.self.layouts.now l.self.n) (drop l.i l.self.given.now) (extent_in l.x) (drop l.i l.self.types.now))
    ≡ sets l.initial.offsets l.at (offsets_of l.self.cfg (below_in l.self.layouts.now l.self.n) l.self.given.now (no_members l.self.cfg) l.self.types.now)
