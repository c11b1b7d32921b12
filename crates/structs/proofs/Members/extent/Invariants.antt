-- The loop's invariant: the members that are left, from the extent so far, give the whole. Assumes nothing.
use Rattle.std.proofs.Common.{◌≡◌, drop}
use Rattle.layout.specs.Structs.{no_members}
use Rattle.structs.specs.Rows.{below_in}
use Rattle.structs.specs.Steps.{extent_of, extent_in}
use Rattle.structs.proofs.Members.extent.Given as goal

abbrev pub invariant-loop-i : goal.invariant-loop-i
invariant-loop-i l =
    extent_of l.self.cfg (below_in l.self.layouts.now l.self.n) (drop l.i l.self.given.now) (extent_in l.x) (drop l.i l.self.types.now)
    ≡ extent_of l.self.cfg (below_in l.self.layouts.now l.self.n) l.self.given.now (no_members l.self.cfg) l.self.types.now
