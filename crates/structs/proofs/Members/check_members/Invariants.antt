-- The loop's invariant: the members that are left answer as all. Assumes nothing.
use Rattle.std.proofs.Common.{◌≡◌, drop}
use Rattle.layout.specs.Structs.{member_layouts}
use Rattle.structs.specs.Rows.{below_in}
use Rattle.structs.specs.Steps.{passes}
use Rattle.structs.proofs.Members.check_members.Given as goal

abbrev pub invariant-loop-t : goal.invariant-loop-t
invariant-loop-t l = passes (member_layouts (below_in l.self.layouts.now l.self.n) (drop l.t-index l.self.types.now)) ≡ passes (member_layouts (below_in l.self.layouts.now l.self.n) l.self.types.now)
