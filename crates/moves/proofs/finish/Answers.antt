-- `moves::finish` meets its contract: 24 where the last step has no room. Assumes nothing.
use mir.Syntax.{w32}
use mir.Val.{SFits}
use mir.ValLaws.{to_z-of_z}
use Rattle.std.proofs.Common.{rules, arith}
use Rattle.steps.proofs.Stored.{none_stored}
use Rattle.moves.proofs.Writes.{short_of_room, ended}
use Rattle.moves.proofs.finish.Goals as goal

pub returns-then-room-count : goal.returns-then-room-count
returns-then-room-count c = short_of_room _ _ _ _ _ _ _ _ (omega (arith, c.if-room-count.true, c.after-count.ensures))

pub returns-in-Some : goal.returns-in-Some
returns-in-Some c =
    let fits : SFits w32 c.in-Some.z = search rules in
    rw c.after-count.ensures (ended c.args.p _ _ _ _ _ _ _ _ _ _ _ _ (omega (arith, c.requires, c.if-room-count.false, c.after-count.ensures)) (rw c.in-Some.is (simp (to_z-of_z w32 _ fits) at c.store.ensures)))

pub returns-in_default : goal.returns-in_default
returns-in_default c =
    rw c.after-count.ensures (ended c.args.p _ _ _ _ _ _ _ _ _ _ _ _ (omega (arith, c.requires, c.if-room-count.false, c.after-count.ensures)) (rw c.in_default.is (none_stored _ _ _ _ _ _)))
