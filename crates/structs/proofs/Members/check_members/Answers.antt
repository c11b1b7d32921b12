-- `structs::check_members` meets its contract, by a turn of the walk. Assumes nothing.
use Rattle.std.proofs.Common.{arith, sym, ap, ◌∙◌}
use Rattle.arith.specs.InCode.{in_code}
use Rattle.structs.specs.Rows.{below_in}
use Rattle.structs.proofs.Inversions.{handed_on}
use Rattle.structs.proofs.Walk.{check_next, check_stop}
use Rattle.structs.proofs.Members.check_members.Goals as goal

pub returns-in_err-member_at : goal.returns-in_err-member_at
returns-in_err-member_at c =
    let a = c.args.self.now in
    let l = c.loop-t in
    handed_on _ c.from_residual.ensures ∙ ap in_code (sym (check_stop (below_in a.layouts.now a.n) a.types.now l.t-index _ (omega arith) c.in_err-member_at.ensures) ∙ l.invariant)

pub loop-t-preserved : goal.loop-t-preserved
loop-t-preserved c =
    let a = c.args.self.now in
    let l = c.loop-t in
    sym (check_next (below_in a.layouts.now a.n) a.types.now l.t-index _ (omega arith) c.in_ok-member_at.ensures) ∙ l.invariant
