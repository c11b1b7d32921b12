-- `lines::put_members` meets its contract. Assumes nothing.
use Rattle.std.proofs.Common.{refl, arith, ◌∙◌}
use Rattle.lines.proofs.Left.{filled_more, filled_end, words_each}
use Rattle.lines.proofs.put_members.Goals as goal

pub loop-f-preserved : goal.loop-f-preserved
loop-f-preserved c = (omega (arith, c.in-Some.ensures.later), filled_more c.loop-f.invariant.1 c.in-Some.ensures refl refl c.put_at.ensures)

pub returns : goal.returns
returns c = λ ms q. filled_end c.loop-f.invariant.1 c.in_default.ensures ms q ∙ (rw words_each)
