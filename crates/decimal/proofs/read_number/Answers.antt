-- `decimal::read_number` meets its contract. Assumes nothing.
use Rattle.std.proofs.Common.{sym, ap, ◌∙◌}
use Rattle.arith.specs.InCode.{as_option}
use Rattle.decimal.proofs.OneByOne.{unbegun, begun, turn, stop}
use Rattle.decimal.proofs.read_number.Goals as goal

pub returns-then-not-well_begun : goal.returns-then-not-well_begun
returns-then-not-well_begun c = sym (ap as_option (unbegun _ (sym c.well_begun.ensures ∙ c.if-not-well_begun.true)))

pub loop-b-init : goal.loop-b-init
loop-b-init c = begun _ (sym c.well_begun.ensures ∙ c.if-not-well_begun.false)

pub returns-in_err-v : goal.returns-in_err-v
returns-in_err-v c = c.from_residual.ensures ∙ stop _ _ _ c.loop-b.invariant c.loop-b-test.true c.in_err-v.ensures

pub loop-b-preserved : goal.loop-b-preserved
loop-b-preserved c = turn _ _ _ c.loop-b.invariant c.loop-b-test.true c.in_ok-v.ensures
