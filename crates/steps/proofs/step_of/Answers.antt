-- `steps::step_of` meets its contract: the match on the kind. Assumes nothing.
use Rattle.std.proofs.Common.{rules, tests}
use mir.Syntax.{w32}
use mir.ValLaws.{to_z-of_z}
use Rattle.steps.specs.Words.{decode}
use Rattle.steps.proofs.step_of.Goals as goal

pub returns-in-1 : goal.returns-in-1
unfolding decode
returns-in-1 c = rw (c.in-1.is, c.index_of.ensures)

pub returns-in-3 : goal.returns-in-3
unfolding decode
returns-in-3 c = rw (c.in-3.is, to_z-of_z w32 c.as_signed.result (record { sfits = c.as_signed.type_inv }), c.as_signed.ensures)

pub returns-in-4 : goal.returns-in-4
unfolding decode
returns-in-4 c = rw (c.in-4.is, c.index_of-in-4.ensures)

pub returns-in_default : goal.returns-in_default
unfolding decode
returns-in_default c = search (rules, tests)
