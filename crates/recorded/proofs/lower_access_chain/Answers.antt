-- `recorded::lower_access_chain` meets its contract: one number for what was lowered. Assumes nothing.
use mir.Syntax.{w64}
use mir.ValLaws.{to_z-of_z}
use lib.ListN.{length}
use Rattle.std.proofs.Common.{rules}
use Rattle.recorded.proofs.Laws.{small, recorded}
use Rattle.recorded.proofs.lower_access_chain.Goals as goal

pub code-requires : goal.code-requires
code-requires c = small (length c.args.steps.now) _ _ _ _ (search rules) c.lower.ensures.says

pub returns : goal.returns
returns c = rw (to_z-of_z w64 c.code.result (record { sfits = c.code.type_inv })) (recorded _ c.lower.ensures c.code.ensures)
