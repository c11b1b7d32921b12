-- `qptr::qptr_local_variable` meets its contract. Assumes nothing.
use mir.Syntax.{w64}
use mir.ValLaws.{to_z-of_z}
use Rattle.qptr.proofs.Laws.{small, got}
use borrow.Author.Rules.{rules}
use Rattle.qptr.proofs.qptr_local_variable.Goals as goal

pub code-requires : goal.code-requires
code-requires c = small (search rules) c.local_variable.ensures

pub returns : goal.returns
returns c = rw (to_z-of_z w64 c.code.result (record { sfits = c.code.type_inv })) (got c.local_variable.ensures c.code.ensures)
