-- `qptr::qptr_find_components` meets its contract. Assumes nothing.
use mir.Syntax.{w64}
use mir.ValLaws.{to_z-of_z}
use Rattle.qptr.proofs.Laws.{small, got}
use borrow.Author.Rules.{rules}
use Rattle.qptr.proofs.qptr_find_components.Goals as goal

pub code-requires : goal.code-requires
code-requires c = small (search rules) c.find_components.ensures

pub returns : goal.returns
returns c = rw (to_z-of_z w64 c.code.result (record { sfits = c.code.type_inv })) (got c.find_components.ensures c.code.ensures)
