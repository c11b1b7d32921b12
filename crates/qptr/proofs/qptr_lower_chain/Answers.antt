-- `qptr::qptr_lower_chain` meets its contract. Assumes nothing.
use mir.Syntax.{w64}
use mir.ValLaws.{to_z-of_z}
use Rattle.qptr.proofs.Laws.{small_walk, chain_lowered}
use borrow.Author.Rules.{rules}
use Rattle.qptr.proofs.qptr_lower_chain.Goals as goal

pub code-requires : goal.code-requires
code-requires c = small_walk _ _ _ _ c.args.steps.now (search rules) c.lower_chain.ensures

pub returns : goal.returns
returns c = rw (to_z-of_z w64 c.code.result (record { sfits = c.code.type_inv })) (chain_lowered _ _ _ _ c.args.steps.now c.lower_chain.ensures c.code.ensures)
