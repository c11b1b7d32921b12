-- `qptr::qptr_answer_sheet` meets its contract. Assumes nothing.
use mir.Syntax.{w64}
use mir.ValLaws.{to_z-of_z}
use borrow.Author.Rules.{rules}
use Rattle.qptr.proofs.Laws.{small, told}
use Rattle.qptr.proofs.qptr_answer_sheet.Goals as goal

pub code-requires : goal.code-requires
code-requires c = small (search rules) c.answer_sheet.ensures

pub returns : goal.returns
returns c =
    rw (to_z-of_z w64 c.code.result (record { sfits = c.code.type_inv }))
    (told c.answer_sheet.ensures c.code.ensures)
