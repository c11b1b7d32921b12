-- `qptr::qptr_read_sheet` meets its contract. Assumes nothing.
use mir.Syntax.{w64}
use mir.ValLaws.{to_z-of_z}
use mathlib.Core.Path.{sym, ap, ◌∙◌}
use Rattle.recorded.specs.Code.{code_of}
use Rattle.qptr.proofs.Laws.{table_read}
use Rattle.qptr.proofs.qptr_read_sheet.Goals as goal

pub returns-in-Ok : goal.returns-in-Ok
returns-in-Ok c = rw (to_z-of_z w64 c.from.result (record { sfits = c.from.type_inv })) (table_read c.read_table.ensures (c.from.ensures ∙ ap code_of (sym c.in-Ok.is)))

pub returns-in-Err : goal.returns-in-Err
returns-in-Err c = rw (to_z-of_z w64 c.refusal.result (record { sfits = c.refusal.type_inv })) (table_read c.read_table.ensures (c.refusal.ensures ∙ ap code_of (sym c.in-Err.is)))
