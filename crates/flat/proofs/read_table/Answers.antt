-- `flat::read_table` meets its contract: a sheet read into lists that hold every sheet, then its table. Assumes nothing.
use Rattle.std.proofs.Common.{rules, ◌≡◌, Err}
use Rattle.flat.proofs.Laws.{read_refused, read_short, read_whole}
use Rattle.flat.proofs.read_table.Goals as goal

pub returns-then-table : goal.returns-then-table
returns-then-table c = read_short c.read_sheet.ensures _ _ c.in_ok-n.was c.if-table.true

pub returns-in_err-n : goal.returns-in_err-n
returns-in_err-n c =
    let e : c.from_residual.result ≡ Err c.in_err-n.field-0.0 = search rules in
    rw e (read_refused c.read_sheet.ensures _ _ c.in_err-n.was)

pub returns : goal.returns
returns c = read_whole c.read_sheet.ensures _ _ c.in_ok-n.was c.if-table.false c.store.ensures
