-- `prepared::prepare` meets its contract: the sheet is read, and laid out where it is not refused. Assumes nothing.
use Rattle.std.proofs.Common.{rules, ◌≡◌, Err}
use Rattle.prepared.proofs.Steps.{refused_ready, tables_ready}
use mathlib.Core.Path.{refl}
use Rattle.prepared.proofs.prepare.Goals as goal

pub returns-in_err-n : goal.returns-in_err-n
returns-in_err-n c =
    let e : c.from_residual.result ≡ Err c.in_err-n.field-0.0 = search rules in
    rw e (refused_ready _ c.read_sheet.ensures refl refl _ c.in_err-n.was _ _)

pub returns : goal.returns
returns c = tables_ready _ c.read_sheet.ensures refl refl refl _ c.in_ok-n.was c.setting_of-cfg.ensures c.layouts.ensures
