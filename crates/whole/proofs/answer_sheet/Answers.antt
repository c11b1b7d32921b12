-- `whole::answer_sheet` meets its contract: the lines of the tables that were made ready, or of the refusal. Assumes nothing.
use Rattle.prepared.proofs.Output.{ready_tables, ready_refused}
use native.Mathlib.Omega.{arith}
use mathlib.Core.Path.{refl}
use Rattle.whole.proofs.answer_sheet.Goals as goal

pub returns-in-Ok : goal.returns-in-Ok
returns-in-Ok c =
    rw (ready_tables _ _ _ _ _ _ _ _ _ _ c.prepare.ensures (record { types = omega arith; members = omega arith; offsets = refl; layouts = omega arith }) (omega (arith, c.prepare.auto)) _ c.in-Ok.is) at c.put_all.ensures

pub returns-in-Err : goal.returns-in-Err
returns-in-Err c =
    rw (ready_refused _ _ _ _ _ _ _ _ _ _ c.prepare.ensures (record { types = omega arith; members = omega arith; offsets = refl; layouts = omega arith }) _ c.in-Err.is) c.put_refusal_line.ensures
