-- `recorded::code` meets its contract. Assumes nothing.
use mir.Syntax.{w64}
use mir.ValLaws.{to_z-of_z, to_z_pos}
use Rattle.recorded.proofs.code.Goals as goal

pub overflow_cast-result : goal.overflow_cast-result
overflow_cast-result c = record { sfits = rw c.in-Ok.is at c.requires }

pub returns-in-Ok : goal.returns-in-Ok
returns-in-Ok c = rw c.in-Ok.is (to_z_pos w64 _ (rw c.in-Ok.is at c.requires))

pub returns-in-Err : goal.returns-in-Err
returns-in-Err c = rw (c.in-Err.is, to_z-of_z w64 c.refusal.result (record { sfits = c.refusal.type_inv })) c.refusal.ensures
