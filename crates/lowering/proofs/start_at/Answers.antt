-- `lowering::start_at` meets its contract: the pointee, then the op. Assumes nothing.
use Rattle.std.proofs.Common.{rules, ◌≡◌, Err, refl}
use Rattle.arith.specs.Refusals.{◌>>=◌, ok, refused}
use Rattle.arith.proofs.Fitting.{ok_is, err_is}
use Rattle.pointers.specs.OverTables.{pointee_at}
use Rattle.lowering.proofs.start_at.Goals as goal

pub returns-in_err-t : goal.returns-in_err-t
unfolding ◌>>=◌
returns-in_err-t c =
    let a = c.args in
    let e : c.from_residual.result ≡ Err c.in_err-t.field-0.0 = search rules in
    let r : pointee_at a.tables.now.types.now a.tables.now.layouts.count a.ptr ≡ refused c.in_err-t.field-0.0.number = err_is _ _ (search rules) in
    rw e record { answer = Err _; found = refl; says = record { by = λ f. rw r } }

pub returns : goal.returns
unfolding ◌>>=◌
returns c =
    let a = c.args in
    let r : pointee_at a.tables.now.types.now a.tables.now.layouts.count a.ptr ≡ ok c.in_ok-t.t = ok_is _ _ (search rules) in
    rw r c.start_place.ensures
