-- `asked::array_length` meets its contract. Assumes nothing.
use Rattle.std.proofs.Common.{rules, ◌≡◌, Err, sym, ◌∙◌}
use Rattle.arith.specs.Refusals.{◌>>=◌}
use Rattle.asked.proofs.Laws.{no_length, some_length, refused_whole, length_here}
use Rattle.asked.proofs.array_length.Goals as goal

pub returns-in_err-a : goal.returns-in_err-a
unfolding ◌>>=◌
returns-in_err-a c =
    let e : c.from_residual.result ≡ Err c.in_err-a.field-0.0 = search rules in
    let here = length_here c.tables_in-tables.ensures c.args.ptr c.args.member in
    rw (e, sym here ∙ no_length _ _ (sym c.array_length.ensures ∙ c.in_err-a.was)) (refused_whole _ _)

pub returns : goal.returns
unfolding ◌>>=◌
returns c =
    let here = length_here c.tables_in-tables.ensures c.args.ptr c.args.member in
    rw (sym here ∙ some_length _ _ (sym c.array_length.ensures ∙ c.in_ok-a.was)) c.give.ensures
