-- `asked::local_variable` meets its contract. Assumes nothing.
use Rattle.std.proofs.Common.{rules, ◌≡◌, Err, Ok, sym, ap, ◌∙◌}
use Rattle.arith.specs.Refusals.{◌>>=◌}
use Rattle.shapes.specs.Spans.{spans_of}
use Rattle.asked.proofs.Laws.{no_variable, other_variable, fixed_variable, none_whole, refused_whole, variable_here}
use Rattle.asked.proofs.local_variable.Goals as goal

pub returns-in_err-v : goal.returns-in_err-v
unfolding ◌>>=◌
returns-in_err-v c =
    let e : c.from_residual.result ≡ Err c.in_err-v.field-0.0 = search rules in
    let t = c.tables_in-tables in
    let here = variable_here t.ensures c.args.ptr in
    rw (e, sym here ∙ no_variable _ _ (sym (c.local_variable.ensures (spans_of t.result.layouts.offsets.now t.result.layouts.members.now)) ∙ c.in_err-v.was)) (refused_whole _ _)

pub returns-in-Some : goal.returns-in-Some
unfolding ◌>>=◌
returns-in-Some c =
    let t = c.tables_in-tables in
    let here = variable_here t.ensures c.args.ptr in
    rw (sym here ∙ fixed_variable _ _ (sym (c.local_variable.ensures (spans_of t.result.layouts.offsets.now t.result.layouts.members.now)) ∙ c.in_ok-v.was ∙ ap Ok c.in-Some.is)) c.give.ensures

pub returns-in-None : goal.returns-in-None
unfolding ◌>>=◌
returns-in-None c =
    let t = c.tables_in-tables in
    let here = variable_here t.ensures c.args.ptr in
    rw (sym here ∙ other_variable _ (sym (c.local_variable.ensures (spans_of t.result.layouts.offsets.now t.result.layouts.members.now)) ∙ c.in_ok-v.was ∙ ap Ok c.in-None.is)) (none_whole _)
