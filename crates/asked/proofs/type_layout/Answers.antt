-- `asked::type_layout` meets its contract. Assumes nothing.
use Rattle.std.proofs.Common.{rules, ◌≡◌, Err, Ok, sym, ◌∙◌}
use Rattle.arith.specs.Refusals.{◌>>=◌}
use Rattle.asked.proofs.Laws.{refused_whole, shown_words_lem, answer_here}
use Rattle.asked.proofs.type_layout.Goals as goal

pub returns-in_err-l : goal.returns-in_err-l
unfolding ◌>>=◌
returns-in_err-l c =
    let e : c.from_residual.result ≡ Err c.in_err-l.field-0.0 = search rules in
    rw (e, ← answer_here c.tables_in.ensures c.args.ty, sym c.answer_at.ensures ∙ c.in_err-l.was) (refused_whole _ _)

pub returns : goal.returns
unfolding ◌>>=◌
returns c =
    let t = c.tables_in.result.layouts in
    rw (← answer_here c.tables_in.ensures c.args.ty, sym c.answer_at.ensures ∙ c.in_ok-l.was, ← shown_words_lem t.offsets.now t.members.now (Ok c.in_ok-l.l), ← c.head_of-head.ensures, ← c.shown_parts.ensures, ← c.shown_offsets-part.ensures)
    c.give_both.ensures
