-- `fitting::put` meets its contract: the text is measured, and written where it fits. Assumes nothing.
use Rattle.std.proofs.Common.{rules, sym, ◌∙◌}
use Rattle.text.proofs.Laws.{nothing}
use Rattle.text.proofs.AllOrNothing.{too_long, all_written}
use Rattle.fitting.proofs.put.Goals as goal

pub returns-then-out-size : goal.returns-then-out-size
returns-then-out-size g c = λ text prints.
    let measured = prints _ _ _ c.print-size.ensures in
    too_long text (search rules) (rw (nothing text measured) at measured) c.if-out-size.true

pub returns : goal.returns
returns g c = λ text prints.
    let measured = prints _ _ _ c.print-size.ensures in
    let written = prints _ _ _ c.print.ensures in
    rw (written.place ∙ sym measured.place) (all_written text (search rules) (rw (nothing text measured) at measured) c.if-out-size.false written)
