-- `reading::pass` meets its contract.
use Rattle.std.proofs.Common.{rules, ◌≡◌, sym, Err}
use Rattle.arith.specs.Refusals.{misread}
use Rattle.arith.specs.InCode.{err}
use Rattle.reading.proofs.Reached.{at_once, no_first, first_refused, first_read}
use Rattle.reading.proofs.pass.Goals as goal

pub returns-in_err-line : goal.returns-in_err-line
returns-in_err-line c =
    let e : c.from_residual.result ≡ err misread = search rules in
    rw e (at_once _ _ _ (no_first _ (rw c.in_err-line.ensures.ok_part at c.line_at.ensures)))

pub returns-in_err-first : goal.returns-in_err-first
returns-in_err-first c =
    let e : c.from_residual-in_err-first.result ≡ Err c.in_err-first.field-0.0 = search rules in
    rw e (at_once _ _ _ (first_refused (rw c.in_ok-line.ensures.ok_part at c.line_at.ensures) _ c.read_line.ensures (sym c.in_err-first.ensures)))

pub returns : goal.returns
returns c = rw (first_read (rw c.in_ok-line.ensures.ok_part at c.line_at.ensures) _ c.read_line.ensures (sym c.in_ok-first.ensures)) c.rest.ensures
