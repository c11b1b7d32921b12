-- `reading::read_sheet` meets its contract.
use Rattle.std.proofs.Common.{rules, ◌≡◌, refl, sym, ◌∙◌, Err}
use Rattle.reading.proofs.Whole.{too_long, too_short, stops, held_whole}
use Rattle.reading.proofs.read_sheet.Goals as goal

pub returns-then-sheet-gt65536 : goal.returns-then-sheet-gt65536
returns-then-sheet-gt65536 c = too_long _ _ _ _ _ c.if-sheet-gt65536.true

pub returns-in_err-counts : goal.returns-in_err-counts
returns-in_err-counts c = let e : c.from_residual.result ≡ Err c.in_err-counts.field-0.0 = search rules in rw e (stops _ _ _ _ _ c.if-sheet-gt65536.false (c.in_err-counts.ensures.untouched refl) c.in_err-counts.ensures.answer)

pub returns-then-not-fits : goal.returns-then-not-fits
returns-then-not-fits c = too_short _ _ _ _ _ c.if-sheet-gt65536.false (c.in_ok-counts.ensures.untouched refl) c.in_ok-counts.ensures.answer (sym c.fits.ensures ∙ c.if-not-fits.true)

pub returns : goal.returns
returns c = held_whole _ _ _ _ _ c.if-sheet-gt65536.false (c.in_ok-counts.ensures.untouched refl) c.in_ok-counts.ensures.answer (sym c.fits.ensures ∙ c.if-not-fits.false) c.in_ok-pass.ensures c.put_setting.ensures
