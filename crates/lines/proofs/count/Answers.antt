-- `lines::count` meets its contract. Assumes nothing.
use Rattle.std.proofs.Common.{sym, ◌∙◌, arith}
use Rattle.fields.specs.Took.{Got, Lost}
use Rattle.lines.proofs.Left.{count_more, count_lost, count_all}
use Rattle.lines.proofs.count.Goals as goal

pub returns-in_err-end : goal.returns-in_err-end
returns-in_err-end g c =
    let l : Lost g.read c.args.line.now c.loop-end.end = c.requires.1.1.1 _ _ c.in_err-end.ensures in
    c.from_residual.ensures ∙ sym (c.loop-end.invariant.1 ∙ count_lost _ l c.loop-end-test.true)

pub loop-end-preserved : goal.loop-end-preserved
loop-end-preserved g c =
    let t : Got g.read c.args.line.now c.loop-end.end c.in_ok-end.field-0.value c.in_ok-end.field-0.end = c.requires.1.1.1 _ _ c.in_ok-end.ensures in
    (omega (arith, t.later), c.loop-end.invariant.1 ∙ count_more _ t)

pub returns : goal.returns
returns g c = sym (c.loop-end.invariant.1 ∙ count_all _ _ _ _ c.loop-end-test.false)
