-- `listing::fill` meets its contract. The loop's invariant: the lines in front of the place are printed, and fit. Assumes nothing.
use Rattle.listing.proofs.Reached.{begun, one_more, no_more, no_room, moves_on}
use Rattle.listing.proofs.Laws.{asked, not_asked}
use Rattle.text.proofs.Laws.{kept}
use borrow.Author.Rules.{rules}
use mathlib.Core.Logic.{inl}
use mathlib.Core.Path.{refl, ◌∙◌}
use native.Mathlib.Omega.{arith}
use Rattle.listing.proofs.fill.Goals as goal

pub loop-q-init : goal.loop-q-init
loop-q-init c = (begun _ _ _ _ _ _ (omega arith) refl, search rules, inl (refl, refl))

pub shape_of-out-then-out-end : goal.shape_of-out-then-out-end
shape_of-out-then-out-end c = kept _ c.put_answer-end.ensures ∙ kept _ c.loop-q.invariant.0.printed

pub returns-then-out-end : goal.returns-then-out-end
returns-then-out-end c =
    rw c.with.ensures (no_room (omega (arith, c.well_formed)) c.loop-q.invariant.0 c.loop-q.invariant.1 c.loop-q.invariant.2 (asked _ _ _ _ _ c.next_question.ensures c.unwrap_or.ensures c.in-Some.is) (omega (arith, c.next_question.auto, c.loop-q.invariant.0.room)) c.put_answer-end.ensures c.if-out-end.true)

pub loop-q-preserved : goal.loop-q-preserved
loop-q-preserved c =
    let y = asked _ _ _ _ _ c.next_question.ensures c.unwrap_or.ensures c.in-Some.is in
    let line = c.put_answer-end.ensures in (
      one_more c.loop-q.invariant.0 (omega (arith, c.well_formed)) y (omega (arith, c.next_question.auto, c.loop-q.invariant.0.room)) line,
      omega (arith, c.if-out-end.false, kept _ line, kept _ c.loop-q.invariant.0.printed),
      moves_on (omega (arith, c.well_formed)) c.loop-q.invariant.0 c.loop-q.invariant.1 c.loop-q.invariant.2 y (omega (arith, c.next_question.auto, c.loop-q.invariant.0.room)) line,
    )

pub returns : goal.returns
returns c =
    rw c.with-2.ensures (no_more (omega (arith, c.well_formed)) c.loop-q.invariant.0 c.loop-q.invariant.1 c.loop-q.invariant.2 (not_asked _ _ _ _ _ c.next_question.ensures c.unwrap_or.ensures c.in_default.is c.loop-q.invariant.0.room _))
