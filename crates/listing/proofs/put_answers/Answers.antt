-- `listing::put_answers` meets its contract. The loop's invariant: the lines in front of the place are printed. Assumes nothing.
use Rattle.listing.proofs.Reached.{begun, all_printed, one_more}
use Rattle.listing.proofs.Laws.{asked, not_asked}
use borrow.Author.Rules.{rules}
use mathlib.Core.Path.{refl}
use native.Mathlib.Omega.{arith}
use Rattle.listing.proofs.put_answers.Goals as goal

pub loop-q-init : goal.loop-q-init
loop-q-init c = begun _ _ _ _ _ _ (search rules) refl

pub loop-q-smaller : goal.loop-q-smaller
loop-q-smaller c =
    let y = asked _ _ _ _ _ c.next_question.ensures c.unwrap_or.ensures c.in-Some.is in
    omega (arith, y.later, y.within)

pub loop-q-preserved : goal.loop-q-preserved
loop-q-preserved c =
    one_more c.loop-q.invariant (omega (arith, c.well_formed)) (asked _ _ _ _ _ c.next_question.ensures c.unwrap_or.ensures c.in-Some.is) (omega (arith, c.next_question.auto, c.loop-q.invariant.room)) c.put_answer-p.ensures

pub returns : goal.returns
returns c = all_printed c.loop-q.invariant (not_asked _ _ _ _ _ c.next_question.ensures c.unwrap_or.ensures c.in_default.is c.loop-q.invariant.room _)
