-- `asked::give_both` meets its contract. Assumes nothing.
use native.Mathlib.Omega.{arith}
use lib.ListN.{length-append}
use mathlib.Core.List.{◌++◌}
use Rattle.asked.proofs.Laws.{short_whole, given_whole, both_set}
use Rattle.asked.proofs.give_both.Goals as goal

pub returns-then-out-first : goal.returns-then-out-first
returns-then-out-first c = short_whole _ _ (omega (arith, c.if-out-first.true, length-append c.args.first.now c.args.second.now))

pub returns : goal.returns
returns c =
    let e = length-append c.args.first.now c.args.second.now in
    given_whole (c.args.first.now ++ c.args.second.now) c.args.out.now (omega (arith, e)) (omega (arith, e, c.if-out-first.false)) (both_set c.args.first.now c.args.second.now c.args.out.now c.put_words.ensures c.put_words-2.ensures)
