-- `wire::put_five` meets its contract: one text behind the other. Assumes nothing.
use Rattle.std.proofs.Common.{◌<◌, rules}
use Rattle.text.proofs.Laws.{then}
use lib.ListN.{length}
use Rattle.wire.proofs.put_five.Goals as goal

pub returns : goal.returns
returns c =
    let small : length c.args.out.now < 18446744073709551616 = search rules in
    then _ _ small (then _ _ small (then _ _ small (then _ _ small c.put_word-a.ensures
    c.put_word-b.ensures)
    c.put_word-c.ensures)
    c.put_word-d.ensures)
    c.put_word.ensures
