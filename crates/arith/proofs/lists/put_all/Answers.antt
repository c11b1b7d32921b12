-- `arith::lists::put_all` meets its contract.
use Rattle.std.proofs.Common.{◌+◌}
use mathlib.Core.Path.{ap, ◌∙◌}
use lib.ListN.{set, take}
use Rattle.std.proofs.lemmas.List.Edits.{sets}
use Rattle.arith.proofs.Stores.{one_more}
use Rattle.arith.proofs.lists.put_all.Goals as goal

pub loop-i-preserved : goal.loop-i-preserved
loop-i-preserved g c =
    let l = c.loop-i in
    let stored = set (sets c.args.list.now c.args.at (take l.i c.args.items.now)) (c.args.at + l.i) in
    rw l.invariant (ap stored c.index-items-i.is ∙ one_more c.args.list.now c.args.at c.args.items.now l.i c.index-items-i.result c.loop-i-test.true)
