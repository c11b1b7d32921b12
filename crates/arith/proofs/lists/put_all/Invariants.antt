-- `arith::lists::put_all` meets its contract. The loop's invariant: the first i items are stored.
use Rattle.std.proofs.Common.{◌≡◌}
use lib.ListN.{take}
use Rattle.std.proofs.lemmas.List.Edits.{sets}
use Rattle.arith.proofs.lists.put_all.Given as goal

abbrev pub invariant-loop-i : goal.invariant-loop-i
invariant-loop-i g l = l.list ≡ sets l.initial.list l.at (take l.i l.items)
