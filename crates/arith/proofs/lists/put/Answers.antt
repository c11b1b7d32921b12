-- `arith::lists::put` meets its contract.
use Rattle.std.proofs.Common.{sym, arith}
use mathlib.Core.Path.{◌∙◌}
use Rattle.arith.proofs.Stores.{sets_past, rest_out}
use Rattle.arith.proofs.lists.put.Goals as goal

pub returns-then-at-list-2 : goal.returns-then-at-list-2
returns-then-at-list-2 g c = c.put_all-then-at-list-2.ensures ∙ rest_out c.args.list.now c.args.at c.args.items.now _ (omega arith) (omega arith)

pub returns-else-at-list-2 : goal.returns-else-at-list-2
returns-else-at-list-2 g c = sym (sets_past c.args.list.now _ c.args.items.now c.if-at-list-2.false)
