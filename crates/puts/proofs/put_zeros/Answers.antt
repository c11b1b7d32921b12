-- `puts::put_zeros` meets its contract. Assumes nothing.
use Rattle.std.proofs.Common.{◌≡◌, replicate, sym, arith, rules}
use Rattle.arith.proofs.Stores.{sets_past}
use Rattle.puts.proofs.Stores.{zeros_put}
use Rattle.puts.proofs.put_zeros.Goals as goal

pub returns-then-at-list : goal.returns-then-at-list
returns-then-at-list c =
    let z : c.fill.new.self ≡ replicate c.min-room.result 0 = search rules in
    zeros_put _ _ _ _ _ _ (omega arith) c.min-room.ensures c.if-at-list.true z

pub returns-else-at-list : goal.returns-else-at-list
returns-else-at-list c = sym (sets_past c.args.list.now _ (replicate c.args.n 0) c.if-at-list.false)
