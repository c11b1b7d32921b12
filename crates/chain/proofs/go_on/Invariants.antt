-- The loop of `chain::go_on`: what is left of the walk comes to the same as the whole. Assumes nothing.
use Rattle.std.proofs.Common.{◌≡◌, ◌+◌, ◌*◌, ◌≤◌, length, drop}
use Rattle.chain.specs.Chains.{left, on_from}
use Rattle.chain.proofs.go_on.Given as goal

abbrev pub invariant-loop-k : goal.invariant-loop-k
invariant-loop-k l =
    (l.k-iterator.iter.size ≡ 2) × (l.k-iterator.iter.rest.now ≡ drop (l.from + 2 * l.k-iterator.count) l.chain) × (l.from + 2 * l.k-iterator.count ≤ length l.chain)
    × (left (length l.chain) (l.from + 2 * l.k-iterator.count) l.u ≤ left (length l.chain) l.from l.fn.l)
    × (on_from l.layouts.rows.now l.layouts.offsets.now l.layouts.members.now l.layouts.count l.chain l.from l.fn.l l.fn.p ≡ on_from l.layouts.rows.now l.layouts.offsets.now l.layouts.members.now l.layouts.count l.chain (l.from + 2 * l.k-iterator.count) l.u l.q)
