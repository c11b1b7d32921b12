-- The proof of the cycle of calls {array_part, struct_part}.
use Prim.Native.Nat.{ℕ, ◌+◌}
use mathlib.Core.Path.{ap}
use Rattle.std.proofs.Common.{rules, ◌≡◌, Err}
use Rattle.moves.proofs.Writes.{refused_wrote, stays_refused, prefixed}
use Rattle.chain.proofs.Chains.{ran_of}
use Rattle.chain.proofs.+array_part_struct_part.Goals as goal

pub array_part-returns : goal.array_part-returns
array_part-returns t c = prefixed _ _ _ _ _ _ _ _ _ _ _ _ _ _ _ _ _ _ _ _ _ _ _ (ap (λ (k : ℕ). k + 1) c.after-next.ensures) c.struct_part-r.ensures c.prefix.ensures

pub struct_part-returns-in_err-q : goal.struct_part-returns-in_err-q
struct_part-returns-in_err-q t c =
    let e : c.from_residual.result ≡ Err c.in_err-q.field-0.0 = search rules in
    rw e (refused_wrote _ _ _ _ _ _ _ _ (rw (ran_of c.go_on.ensures c.in_err-q.was) (stays_refused _ _ _)))
