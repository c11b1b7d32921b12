-- The measures of the cycle of calls {array_part, struct_part}: `struct_part` calls `array_part` on fewer indices, or on as many from inside a
-- buffer; `array_part` calls it on as many.
use Prim.Native.Nat.{◌+◌}
use lib.ListN.{length}
use Rattle.chain.specs.Chains.{left}
use Rattle.chain.proofs.+array_part_struct_part.Given as goal

abbrev pub decreases-array_part : goal.decreases-array_part
decreases-array_part l = left (length l.chain.now) l.at l.l + 1

abbrev pub decreases-struct_part : goal.decreases-struct_part
decreases-struct_part l = left (length l.chain.now) l.from l.l
