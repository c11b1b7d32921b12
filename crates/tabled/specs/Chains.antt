-- Document 01, "as C functions on numbers and bytes": C over a table, by the number of the op and the bytes of the indices; the steps are bytes, too.
use Rattle.std.specs.Prelude.{ℕ, ◌/◌, min, ◌≡◌, cond, List, Option, Some, None, eqb, leb, ltb, length}
use Rattle.arith.specs.Refusals.{Result, ok, refused, ◌>>=◌, ◌>>◌, refuse◌when◌, refuse◌unless◌, in_room, misread, oversize}
use Rattle.arith.specs.InCode.{OrRefusal}
use Rattle.spirv.specs.declared.ChainOp.{ChainOp}
use Rattle.spirv.specs.declared.ChainOp.TheVariants.{AccessChain, InBoundsAccessChain, PtrAccessChain, InBoundsPtrAccessChain}
use Rattle.spirv.specs.declared.Index.{Index}
use Rattle.sheet.specs.Sheet.{max_indices}
use Rattle.sheet.specs.Tables.{over}
use Rattle.components.specs.Found.{answers_in}
use Rattle.lower.specs.declared.QPtrOp.{QPtrOp}
use Rattle.lower.specs.Chain.{chain_by}
use Rattle.moves.specs.Written.{walk_of, steps_of}
use Rattle.pointers.specs.OverTables.{pointee_at}
use Rattle.wire.specs.Wire.{indices_of, steps_bytes}
use Rattle.flat.specs.Table.{count_in, setting_in, types_in, members_in, places_in, layouts_in}

-- ---- the op

unfoldable pub op_of : ℕ → Option ChainOp
op_of op =
    cond (eqb op 65) (Some AccessChain)
    (cond (eqb op 66) (Some InBoundsAccessChain)
    (cond (eqb op 67) (Some PtrAccessChain)
    (cond (eqb op 70) (Some InBoundsPtrAccessChain) None)))

abbrev pub op_in : Option ChainOp → Result ChainOp
op_in (Some o) = ok o
op_in None = refused misread

-- ---- what is asked

-- 1 where there is no such op, no such index or no such type, 2 for more than 255 indices; else the op
unfoldable pub asked_in : (table : List ℕ) → (op ptr : ℕ) → (bytes : List ℕ) → Result ChainOp
asked_in table op ptr bytes = do
  o ← op_in (op_of op)
  is ← indices_of bytes
  refuse misread unless ltb ptr (count_in table)
  refuse oversize when ltb max_indices (length is)
  ok o

-- ---- the steps

-- so many steps are kept for so many indices: one more than there are, or than 8 or 255; no sheet's table has more
abbrev pub places : (indices : ℕ) → ℕ
places indices = cond (leb indices 8) 9 256

-- 1 where there is no such type, 2 for more than 255 indices, then the chain's own refusals, and 24
unfoldable pub chain_at : (room : ℕ) → (table : List ℕ) → ChainOp → (ptr : ℕ) → List Index → Result (List QPtrOp)
chain_at room table o ptr is = do
  refuse misread unless ltb ptr (count_in table)
  refuse oversize when ltb max_indices (length is)
  in_room (min (places (length is)) room) length
      (chain_by (setting_in table) (pointee_at (types_in table) (count_in table)) (answers_in (layouts_in table) (count_in table) (places_in table) (members_in table)) o ptr is)

unfoldable pub chain_in : (room : ℕ) → (table : List ℕ) → (op ptr : ℕ) → (bytes : List ℕ) → Result (List QPtrOp)
chain_in room table op ptr bytes = do
  o ← op_in (op_of op)
  is ← indices_of bytes
  chain_at room table o ptr is

-- ---- as bytes

-- a step is 20 bytes
abbrev pub room_in : List ℕ → ℕ
room_in bytes = length bytes / 20

-- the answer, and the steps in front of what the list held; a refusal leaves it as it was
pub record Lowered (result : Result (List QPtrOp)) (r : OrRefusal ℕ) (old new : List ℕ) : Type 0 where
  pub says : r ≡ walk_of 0 result
  pub holds : new ≡ over (steps_bytes (steps_of result)) old
