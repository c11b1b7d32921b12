-- Document 01, "Chain": what each index of a chain gives, by the layout that it meets.
use Rattle.std.specs.Prelude.{ℕ, zero, suc, Bool, cond, ◌&&◌, ◌||◌, List, [], ◌∷◌, ◌++◌, leb, ltb, eqb, ℤ, pos, negsuc, ◌+ℤ◌, ◌*ℤ◌, None, Some}
use Rattle.std.specs.Prelude as std
use Rattle.std.proofs.Math.Option.{Option, none, some}
use Rattle.arith.specs.Refusals.{Result, ok, refused, ◌>>=◌, ◌>>◌, refuse◌when◌, refuse◌unless◌, no_parts, unknown_field, field_outside, far_field, step_overflow}
use Rattle.arith.specs.Numbers.{max_i32, signed, is_i32, is_zero}
use Rattle.spirv.specs.declared.Index.{Index}
use Rattle.spirv.specs.declared.Index.TheVariants.{Known, Unknown}
use Rattle.shapes.specs.Shapes.{Components, Scalar, Elements, Fields, Opaque, Buffer, TypeLayout, Handle, HandleArray, Concrete}
use Rattle.layout.specs.Arrays.{Answer}
use Rattle.lower.specs.declared.QPtrOp.{QPtrOp}
use Rattle.lower.specs.declared.QPtrOp.TheVariants.{HandleArrayIndex, BufferData, Offset, DynOffset}

-- ---- constant offsets

-- an offset that waits, since a next one is added to it
abbrev pub Pending : Type 0
Pending = std.Option ℤ

-- the waiting offset in front of other steps
abbrev pub flush : Pending → List QPtrOp → List QPtrOp
flush None steps = steps
flush (Some z) steps = Offset z ∷ steps

-- an offset after an offset is added to it, and the sum may be 0 and stays
unfoldable pub added : Pending → ℤ → Result Pending
added None z = ok (Some z)
added (Some y) z = do
  refuse step_overflow unless is_i32 (y +ℤ z)
  ok (Some (y +ℤ z))

-- a new offset 0 is dropped
unfoldable pub merged : Pending → ℤ → Result Pending
merged p z = cond (is_zero z) (ok p) (added p z)

-- ---- into a struct

pub record Field : Type 0 where
  pub offset : ℕ
  pub type : ℕ

-- the field of a number; 21 where there is none
unfoldable pub field_at : (offsets types : List ℕ) → ℕ → Result Field
field_at [] ts n = refused field_outside
field_at (o ∷ os) [] n = refused field_outside
field_at (o ∷ os) (t ∷ ts) zero = ok record { offset = o; type = t }
field_at (o ∷ os) (t ∷ ts) (suc n) = field_at os ts n

-- no field has a negative number
unfoldable pub field_of : (offsets types : List ℕ) → ℤ → Result Field
field_of offsets types (pos n) = field_at offsets types n
field_of offsets types (negsuc n) = refused field_outside

-- the steps that an index gives, what waits behind them, and the layout that it leads to
pub record Move : Type 0 where
  pub steps : List QPtrOp
  pub pending : Pending
  pub layout : TypeLayout

-- a field index is a known word read as signed 32-bit
unfoldable pub to_field : (answer-of : ℕ → Answer) → (offsets types : List ℕ) → Index → Pending → Result Move
to_field answer-of offsets types (Unknown v) p = refused unknown_field
to_field answer-of offsets types (Known w) p = do
  f ← field_of offsets types (signed w)
  refuse far_field unless leb f.offset max_i32
  q ← merged p (pos f.offset)
  l ← answer-of f.type
  ok record { steps = []; pending = q; layout = l }

-- ---- into a vector, matrix or array

-- the length, where an index can be held to it: 0, which is none, where it is above 2147483647
unfoldable pub bound_of : (len : ℕ) → ℕ
bound_of len = cond (leb len max_i32) len 0

-- within 0 to length − 1, any if there is no bound
unfoldable pub in_bound : (bound : ℕ) → ℤ → Bool
in_bound bound (pos n) = eqb bound 0 || ltb n bound
in_bound bound (negsuc n) = eqb bound 0

-- an array index that is known, within its bound, and whose stride and product fit signed 32 bits, is a constant offset
unfoldable pub constant_offset : (stride len : ℕ) → Index → Option ℤ
constant_offset stride len (Unknown v) = none
constant_offset stride len (Known w) =
    cond (in_bound (bound_of len) (signed w) && (leb stride max_i32 && is_i32 (pos stride *ℤ signed w))) (some (pos stride *ℤ signed w)) none

-- others stay D
unfoldable pub by_constant : Option ℤ → (d : QPtrOp) → Pending → TypeLayout → Result Move
by_constant (some z) d p l = do
  q ← merged p z
  ok record { steps = []; pending = q; layout = l }
by_constant none d p l = ok record { steps = flush p (d ∷ []); pending = None; layout = l }

unfoldable pub to_element : (answer-of : ℕ → Answer) → (stride elem len : ℕ) → Index → Pending → Result Move
to_element answer-of stride elem len i p = do
  l ← answer-of elem
  by_constant (constant_offset stride len i) (DynOffset stride (bound_of len) i) p l

-- ---- one index

unfoldable pub to_part : (answer-of : ℕ → Answer) → Components → Index → Pending → Result Move
to_part answer-of Scalar i p = refused no_parts
to_part answer-of (Elements stride elem len) i p = to_element answer-of stride elem len i p
to_part answer-of (Fields offsets types) i p = to_field answer-of offsets types i p

-- a buffer handle gives step B with no index used; a handle array gives H
unfoldable pub move : (answer-of : ℕ → Answer) → TypeLayout → Index → Pending → Result Move
move answer-of (Handle Opaque) i p = refused no_parts
move answer-of (Handle (Buffer m)) i p = do
  a ← to_part answer-of m.components i None
  ok record { steps = flush p (BufferData ∷ a.steps); pending = a.pending; layout = a.layout }
move answer-of (HandleArray h len) i p = ok record { steps = flush p (HandleArrayIndex i ∷ []); pending = None; layout = Handle h }
move answer-of (Concrete m) i p = to_part answer-of m.components i p

-- ---- all indices

-- the steps of the indices from a layout on, an offset perhaps waiting
unfoldable pub lower_from : (answer-of : ℕ → Answer) → TypeLayout → Pending → List Index → Result (List QPtrOp)
lower_from answer-of l p [] = ok (flush p [])
lower_from answer-of l p (i ∷ is) = do
  a ← move answer-of l i p
  rest ← lower_from answer-of a.layout a.pending is
  ok (a.steps ++ rest)
