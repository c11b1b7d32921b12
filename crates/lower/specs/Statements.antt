-- Document 01, the third demand, and the arms for OpArrayLength and OpVariable: what is promised of steps and numbers, as statements.
use Rattle.std.specs.Prelude.{ℕ, suc, ◌≤◌, ◌≡◌, Bool, true, false, ◌&&◌, ◌||◌, List, [], ◌∷◌, ◌↔◌, length}
use Rattle.std.proofs.Math.Option.{none, some}
use Rattle.std.proofs.Math.ListN.{get_elem?}
use Rattle.arith.specs.Refusals.{ok}
use Rattle.arith.specs.Numbers.{is_i32}
use Rattle.spirv.specs.declared.ChainOp.{ChainOp}
use Rattle.spirv.specs.declared.Index.{Index}
use Rattle.shapes.specs.declared.MemLayout.{MemLayout}
use Rattle.shapes.specs.Shapes.{Elements, Fields, Buffer, MemTypeLayout, TypeLayout, Handle, Concrete, size_of, dyn_of}
use Rattle.sheet.specs.Sheet.{Sheet, pointee_in}
use Rattle.layout.specs.Layouts.{answer_in}
use Rattle.lower.specs.declared.QPtrOp.{QPtrOp}
use Rattle.lower.specs.declared.QPtrOp.TheVariants.{HandleArrayIndex, BufferData, Offset, DynOffset}
use Rattle.lower.specs.Chain.{lower_chain}
use Rattle.lower.specs.Other.{ArrayLength, array_length, local_variable}

-- an accepted chain: one to which the rules give no refusal
abbrev pub Accepted : Sheet → ChainOp → (ptr : ℕ) → List Index → List QPtrOp → Type 0
Accepted s op ptr is steps = lower_chain s op ptr is ≡ ok steps

-- ---- no neighbours: no two neighbouring steps are both constant offsets

abbrev pub is_offset : QPtrOp → Bool
is_offset (HandleArrayIndex i) = false
is_offset BufferData = false
is_offset (Offset z) = true
is_offset (DynOffset stride bound i) = false

abbrev pub neighbours : List QPtrOp → Bool
neighbours [] = false
neighbours (s ∷ []) = false
neighbours (s ∷ t ∷ ts) = (is_offset s && is_offset t) || neighbours (t ∷ ts)

abbrev pub NoNeighbours : Type 0
NoNeighbours =
    (s : Sheet) (op : ChainOp) (ptr : ℕ) (is : List Index) (steps : List QPtrOp) → Accepted s op ptr is steps
    → neighbours steps ≡ false

-- ---- steps fit: the bytes of each constant offset fit signed 32 bits, and there is at most one step more than there are indices

abbrev pub FitsStep : QPtrOp → Type 0
FitsStep (HandleArrayIndex i) = Unit {0}
FitsStep BufferData = Unit {0}
FitsStep (Offset z) = is_i32 z ≡ true
FitsStep (DynOffset stride bound i) = Unit {0}

abbrev pub FitSteps : List QPtrOp → Type 0
FitSteps [] = Unit {0}
FitSteps (s ∷ ss) = FitsStep s × FitSteps ss

abbrev pub StepsFit : Type 0
StepsFit =
    (s : Sheet) (op : ChainOp) (ptr : ℕ) (is : List Index) (steps : List QPtrOp) → Accepted s op ptr is steps
    → FitSteps steps × (length steps ≤ suc (length is))

-- ---- array length: just for a runtime array that is a buffer's member and ends it, with the numbers of its layout

pub record LengthOf (s : Sheet) (ptr member : ℕ) (a : ArrayLength) : Type 0 where
  pub pointee : ℕ
  pub points : pointee_in s ptr ≡ ok pointee
  pub buffer : MemTypeLayout
  pub is_buffer : answer_in s pointee ≡ ok (Handle (Buffer buffer))
  pub offsets : List ℕ
  pub types : List ℕ
  pub fields : buffer.components ≡ Fields offsets types
  pub at : get_elem? offsets member ≡ some a.offset
  pub type : ℕ
  pub of_type : get_elem? types member ≡ some type
  pub array : MemTypeLayout
  pub laid : answer_in s type ≡ ok (Concrete array)
  pub elem : ℕ
  pub elements : array.components ≡ Elements a.stride elem 0
  pub last : size_of buffer ≡ a.offset

abbrev pub ArrayLengths : Type 0
ArrayLengths = (s : Sheet) (ptr member : ℕ) (a : ArrayLength) → (array_length s ptr member ≡ ok a) ↔ LengthOf s ptr member a

-- ---- local variable: the size and alignments of a pointee that is fixed-size memory, and of no other

pub record FixedPointee (s : Sheet) (ptr : ℕ) (mem : MemLayout) : Type 0 where
  pub pointee : ℕ
  pub points : pointee_in s ptr ≡ ok pointee
  pub memory : MemTypeLayout
  pub laid : answer_in s pointee ≡ ok (Concrete memory)
  pub fixed : dyn_of memory ≡ 0
  pub is : memory.mem.fixed_base ≡ mem

pub record OtherPointee (s : Sheet) (ptr : ℕ) : Type 0 where
  pub pointee : ℕ
  pub points : pointee_in s ptr ≡ ok pointee
  pub layout : TypeLayout
  pub laid : answer_in s pointee ≡ ok layout
  pub not_fixed : (m : MemTypeLayout) → layout ≡ Concrete m → 1 ≤ dyn_of m

abbrev pub LocalVariables : Type 0
LocalVariables =
    (s : Sheet) (ptr : ℕ)
    → ((mem : MemLayout) → (local_variable s ptr ≡ ok (some mem)) ↔ FixedPointee s ptr mem) × ((local_variable s ptr ≡ ok none) ↔ OtherPointee s ptr)
