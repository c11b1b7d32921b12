-- Document 01, "The refusals", L: 18, layout, 25, 21, 26, 27; X: 18, layout. The arms for OpArrayLength and OpVariable.
use Rattle.std.specs.Prelude.{ℕ, cond, eqb}
use Rattle.std.proofs.Math.Option.{Option, none, some}
use Rattle.arith.specs.Refusals.{Result, ok, refused, ◌>>=◌, ◌>>◌, refuse◌unless◌, no_buffer, field_outside, no_runtime_array, not_last}
use Rattle.shapes.specs.declared.MemLayout.{MemLayout}
use Rattle.shapes.specs.Shapes.{Components, Scalar, Elements, Fields, Opaque, Buffer, MemTypeLayout, TypeLayout, Handle, HandleArray, Concrete, size_of, runtime_sized}
use Rattle.sheet.specs.Sheet.{Sheet, pointee_in}
use Rattle.layout.specs.Arrays.{Answer}
use Rattle.layout.specs.Layouts.{answer_in}
use Rattle.lower.specs.Steps.{Field, field_at}

-- ---- array length

unfoldable pub buffer_of : TypeLayout → Result MemTypeLayout
buffer_of (Handle Opaque) = refused no_buffer
buffer_of (Handle (Buffer m)) = ok m
buffer_of (HandleArray h len) = refused no_buffer
buffer_of (Concrete m) = refused no_buffer

-- what has no fields has none of that number
unfoldable pub member_of : Components → (member : ℕ) → Result Field
member_of Scalar member = refused field_outside
member_of (Elements stride elem len) member = refused field_outside
member_of (Fields offsets types) member = field_at offsets types member

-- the stride of a runtime array
unfoldable pub runtime_stride : Components → Result ℕ
runtime_stride Scalar = refused no_runtime_array
runtime_stride (Elements stride elem len) = do
  refuse no_runtime_array unless eqb len 0
  ok stride
runtime_stride (Fields offsets types) = refused no_runtime_array

unfoldable pub stride_of_part : TypeLayout → Result ℕ
stride_of_part (Handle h) = refused no_runtime_array
stride_of_part (HandleArray h len) = refused no_runtime_array
stride_of_part (Concrete m) = runtime_stride m.components

-- BufferDynLen
pub record ArrayLength : Type 0 where
  pub offset : ℕ
  pub stride : ℕ

-- of a buffer's member
unfoldable pub length_in : (answer-of : ℕ → Answer) → (buffer : MemTypeLayout) → (member : ℕ) → Result ArrayLength
length_in answer-of buffer member = do
  f ← member_of buffer.components member
  part ← answer-of f.type
  stride ← stride_of_part part
  refuse not_last unless eqb (size_of buffer) f.offset
  ok record { offset = f.offset; stride = stride }

-- by what a pointer points to and what a type answers
unfoldable pub length_by : (pointee-of : ℕ → Result ℕ) → (answer-of : ℕ → Answer) → (ptr member : ℕ) → Result ArrayLength
length_by pointee-of answer-of ptr member = do
  t ← pointee-of ptr
  l ← answer-of t
  buffer ← buffer_of l
  length_in answer-of buffer member

-- by what the sheet says
abbrev pub array_length : Sheet → (ptr member : ℕ) → Result ArrayLength
array_length s ptr member = length_by (pointee_in s) (answer_in s) ptr member

-- ---- local variable

-- fixed-size memory, where it is that
unfoldable pub fixed_memory : TypeLayout → Option MemLayout
fixed_memory (Handle h) = none
fixed_memory (HandleArray h len) = none
fixed_memory (Concrete m) = cond (runtime_sized m) none (some m.mem.fixed_base)

unfoldable pub variable_by : (pointee-of : ℕ → Result ℕ) → (answer-of : ℕ → Answer) → (ptr : ℕ) → Result (Option MemLayout)
variable_by pointee-of answer-of ptr = do
  t ← pointee-of ptr
  l ← answer-of t
  ok (fixed_memory l)

abbrev pub local_variable : Sheet → (ptr : ℕ) → Result (Option MemLayout)
local_variable s ptr = variable_by (pointee_in s) (answer_in s) ptr
