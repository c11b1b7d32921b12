-- Document 01, "The typed walk": on the sheet's declarations. Offsets and strides follow from the sheet by the layout rules.
use Rattle.std.specs.Prelude.{ℕ, Bool, true, false, cond, List, [], ◌∷◌, ℤ, pos, negsuc, ◌*ℤ◌}
use Rattle.std.proofs.Math.Option.{Option, none, some}
use Rattle.std.proofs.Math.ListN.{get_elem?}
use Rattle.arith.specs.Options.{◌>>=◌}
use Rattle.arith.specs.Refusals.{Result, ok, refused}
use Rattle.spirv.specs.declared.Length.TheVariants.{Fixed, Specialization}
use Rattle.spirv.specs.declared.SpvType.{SpvType}
use Rattle.spirv.specs.declared.SpvType.TheVariants as spv
use Rattle.spirv.specs.declared.ChainOp.{ChainOp}
use Rattle.spirv.specs.declared.ChainOp.TheVariants.{AccessChain, InBoundsAccessChain, PtrAccessChain, InBoundsPtrAccessChain}
use Rattle.spirv.specs.declared.Index.{Index}
use Rattle.spirv.specs.Decl.{Decl}
use Rattle.shapes.specs.Shapes.{Components, Scalar, Elements, Fields, MemTypeLayout, contents_of, offsets_of}
use Rattle.sheet.specs.Sheet.{Sheet, decl_in}
use Rattle.layout.specs.Arrays.{Answer}
use Rattle.layout.specs.Layouts.{answer_in, runtime_array_in}
use Rattle.promise.specs.Meaning.{Values, value, Spot, own, moved, entered, picked}

-- ---- what the sheet declares

-- a type that the walk is at: one of the sheet, or the undecorated runtime array of one, from which 67 and 70 start
pub data Walked : Type 0 where
  type_no : ℕ → Walked
  runtime_array_of : (pointee : ℕ) → Walked

-- what stands there
pub data Kind : Type 0 where
  handle_array : (elem : ℕ) → Kind
  buffer : (members : List ℕ) → Kind
  opaque : Kind
  struct : (members : List ℕ) → Kind
  array : (elem : ℕ) (len : Option ℕ) → Kind
  scalar : Kind
  -- unsupported, of a specialization length, or no type at all: it has no layout, so no accepted chain comes here
  unlaid : Kind

-- a handle is an opaque or a Block struct
abbrev pub is_handle : SpvType → Bool
is_handle spv.Bool = false
is_handle (spv.Int width) = false
is_handle (spv.Float width) = false
is_handle (spv.Vector elem len) = false
is_handle (spv.Matrix column len) = false
is_handle (spv.Array elem len stride) = false
is_handle (spv.RuntimeArray elem stride) = false
is_handle (spv.Struct block) = block
is_handle (spv.Pointer class pointee) = false
is_handle spv.Opaque = true
is_handle spv.Unsupported = false

-- a vector, matrix or array; with a handle for its element it is a handle array
unfoldable pub array_by : Result Decl → (elem : ℕ) → (len : Option ℕ) → Kind
array_by (refused n) elem len = unlaid
array_by (ok d) elem len = cond (is_handle d.type) (handle_array elem) (array elem len)

abbrev pub struct_by : (block : Bool) → (members : List ℕ) → Kind
struct_by true members = buffer members
struct_by false members = struct members

abbrev pub kind_of_type : Sheet → (members : List ℕ) → SpvType → Kind
kind_of_type s ms spv.Bool = scalar
kind_of_type s ms (spv.Int width) = scalar
kind_of_type s ms (spv.Float width) = scalar
kind_of_type s ms (spv.Vector elem len) = array_by (decl_in s elem) elem (some len)
kind_of_type s ms (spv.Matrix column len) = array_by (decl_in s column) column (some len)
kind_of_type s ms (spv.Array elem (Fixed len) stride) = array_by (decl_in s elem) elem (some len)
kind_of_type s ms (spv.Array elem Specialization stride) = unlaid
kind_of_type s ms (spv.RuntimeArray elem stride) = array_by (decl_in s elem) elem none
kind_of_type s ms (spv.Struct block) = struct_by block ms
kind_of_type s ms (spv.Pointer class pointee) = scalar
kind_of_type s ms spv.Opaque = opaque
kind_of_type s ms spv.Unsupported = unlaid

abbrev pub kind_of_decl : Sheet → Result Decl → Kind
kind_of_decl s (refused n) = unlaid
kind_of_decl s (ok d) = kind_of_type s d.members d.type

unfoldable pub kind_of : Sheet → Walked → Kind
kind_of s (type_no t) = kind_of_decl s (decl_in s t)
kind_of s (runtime_array_of t) = array_by (decl_in s t) t none

-- ---- by the layout rules

unfoldable pub layout_at : Sheet → Walked → Answer
layout_at s (type_no t) = answer_in s t
layout_at s (runtime_array_of t) = runtime_array_in s t

-- the memory of a type, or a buffer's contents; none where the rules refuse it
abbrev pub memory_of : Answer → Option MemTypeLayout
memory_of (refused n) = none
memory_of (ok l) = contents_of l

unfoldable pub memory_at : Sheet → Walked → Option MemTypeLayout
memory_at s w = memory_of (layout_at s w)

abbrev pub stride_of_elements : Components → Option ℕ
stride_of_elements Scalar = none
stride_of_elements (Elements stride elem len) = some stride
stride_of_elements (Fields offsets types) = none

-- the offset of a field, and the stride
unfoldable pub offset_at : Sheet → Walked → (field : ℕ) → Option ℕ
offset_at s w i = do
  m ← memory_at s w
  get_elem? (offsets_of m.components) i

unfoldable pub stride_at : Sheet → Walked → Option ℕ
stride_at s w = do
  m ← memory_at s w
  stride_of_elements m.components

-- ---- the walk

-- its state is a type, a handle and a byte; and the memory walked is the type that it is at when its byte is set to 0
pub record Place : Type 0 where
  pub type : Walked
  pub spot : Spot
  pub memory : Option Walked

-- on to a part of the type
abbrev pub to_part : Place → (type : ℕ) → Spot → Place
to_part p t spot = record { type = type_no t; spot = spot; memory = p.memory }

-- a buffer is first entered as memory, at byte 0
abbrev pub enter : Place → Place
enter p = record { type = p.type; spot = entered p.spot; memory = some p.type }

-- a struct adds the field's offset; the field becomes the type. There is no field of another number
unfoldable pub into_field : Sheet → (members : List ℕ) → Place → ℤ → Option Place
into_field s ms p (pos i) = do
  t ← get_elem? ms i
  offset ← offset_at s p.type i
  some (to_part p t (moved p.spot (pos offset)))
into_field s ms p (negsuc i) = none

-- a vector, matrix or array adds stride × value; the element becomes the type
unfoldable pub into_element : Sheet → (elem : ℕ) → Place → ℤ → Option Place
into_element s elem p z = do
  stride ← stride_at s p.type
  some (to_part p elem (moved p.spot (pos stride *ℤ z)))

-- at each index, by its value: none where the type has no such part
unfoldable pub step_by : Sheet → Kind → Place → ℤ → Option Place
step_by s (handle_array elem) p z = some (to_part p elem (picked p.spot z))
step_by s (buffer ms) p z = into_field s ms (enter p) z
step_by s opaque p z = none
step_by s (struct ms) p z = into_field s ms p z
step_by s (array elem len) p z = into_element s elem p z
step_by s scalar p z = none
step_by s unlaid p z = none

unfoldable pub step : Sheet → Values → Index → Place → Option Place
step s v i p = step_by s (kind_of s p.type) p (value v i)

unfoldable pub walk : Sheet → Values → List Index → Place → Option Place
walk s v [] p = some p
walk s v (i ∷ is) p = do
  q ← step s v i p
  walk s v is q

-- ---- its start

-- the pointee, or its runtime array for 67 and 70
unfoldable pub start_type : ChainOp → (pointee : ℕ) → Walked
start_type AccessChain t = type_no t
start_type InBoundsAccessChain t = type_no t
start_type PtrAccessChain t = runtime_array_of t
start_type InBoundsPtrAccessChain t = runtime_array_of t

-- the handle is the pointer's own; memory starts at byte 0, and a handle has no byte
abbrev pub at_memory : Walked → Place
at_memory w = record { type = w; spot = record { handle = own; byte = some (pos 0) }; memory = some w }

abbrev pub at_handle : Walked → Place
at_handle w = record { type = w; spot = record { handle = own; byte = none }; memory = none }

abbrev pub start_by : Kind → Walked → Place
start_by (handle_array elem) w = at_handle w
start_by (buffer ms) w = at_handle w
start_by opaque w = at_handle w
start_by (struct ms) w = at_memory w
start_by (array elem len) w = at_memory w
start_by scalar w = at_memory w
start_by unlaid w = at_handle w

unfoldable pub start : Sheet → ChainOp → (pointee : ℕ) → Place
start s op t = start_by (kind_of s (start_type op t)) (start_type op t)
