-- Document 01, "Files as they stay": int, float, bool and pointer; and the one rule of vector, matrix and arrays.
use Rattle.std.specs.Prelude.{ℕ, ◌*◌, ◌/◌, max, Bool, false, cond, ◌&&◌, ◌||◌, leb, eqb}
use Rattle.std.proofs.Math.Option.{Option, none, some}
use Rattle.arith.specs.Refusals.{Result, ok, refused, ◌>>=◌, ◌>>◌, refuse◌when◌, refuse◌unless◌, odd_width, zero_length, zero_stride, nested_handles, unsized_element, ambiguous}
use Rattle.arith.specs.Numbers.{fit, round_up, is_power_of_two}
use Rattle.spirv.specs.declared.Stride.{Stride}
use Rattle.spirv.specs.declared.Stride.TheVariants.{Decorated, Undecorated}
use Rattle.shapes.specs.declared.LayoutConfig.{LayoutConfig}
use Rattle.shapes.specs.Shapes.{Scalar, Elements, MemTypeLayout, TypeLayout, Handle, HandleArray, Concrete, size_of, align_of, legacy_of, runtime_sized, memory}

-- a type's layout, or the refusal that waits for a question
abbrev pub Answer : Type 0
Answer = Result TypeLayout

-- ---- scalars

-- legacy alignment is the same
abbrev pub scalar_layout : (size align : ℕ) → TypeLayout
scalar_layout size align = Concrete (memory size align align 0 Scalar)

-- int and float: size and both alignments are width / 8
unfoldable pub number_layout : (width : ℕ) → Answer
number_layout width = do
  refuse odd_width unless (leb 8 width && is_power_of_two width)
  ok (scalar_layout (width / 8) (width / 8))

-- ---- rounding

-- n rounded to align; it is also rounded to legacy alignment, and where that isn't ignored both must agree
unfoldable pub rounded : LayoutConfig → ℕ → MemTypeLayout → Result ℕ
rounded cfg n m = do
  x ← fit (round_up n (align_of m))
  y ← fit (round_up n (legacy_of m))
  refuse ambiguous unless (cfg.ignore_legacy_align || eqb x y)
  ok x

-- ---- vector, matrix and arrays

-- what tells them apart: the length, where there is one; the decoration; the legacy alignment by the element's
pub record ArrayParams : Type 0 where
  pub elem : ℕ
  pub fixed_len : Option ℕ
  pub stride : Stride
  pub legacy : ℕ → ℕ

-- the length, or 0 without length
abbrev pub length_or_zero : Option ℕ → ℕ
length_or_zero none = 0
length_or_zero (some n) = n

abbrev pub has_zero_length : Option ℕ → Bool
has_zero_length none = false
has_zero_length (some n) = eqb n 0

-- the runtime stride
abbrev pub stride_without : Option ℕ → ℕ → ℕ
stride_without none stride = stride
stride_without (some n) stride = 0

-- the decoration; without one, the element's size rounded
unfoldable pub stride_of : LayoutConfig → Stride → MemTypeLayout → Result ℕ
stride_of cfg (Decorated stride) e = ok stride
stride_of cfg Undecorated e = rounded cfg (size_of e) e

-- an array by its element's layout: a handle, then it is a handle array; a handle array; runtime-sized; stride
unfoldable pub by_element : LayoutConfig → ArrayParams → TypeLayout → Answer
by_element cfg p (Handle h) = ok (HandleArray h (length_or_zero p.fixed_len))
by_element cfg p (HandleArray h n) = refused nested_handles
by_element cfg p (Concrete e) = do
  refuse unsized_element when runtime_sized e
  stride ← stride_of cfg p.stride e
  refuse zero_stride when eqb stride 0
  legacy ← fit (p.legacy (legacy_of e))
  size ← fit (stride * length_or_zero p.fixed_len)
  ok (Concrete (memory size (align_of e) legacy (stride_without p.fixed_len stride) (Elements stride p.elem (length_or_zero p.fixed_len))))

-- zero length comes before the element's own refusal
unfoldable pub array_layout : LayoutConfig → (below : ℕ → Answer) → ArrayParams → Answer
array_layout cfg below p = do
  refuse zero_length when has_zero_length p.fixed_len
  e ← below p.elem
  by_element cfg p e

-- 2 times the element's up to length 2, else 4 times
abbrev pub vector_legacy : (len : ℕ) → ℕ → ℕ
vector_legacy len legacy = cond (leb len 2) (2 * legacy) (4 * legacy)

-- the larger of the element's and the aggregate minimum
abbrev pub aggregate_legacy : LayoutConfig → ℕ → ℕ
aggregate_legacy cfg legacy = max legacy cfg.min_aggregate_legacy_align

unfoldable pub vector_params : (elem len : ℕ) → ArrayParams
vector_params elem len = record { elem = elem; fixed_len = some len; stride = Undecorated; legacy = vector_legacy len }

unfoldable pub fixed_params : LayoutConfig → (elem len : ℕ) → Stride → ArrayParams
fixed_params cfg elem len stride = record { elem = elem; fixed_len = some len; stride = stride; legacy = aggregate_legacy cfg }

unfoldable pub runtime_params : LayoutConfig → (elem : ℕ) → Stride → ArrayParams
runtime_params cfg elem stride = record { elem = elem; fixed_len = none; stride = stride; legacy = aggregate_legacy cfg }
