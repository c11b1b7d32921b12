-- What the code's numbers and array parameters say in the definitions' terms.
use Rattle.std.specs.Prelude.{ℕ, ◌≡◌, Option, Some, None}
use Rattle.std.proofs.Math.Option as option
use Rattle.arith.specs.Refusals.{Result}
use Rattle.arith.specs.InCode.{OrRefusal, in_code}
use Rattle.spirv.specs.declared.Stride.{Stride}
use Rattle.spirv.specs.declared.Stride.TheVariants.{Undecorated}
use Rattle.shapes.specs.Shapes as def
use Rattle.shapes.specs.declared.LayoutConfig.{LayoutConfig}
use Rattle.shapes.specs.declared.MaybeDynMemLayout.{MaybeDynMemLayout}
use Rattle.shapes.specs.declared.TypeLayout.{TypeLayout}
use Rattle.shapes.specs.declared.TypeLayout.TheVariants.{Concrete}
use Rattle.shapes.specs.declared.Components.{Components}
use Rattle.shapes.specs.declared.Components.TheVariants.{Scalar, Elements}
use Rattle.layout.specs.Arrays as arrays
use Rattle.rules.specs.declared.ArrayParams.{ArrayParams}
use Rattle.rules.specs.declared.Legacy.{Legacy}
use Rattle.rules.specs.declared.Legacy.TheVariants.{Vector, Aggregate}

-- memory of these numbers, made of these parts
abbrev pub with_parts : MaybeDynMemLayout → def.Components → def.MemTypeLayout
with_parts mem parts = record { mem = mem; components = parts }

-- a number is what the definitions say of memory of any parts
pub record SaysNumber (n : OrRefusal ℕ) (said : def.Components → Result ℕ) : Type 0 where
  pub by : (parts : def.Components) → n ≡ in_code (said parts)

-- memory as the code holds it
abbrev pub memory_of : (size align legacy dyn : ℕ) → Components → TypeLayout
memory_of size align legacy dyn parts = Concrete record {
  mem = record { fixed_base = record { align = align; legacy_align = legacy; size = size }; dyn_unit_stride = dyn };
  components = parts;
}

abbrev pub scalar_of : (size align : ℕ) → TypeLayout
scalar_of size align = memory_of size align align 0 Scalar

-- ---- vector, matrix and arrays

-- a length, where there is one, as the definitions have it
abbrev pub fixed_len_of : Option ℕ → option.Option ℕ
fixed_len_of None = option.none
fixed_len_of (Some n) = option.some n

-- what legacy alignment goes by, as the definitions have it
abbrev pub legacy_of : LayoutConfig → Legacy → ℕ → ℕ
legacy_of cfg (Vector len) = arrays.vector_legacy len
legacy_of cfg Aggregate = arrays.aggregate_legacy cfg

abbrev pub params_of : LayoutConfig → ArrayParams → arrays.ArrayParams
params_of cfg p = record {
  elem = p.elem;
  fixed_len = fixed_len_of p.fixed_len;
  stride = p.stride;
  legacy = legacy_of cfg p.legacy;
}

abbrev pub params : (elem : ℕ) (fixed_len : Option ℕ) (stride : Stride) (legacy : Legacy) → ArrayParams
params elem fixed_len stride legacy = record { elem = elem; fixed_len = fixed_len; stride = stride; legacy = legacy }

abbrev pub of_vector : (elem len : ℕ) → ArrayParams
of_vector elem len = params elem (Some len) Undecorated (Vector len)

abbrev pub of_fixed : (elem len : ℕ) → Stride → ArrayParams
of_fixed elem len stride = params elem (Some len) stride Aggregate

abbrev pub of_runtime : (elem : ℕ) → Stride → ArrayParams
of_runtime elem stride = params elem None stride Aggregate

abbrev pub elements_of : ArrayParams → (size align legacy stride : ℕ) → TypeLayout
elements_of p size align legacy stride =
    let len = fixed_len_of p.fixed_len in
    memory_of size align legacy (arrays.stride_without len stride) (Elements stride p.elem (arrays.length_or_zero len))
