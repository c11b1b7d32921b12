-- Document 01, "Files as they stay": which rule each type follows; and "From heap trees to tables": one record a type, filled from type 0 upward.
use Rattle.std.specs.Prelude.{ℕ, List, Bool, length, get_or}
use Rattle.arith.specs.Refusals.{ok, refused, in_room, misread, unsupported, specialization}
use Rattle.spirv.specs.declared.Length.TheVariants.{Fixed, Specialization}
use Rattle.spirv.specs.declared.Stride.TheVariants.{Undecorated}
use Rattle.spirv.specs.declared.SpvType.{SpvType}
use Rattle.spirv.specs.declared.SpvType.TheVariants as spv
use Rattle.spirv.specs.Decl.{Decl, filled}
use Rattle.shapes.specs.declared.LayoutConfig.{LayoutConfig}
use Rattle.shapes.specs.Shapes.{TypeLayout, Opaque, Buffer, Handle, HandleArray, Concrete, offsets_of}
use Rattle.sheet.specs.Sheet.{Sheet}
use Rattle.layout.specs.Arrays.{Answer, scalar_layout, number_layout, ArrayParams, array_layout, vector_params, fixed_params, runtime_params}
use Rattle.layout.specs.Structs.{struct_layout}

-- ---- one type

pub data Rule : Type 0 where
  of_setting : (size align : ℕ) → Rule
  of_width : (width : ℕ) → Rule
  of_elements : ArrayParams → Rule
  of_members : (block : Bool) → Rule
  of_handle : Rule
  no_layout : (refusal : ℕ) → Rule

-- int and float; bool and pointer from the setting; one rule for vector, matrix and arrays, a specialization length before all else; struct
unfoldable pub rule_of : LayoutConfig → SpvType → Rule
rule_of cfg spv.Bool = of_setting cfg.abstract_bool_size cfg.abstract_bool_align
rule_of cfg (spv.Int width) = of_width width
rule_of cfg (spv.Float width) = of_width width
rule_of cfg (spv.Vector elem len) = of_elements (vector_params elem len)
rule_of cfg (spv.Matrix column len) = of_elements (fixed_params cfg column len Undecorated)
rule_of cfg (spv.Array elem (Fixed len) stride) = of_elements (fixed_params cfg elem len stride)
rule_of cfg (spv.Array elem Specialization stride) = no_layout specialization
rule_of cfg (spv.RuntimeArray elem stride) = of_elements (runtime_params cfg elem stride)
rule_of cfg (spv.Struct block) = of_members block
rule_of cfg (spv.Pointer class pointee) = of_setting cfg.logical_ptr_size cfg.logical_ptr_align
rule_of cfg spv.Opaque = of_handle
rule_of cfg spv.Unsupported = no_layout unsupported

unfoldable pub by_rule : LayoutConfig → (below : ℕ → Answer) → Decl → Rule → Answer
by_rule cfg below d (of_setting size align) = ok (scalar_layout size align)
by_rule cfg below d (of_width width) = number_layout width
by_rule cfg below d (of_elements p) = array_layout cfg below p
by_rule cfg below d (of_members block) = struct_layout cfg below block d.members d.decorations
by_rule cfg below d of_handle = ok (Handle Opaque)
by_rule cfg below d (no_layout n) = refused n

-- `layout_of`
unfoldable pub layout_of : LayoutConfig → (below : ℕ → Answer) → Decl → Answer
layout_of cfg below d = by_rule cfg below d (rule_of cfg d.type)

-- ---- all types of a sheet

-- a number that is no type is 1
unfoldable pub layouts : LayoutConfig → List Decl → List Answer
unfolding filled
layouts cfg types = filled (refused misread) (layout_of cfg) types

unfoldable pub answer_in : Sheet → ℕ → Answer
unfolding layouts
answer_in s t = get_or (layouts s.setting s.types) t (refused misread)

-- the undecorated runtime array of a type, from which 67 and 70 start
unfoldable pub runtime_array_by : LayoutConfig → (answer-of : ℕ → Answer) → ℕ → Answer
runtime_array_by cfg answer-of t = array_layout cfg answer-of (runtime_params cfg t Undecorated)

abbrev pub runtime_array_in : Sheet → ℕ → Answer
runtime_array_in s t = runtime_array_by s.setting (answer_in s) t

-- ---- the question T: layout, 24

-- how many field offsets T shows
unfoldable pub offset_count : TypeLayout → ℕ
offset_count (Handle Opaque) = 0
offset_count (Handle (Buffer m)) = length (offsets_of m.components)
offset_count (HandleArray Opaque len) = 0
offset_count (HandleArray (Buffer m) len) = length (offsets_of m.components)
offset_count (Concrete m) = length (offsets_of m.components)

unfoldable pub layout_in_room : (room : ℕ) → Sheet → ℕ → Answer
layout_in_room room s t = in_room room offset_count (answer_in s t)
