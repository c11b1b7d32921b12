-- Document 01, "Files as they stay": the order of refusals in the rule of vector, matrix and arrays, and in that of structs.
use Rattle.std.specs.Prelude.{ℕ, ◌+◌, ◌*◌, max, Bool, true, not, ◌&&◌, ◌||◌, List, [], ◌∷◌, ◌++◌, leb, ltb, eqb, length}
use Rattle.arith.specs.Refusals.{odd_width, zero_length, zero_stride, nested_handles, unsized_element, handle_member, row_major, offset_repeated, offsets_missing, unsized_misplaced, overflow, ambiguous}
use Rattle.arith.specs.Numbers.{round_up, is_power_of_two}
use Rattle.spirv.specs.declared.Stride.{Stride}
use Rattle.spirv.specs.declared.Stride.TheVariants.{Decorated, Undecorated}
use Rattle.spirv.specs.declared.Decoration.{Decoration}
use Rattle.spirv.specs.declared.Decoration.TheVariants.{RowMajor, Offset}
use Rattle.spirv.specs.declared.MemberDecoration.{MemberDecoration}
use Rattle.spirv.specs.Decl.{Decl}
use Rattle.shapes.specs.declared.LayoutConfig.{LayoutConfig}
use Rattle.shapes.specs.Shapes.{MemTypeLayout, TypeLayout, Handle, HandleArray, Concrete, size_of, align_of, legacy_of, runtime_sized}
use Rattle.layout.specs.Arrays.{Answer, ArrayParams, length_or_zero, has_zero_length, by_element, array_layout}
use Rattle.layout.specs.Structs.{member_layouts, given_offsets, Extent, no_members, with_member, place, struct_layout}
use Rattle.layout.specs.Layouts.{Rule, of_setting, of_width, of_elements, of_members, of_handle, no_layout, rule_of, layout_of}
use Rattle.promise_order.specs.Due.{Test, ◌due-where◌, own, behind, large, InOrder}

-- size is rounded to align, and to legacy alignment even where that is ignored; if it isn't and they differ, 17
abbrev pub rounding_tests : LayoutConfig → ℕ → MemTypeLayout → List Test
rounding_tests cfg n m =
    overflow due-where large (round_up n (align_of m))
    ∷ overflow due-where large (round_up n (legacy_of m))
    ∷ ambiguous due-where not (cfg.ignore_legacy_align || eqb (round_up n (align_of m)) (round_up n (legacy_of m)))
    ∷ []

-- ---- vector, matrix and arrays: zero length; the element's own refusal; handle array; runtime-sized; stride

abbrev pub stride_tests : LayoutConfig → Stride → MemTypeLayout → List Test
stride_tests cfg (Decorated stride) e = []
stride_tests cfg Undecorated e = rounding_tests cfg (size_of e) e

abbrev pub stride_is : Stride → MemTypeLayout → ℕ
stride_is (Decorated stride) e = stride
stride_is Undecorated e = round_up (size_of e) (align_of e)

abbrev pub size_tests : ArrayParams → MemTypeLayout → (stride : ℕ) → List Test
size_tests p e stride =
    zero_stride due-where eqb stride 0
    ∷ overflow due-where large (p.legacy (legacy_of e))
    ∷ overflow due-where large (stride * length_or_zero p.fixed_len)
    ∷ []

abbrev pub element_tests : LayoutConfig → ArrayParams → TypeLayout → List Test
element_tests cfg p (Handle h) = []
element_tests cfg p (HandleArray h n) = nested_handles due-where true ∷ []
element_tests cfg p (Concrete e) = unsized_element due-where runtime_sized e ∷ (stride_tests cfg p.stride e ++ size_tests p e (stride_is p.stride e))

abbrev pub array_tests : LayoutConfig → (below : ℕ → Answer) → ArrayParams → List Test
array_tests cfg below p = zero_length due-where has_zero_length p.fixed_len ∷ own (below p.elem) ∷ behind (below p.elem) (element_tests cfg p)

-- ---- struct: members in order (own refusal, then handle); decorations in order; then offsets

abbrev pub handle_tests : TypeLayout → List Test
handle_tests (Handle h) = handle_member due-where true ∷ []
handle_tests (HandleArray h n) = handle_member due-where true ∷ []
handle_tests (Concrete m) = []

abbrev pub member_tests : (below : ℕ → Answer) → List ℕ → List Test
member_tests below [] = []
member_tests below (t ∷ ts) = own (below t) ∷ (behind (below t) handle_tests ++ member_tests below ts)

abbrev pub one_decoration : (read member : ℕ) → Decoration → List Test
one_decoration read member RowMajor = row_major due-where true ∷ []
one_decoration read member (Offset value) = offset_repeated due-where ltb member read ∷ offsets_missing due-where ltb read member ∷ []

abbrev pub decoration_tests : (read : ℕ) → List MemberDecoration → List Test
decoration_tests read [] = []
decoration_tests read (d ∷ ds) = one_decoration read d.member d.decoration ++ decoration_tests (read + 1) ds

-- at each member overflow comes before 15
abbrev pub given_tests : Extent → (offsets : List ℕ) → List MemTypeLayout → List Test
given_tests x [] ms = []
given_tests x (o ∷ os) [] = []
given_tests x (o ∷ os) (m ∷ ms) =
    overflow due-where large (o + size_of m)
    ∷ unsized_misplaced due-where (not (eqb x.dyn 0) && runtime_sized m)
    ∷ given_tests (with_member x (max x.size (o + size_of m)) m) os ms

-- 15 after a runtime-sized one, rounding by align then legacy, 17, end overflow
abbrev pub turn_tests : LayoutConfig → Extent → List MemTypeLayout → List Test
turn_tests cfg x [] = []
turn_tests cfg x (m ∷ ms) =
    let offset = round_up x.size (align_of m) in
    unsized_misplaced due-where not (eqb x.dyn 0)
    ∷ (rounding_tests cfg x.size m ++ (overflow due-where large (offset + size_of m) ∷ turn_tests cfg (with_member x (offset + size_of m) m) ms))

-- if any are given, there must be one per member
abbrev pub place_tests : LayoutConfig → List ℕ → List MemTypeLayout → List Test
place_tests cfg [] ms = turn_tests cfg (no_members cfg) ms
place_tests cfg (o ∷ os) ms = offsets_missing due-where not (eqb (length (o ∷ os)) (length ms)) ∷ given_tests (no_members cfg) (o ∷ os) ms

-- without a runtime-sized part size is rounded to align
abbrev pub final_tests : Extent → List Test
final_tests x = overflow due-where (eqb x.dyn 0 && large (round_up x.size x.align)) ∷ []

abbrev pub struct_tests : LayoutConfig → (below : ℕ → Answer) → (members : List ℕ) → List MemberDecoration → List Test
struct_tests cfg below members ds =
    member_tests below members
    ++ (decoration_tests 0 ds
    ++ behind (member_layouts below members) λ ms. behind (given_offsets 0 ds) λ given. place_tests cfg given ms ++ behind (place cfg given ms) λ p. final_tests p.extent)

-- ---- any type

abbrev pub rule_tests : LayoutConfig → (below : ℕ → Answer) → Decl → Rule → List Test
rule_tests cfg below d (of_setting size align) = []
rule_tests cfg below d (of_width width) = odd_width due-where not (leb 8 width && is_power_of_two width) ∷ []
rule_tests cfg below d (of_elements p) = array_tests cfg below p
rule_tests cfg below d (of_members block) = struct_tests cfg below d.members d.decorations
rule_tests cfg below d of_handle = []
rule_tests cfg below d (no_layout n) = n due-where true ∷ []

pub record OrderOfLayouts : Type 0 where
  pub elements : (cfg : LayoutConfig) (p : ArrayParams) (l : TypeLayout) → InOrder (by_element cfg p l) (element_tests cfg p l)
  pub arrays : (cfg : LayoutConfig) (below : ℕ → Answer) (p : ArrayParams) → InOrder (array_layout cfg below p) (array_tests cfg below p)
  pub structs : (cfg : LayoutConfig) (below : ℕ → Answer) (block : Bool) (members : List ℕ) (ds : List MemberDecoration)
      → InOrder (struct_layout cfg below block members ds) (struct_tests cfg below members ds)
  pub types : (cfg : LayoutConfig) (below : ℕ → Answer) (d : Decl) → InOrder (layout_of cfg below d) (rule_tests cfg below d (rule_of cfg d.type))
