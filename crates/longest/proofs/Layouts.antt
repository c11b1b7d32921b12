-- Every number of a layout of a sheet that was read has 32 bits. Assumes nothing.
use Prim.Native.Nat.{ℕ, max, ◌/◌, ◌≤◌, ◌<◌}
use native.Mathlib.Omega.{arith}
use native.Mathlib.Nat.{div-le_self}
use mathlib.Core.Path.{◌≡◌, sym, ◌∙◌, subst}
use mathlib.Core.Bool.{Bool, true, false}
use mathlib.Core.List.{List, [], ◌∷◌}
use mathlib.Core.Logic.{⊎_elim}
use mathlib.Core.Option.{Option, none, some}
use lib.ListN.{length, get_elem?}
use Rattle.arith.specs.Refusals.{ok}
use Rattle.arith.proofs.Results.{never, value_is, went, passed, fit_is}
use Rattle.spirv.specs.declared.Length.TheVariants.{Fixed, Specialization}
use Rattle.spirv.specs.declared.Stride.{Stride}
use Rattle.spirv.specs.declared.Stride.TheVariants.{Decorated, Undecorated}
use Rattle.spirv.specs.declared.SpvType.{SpvType}
use Rattle.spirv.specs.declared.SpvType.TheVariants as spv
use Rattle.spirv.specs.Decl.{Decl}
use Rattle.spirv.proofs.Filled.{by_lower}
use Rattle.shapes.specs.declared.LayoutConfig.{LayoutConfig}
use Rattle.shapes.specs.Shapes.{MemTypeLayout, TypeLayout, Handle, HandleArray, Concrete, size_of, align_of, legacy_of, dyn_of}
use Rattle.sheet.specs.Sheet.{Sheet, member_count, max_members}
use Rattle.sheet.specs.Statements.{Fits, All, FitsStride, FitsType, FitsSetting, GoodSheet}
use Rattle.sheet.proofs.Tables.{members_length, spans}
use Rattle.layout.specs.Arrays.{Answer, rounded, length_or_zero, stride_without, stride_of, number_layout, ArrayParams, vector_params, fixed_params, runtime_params}
use Rattle.layout.specs.Structs.{block_or}
use Rattle.layout.specs.Layouts.{Rule, of_setting, of_width, of_elements, of_members, of_handle, no_layout, rule_of, by_rule, layout_of, answer_in, runtime_array_by}
use Rattle.layout.proofs.OfElements.{ArrayIs, array_is}
use Rattle.layout.proofs.OfMembers.{Laid, Ends, largest, OfMembers, struct_is, same_length}
use Rattle.layout.proofs.InSheet.{laid_in, decl_there}
use Rattle.longest.specs.Statements.{FitsParts, FitsMemory, FitsLayout, LayoutsFit}

-- ---- what a rule brings

abbrev RuleFits : Rule → Type 0
RuleFits (of_setting size align) = Fits size × Fits align
RuleFits (of_width width) = Fits width
RuleFits (of_elements p) = Fits (length_or_zero p.fixed_len) × FitsStride p.stride
RuleFits (of_members block) = Unit {0}
RuleFits of_handle = Unit {0}
RuleFits (no_layout n) = Unit {0}

rule_fits : (cfg : LayoutConfig) → FitsSetting cfg → (above : ℕ) (ty : SpvType) → FitsType above ty → RuleFits (rule_of cfg ty)
unfolding rule_of vector_params fixed_params runtime_params
rule_fits cfg g above spv.Bool f = (g.bool_size, g.bool_align)
rule_fits cfg g above (spv.Int width) f = f
rule_fits cfg g above (spv.Float width) f = f
rule_fits cfg g above (spv.Vector elem len) f = (f.1, tt)
rule_fits cfg g above (spv.Matrix column len) f = (f.1, tt)
rule_fits cfg g above (spv.Array elem (Fixed len) stride) f = (f.1, f.2)
rule_fits cfg g above (spv.Array elem Specialization stride) f = tt
rule_fits cfg g above (spv.RuntimeArray elem stride) f = (omega arith, f.1)
rule_fits cfg g above (spv.Struct block) f = tt
rule_fits cfg g above (spv.Pointer class pointee) f = (g.ptr_size, g.ptr_align)
rule_fits cfg g above spv.Opaque f = tt
rule_fits cfg g above spv.Unsupported f = tt

-- ---- structs

offsets_fit : (os : List ℕ) (ms : List MemTypeLayout) (size : ℕ) → Fits size → Ends os ms size → All Fits os
offsets_fit [] ms size f e = tt
offsets_fit (o ∷ os) [] size f e = absurd e
offsets_fit (o ∷ os) (m ∷ ms) size f e = (omega (arith, e.0), offsets_fit os ms size f e.1)

largest_fits : (a : ℕ) (f : MemTypeLayout → ℕ) (ms : List MemTypeLayout) → Fits a → All (λ m. Fits (f m)) ms → Fits (largest a f ms)
largest_fits a f [] h g = h
largest_fits a f (m ∷ ms) h g = largest_fits (max a (f m)) f ms (omega (arith, g.0)) g.1

all_as : {A : Type 0} (P Q : A → Type 0) → ((a : A) → P a → Q a) → (xs : List A) → All P xs → All Q xs
all_as P Q f [] h = tt
all_as P Q f (x ∷ xs) h = (f x h.0, all_as P Q f xs h.1)

block_fits : (block : Bool) (m : MemTypeLayout) → FitsMemory m → FitsLayout (block_or block m)
block_fits true m f = f
block_fits false m f = f

module _ (cfg : LayoutConfig) (g : FitsSetting cfg) (below : ℕ → Answer) (ih : (u : ℕ) (l : TypeLayout) → below u ≡ ok l → FitsLayout l) where
  members_fit : (ts : List ℕ) (ms : List MemTypeLayout) → Laid below ts ms → All FitsMemory ms
  members_fit [] [] l = tt
  members_fit [] (m ∷ ms) l = absurd l
  members_fit (t ∷ ts) [] l = absurd l
  members_fit (t ∷ ts) (m ∷ ms) l = (ih t (Concrete m) l.0, members_fit ts ms l.1)

  struct_fits : (ts : List ℕ) (m : MemTypeLayout) → length ts ≤ max_members → OfMembers cfg below ts m → FitsMemory m
  struct_fits ts m few i =
      let ms = members_fit ts i.layouts i.laid in
      record {
        size = i.size_fits;
        align = rw i.align (largest_fits 1 align_of i.layouts (omega arith) (all_as FitsMemory (λ x. Fits (align_of x)) (λ x f. f.align) i.layouts ms));
        legacy = rw i.legacy (largest_fits _ legacy_of i.layouts g.least (all_as FitsMemory (λ x. Fits (legacy_of x)) (λ x f. f.legacy) i.layouts ms));
        dyn = rw i.dyn (largest_fits 0 dyn_of i.layouts (omega arith) (all_as FitsMemory (λ x. Fits (dyn_of x)) (λ x f. f.dyn) i.layouts ms));
        parts = subst FitsParts (sym i.parts) (
          offsets_fit i.offsets i.layouts (size_of m) i.size_fits i.ends,
          omega (arith, same_length i.offsets below ts i.layouts (size_of m) i.laid i.ends),
        );
      }

  -- ---- arrays

  stride_fits : (st : Stride) → FitsStride st → (e : MemTypeLayout) (stride : ℕ) → stride_of cfg st e ≡ ok stride → Fits stride
  unfolding stride_of rounded
  stride_fits (Decorated n) f e stride h = omega (arith, f, value_is h)
  stride_fits Undecorated f e stride h =
      let x = went _ _ h in
      let y = went _ _ x.rest in
      omega (arith, (fit_is _ _ x.here).fits, value_is (passed _ _ y.rest))

  without_fits : (n : Option ℕ) (stride : ℕ) → Fits stride → Fits (stride_without n stride)
  without_fits none stride f = f
  without_fits (some n) stride f = omega arith

  pub array_fits : (p : ArrayParams) → Fits (length_or_zero p.fixed_len) → FitsStride p.stride → (l : TypeLayout) → ArrayIs cfg below p l → FitsLayout l
  array_fits p n st (Handle h) i = absurd i
  array_fits p n st (HandleArray h k) i = (ih p.elem (Handle h) i.0, rw i.1 n)
  array_fits p n st (Concrete m) i =
      let e = ih p.elem (Concrete i.elem) i.laid in
      let stride = stride_fits p.stride st i.elem i.stride i.strided in
      record {
        size = i.size_fits;
        align = rw i.align e.align;
        legacy = i.legacy_fits;
        dyn = rw i.dyn (without_fits p.fixed_len i.stride stride);
        parts = subst FitsParts (sym i.parts) (stride, n);
      }

  by_rule_lem : (d : Decl) → length d.members ≤ max_members → (r : Rule) → RuleFits r → (l : TypeLayout) → by_rule cfg below d r ≡ ok l → FitsLayout l
  unfolding by_rule number_layout
  by_rule_lem d few (of_setting size align) f l h = subst FitsLayout (value_is h) (record { size = f.0; align = f.1; legacy = f.1; dyn = omega arith; parts = tt })
  by_rule_lem d few (of_width width) f l h =
      let n : Fits (width / 8) = omega (arith, f, div-le_self width 8) in
      subst FitsLayout (value_is (passed _ _ h)) (record { size = n; align = n; legacy = n; dyn = omega arith; parts = tt })
  by_rule_lem d few (of_elements p) f l h = array_fits p f.0 f.1 l (array_is cfg below p l h)
  by_rule_lem d few (of_members block) f l h =
      let i = struct_is cfg below block d.members d.decorations l h in
      subst FitsLayout i.is (block_fits block i.contents (struct_fits d.members i.contents few i.of))
  by_rule_lem d few of_handle f l h = subst FitsLayout (value_is h) tt
  by_rule_lem d few (no_layout n) f l h = absurd (never h)

-- ---- of a sheet

few_members : (ds : List Decl) (t : ℕ) (d : Decl) → get_elem? ds t ≡ some d → length d.members ≤ member_count ds
few_members ds t d e = omega (arith, (spans ds).inside t d e, members_length ds)

types_fit : (s : Sheet) → GoodSheet s → (t : ℕ) (l : TypeLayout) → answer_in s t ≡ ok l → FitsLayout l
unfolding layout_of
types_fit s good = by_lower _ one
  where
    one : (t : ℕ) → ((u : ℕ) → u < t → (l : TypeLayout) → answer_in s u ≡ ok l → FitsLayout l) → (l : TypeLayout) → answer_in s t ≡ ok l → FitsLayout l
    one t ih l h =
        let i = laid_in s t l h in
        let e = decl_there s t i.decl i.is_declared in
        by_rule_lem s.setting good.setting i.below (λ u k b. ih u (i.lower u k b) k (i.kept u k b)) i.decl
        (omega (arith, few_members s.types t i.decl e, good.few_members)) _ (rule_fits s.setting good.setting t i.decl.type (good.types t i.decl e).type) l (sym i.made ∙ h)

pub layouts_fit : LayoutsFit
unfolding runtime_array_by runtime_params
layouts_fit s good l (t, of) = ⊎_elim (types_fit s good t l) of_array of
  where
    of_array : runtime_array_by s.setting (answer_in s) t ≡ ok l → FitsLayout l
    of_array h =
        array_fits s.setting good.setting (answer_in s) (λ u k e. types_fit s good u k e) (runtime_params s.setting t Undecorated) (omega arith) tt l
        (array_is s.setting (answer_in s) (runtime_params s.setting t Undecorated) l h)
