-- The layout of a type of a sheet that was read is refused by 4 to 17 alone. Assumes nothing.
use Prim.Native.Nat.{ℕ, max, zero, suc, ◌+◌, ◌<◌}
use mathlib.Core.Path.{◌≡◌, refl, sym, ap, ◌∙◌, subst}
use mathlib.Core.Bool.{Bool, true, false, cond}
use mathlib.Core.List.{List, [], ◌∷◌}
use mathlib.Core.Option.{some}
use native.Mathlib.Omega.{arith}
use lib.Dec.{eqb}
use lib.ListN.{length, get_elem?}
use Rattle.arith.specs.Refusals.{Result, ok}
use Rattle.arith.specs.Numbers.{fit, round_up}
use Rattle.arith.proofs.Results.{value_is, RefusedBy, fine_by, this_by, then_by, and_by, unless_by, when_by, fit_by}
use Rattle.spirv.specs.declared.Length.TheVariants.{Fixed, Specialization}
use Rattle.spirv.specs.declared.Stride.{Stride}
use Rattle.spirv.specs.declared.Stride.TheVariants.{Decorated, Undecorated}
use Rattle.spirv.specs.declared.SpvType.{SpvType}
use Rattle.spirv.specs.declared.SpvType.TheVariants as spv
use Rattle.spirv.specs.declared.Decoration.{Decoration}
use Rattle.spirv.specs.declared.Decoration.TheVariants.{RowMajor, Offset}
use Rattle.spirv.specs.declared.MemberDecoration.{MemberDecoration}
use Rattle.spirv.specs.Decl.{Decl}
use Rattle.spirv.proofs.Filled.{by_lower}
use Rattle.shapes.specs.declared.LayoutConfig.{LayoutConfig}
use Rattle.shapes.specs.Shapes.{MemTypeLayout, TypeLayout, Handle, HandleArray, Concrete}
use Rattle.sheet.specs.Sheet.{Sheet, declared, decl_in}
use Rattle.sheet.specs.Statements.{All, FitsType, FitsDecl, GoodSheet}
use Rattle.layout.specs.Arrays.{Answer, number_layout, rounded, ArrayParams, stride_of, by_element, array_layout, vector_params, fixed_params, runtime_params}
use Rattle.layout.specs.Structs.{in_memory, member_layouts, given_offset, given_offsets, Extent, with_member, place_given, place_in_turn, place, final_size, struct_layout}
use Rattle.layout.specs.Layouts.{Rule, of_setting, of_width, of_elements, of_members, of_handle, no_layout, rule_of, by_rule, layout_of, answer_in}
use Rattle.layout.specs.Statements.{IsLayoutRefusal, LayoutRefusals}
use Rattle.layout.proofs.InSheet.{made_in}

abbrev pub Only : {A : Type 0} → Result A → Type 0
Only r = RefusedBy IsLayoutRefusal r

-- ---- each rule

rounded_only : (cfg : LayoutConfig) (n : ℕ) (m : MemTypeLayout) → Only (rounded cfg n m)
unfolding rounded
rounded_only cfg n m = then_by _ _ (fit_by _ (omega arith)) λ x h. then_by _ _ (fit_by _ (omega arith)) λ y g. and_by _ _ (unless_by _ _ (omega arith)) fine_by

stride_only : (cfg : LayoutConfig) (st : Stride) (e : MemTypeLayout) → Only (stride_of cfg st e)
unfolding stride_of
stride_only cfg (Decorated n) e = fine_by
stride_only cfg Undecorated e = rounded_only cfg _ e

element_only : (cfg : LayoutConfig) (p : ArrayParams) (e : TypeLayout) → Only (by_element cfg p e)
unfolding by_element
element_only cfg p (Handle h) = fine_by
element_only cfg p (HandleArray h n) = this_by (omega arith)
element_only cfg p (Concrete e) =
    and_by _ _ (when_by _ _ (omega arith)) (then_by _ _ (stride_only cfg p.stride e) λ s h.
    and_by _ _ (when_by _ _ (omega arith)) (then_by _ _ (fit_by _ (omega arith)) λ x g. then_by _ _ (fit_by _ (omega arith)) λ y k. fine_by))

memory_only : (l : TypeLayout) → Only (in_memory l)
memory_only (Handle h) = this_by (omega arith)
memory_only (HandleArray h n) = this_by (omega arith)
memory_only (Concrete m) = fine_by

given_only : (read member : ℕ) (d : Decoration) → Only (given_offset read member d)
unfolding given_offset
given_only read member RowMajor = this_by (omega arith)
given_only read member (Offset value) = and_by _ _ (when_by _ _ (omega arith)) (and_by _ _ (when_by _ _ (omega arith)) fine_by)

offsets_only : (read : ℕ) (ds : List MemberDecoration) → Only (given_offsets read ds)
unfolding given_offsets
offsets_only read [] = fine_by
offsets_only read (d ∷ ds) = then_by _ _ (given_only read d.member d.decoration) λ o h. then_by _ _ (offsets_only (read + 1) ds) λ os g. fine_by

place_given_only : (x : Extent) (os : List ℕ) (ms : List MemTypeLayout) → Only (place_given x os ms)
unfolding place_given
place_given_only x [] ms = fine_by
place_given_only x (o ∷ os) [] = fine_by
place_given_only x (o ∷ os) (m ∷ ms) = then_by _ _ (fit_by _ (omega arith)) λ e h. and_by _ _ (when_by _ _ (omega arith)) (place_given_only (with_member x (max x.size e) m) os ms)

turn_only : (cfg : LayoutConfig) (x : Extent) (ms : List MemTypeLayout) → Only (place_in_turn cfg x ms)
unfolding place_in_turn
turn_only cfg x [] = fine_by
turn_only cfg x (m ∷ ms) =
    and_by _ _ (when_by _ _ (omega arith)) (then_by _ _ (rounded_only cfg _ m) λ o h.
    then_by _ _ (fit_by _ (omega arith)) λ e g. then_by _ _ (turn_only cfg (with_member x e m) ms) λ p k. fine_by)

place_only : (cfg : LayoutConfig) (given : List ℕ) (ms : List MemTypeLayout) → Only (place cfg given ms)
unfolding place
place_only cfg [] ms = turn_only cfg _ ms
place_only cfg (o ∷ os) ms = and_by _ _ (unless_by _ _ (omega arith)) (then_by _ _ (place_given_only _ (o ∷ os) ms) λ x h. fine_by)

final_only : (x : Extent) → Only (final_size x)
unfolding final_size
final_only x = by_test (eqb x.dyn 0)
  where
    by_test : (t : Bool) → Only (cond t (fit (round_up x.size x.align)) (ok x.size))
    by_test true = fit_by _ (omega arith)
    by_test false = fine_by

pub array_only : (cfg : LayoutConfig) (below : ℕ → Answer) (p : ArrayParams) → Only (below p.elem) → Only (array_layout cfg below p)
unfolding array_layout
array_only cfg below p h = and_by _ _ (when_by _ _ (omega arith)) (then_by _ _ h λ e g. element_only cfg p e)

-- ---- a type, by lower ones

module _ (cfg : LayoutConfig) (t : ℕ) (below : ℕ → Answer) (ih : (u : ℕ) → u < t → Only (below u)) where
  members_only : (ts : List ℕ) → All (λ u. u < t) ts → Only (member_layouts below ts)
  unfolding member_layouts
  members_only [] a = fine_by
  members_only (u ∷ ts) a = then_by _ _ (ih u a.0) λ l h. then_by _ _ (memory_only l) λ m g. then_by _ _ (members_only ts a.1) λ ms k. fine_by

  -- what the rule of a type must bring
  abbrev RuleFits : Rule → Type 0
  RuleFits (of_setting size align) = Unit {0}
  RuleFits (of_width width) = Unit {0}
  RuleFits (of_elements p) = p.elem < t
  RuleFits (of_members block) = Unit {0}
  RuleFits of_handle = Unit {0}
  RuleFits (no_layout n) = IsLayoutRefusal n

  rule_fits : (ty : SpvType) → FitsType t ty → RuleFits (rule_of cfg ty)
  unfolding rule_of vector_params fixed_params runtime_params
  rule_fits spv.Bool f = tt
  rule_fits (spv.Int width) f = tt
  rule_fits (spv.Float width) f = tt
  rule_fits (spv.Vector elem len) f = f.0
  rule_fits (spv.Matrix column len) f = f.0
  rule_fits (spv.Array elem (Fixed len) stride) f = f.0
  rule_fits (spv.Array elem Specialization stride) f = omega arith
  rule_fits (spv.RuntimeArray elem stride) f = f.0
  rule_fits (spv.Struct block) f = tt
  rule_fits (spv.Pointer class pointee) f = tt
  rule_fits spv.Opaque f = tt
  rule_fits spv.Unsupported f = omega arith

  rule_only : (d : Decl) (r : Rule) → RuleFits r → All (λ u. u < t) d.members → Only (by_rule cfg below d r)
  unfolding by_rule number_layout struct_layout
  rule_only d (of_setting size align) f a = fine_by
  rule_only d (of_width width) f a = and_by _ _ (unless_by _ _ (omega arith)) fine_by
  rule_only d (of_elements p) f a = array_only cfg below p (ih p.elem f)
  rule_only d (of_members block) f a =
      then_by _ _ (members_only d.members a) λ ms h. then_by _ _ (offsets_only 0 d.decorations) λ given g.
      then_by _ _ (place_only cfg given ms) λ p k. then_by _ _ (final_only p.extent) λ size j. fine_by
  rule_only d of_handle f a = fine_by
  rule_only d (no_layout n) f a = this_by f

-- ---- all types

pub element_there : {A : Type 0} (xs : List A) (t : ℕ) → t < length xs → (a : A) × (get_elem? xs t ≡ some a)
element_there [] t h = absurd (omega arith)
element_there (x ∷ xs) zero h = (x, refl)
element_there (x ∷ xs) (suc t) h = element_there xs t (omega arith)

pub refused_only : (s : Sheet) → GoodSheet s → (t : ℕ) → t < length s.types → Only (answer_in s t)
unfolding decl_in layout_of
refused_only s good = by_lower _ one
  where
    one : (t : ℕ) → ((u : ℕ) → u < t → u < length s.types → Only (answer_in s u)) → t < length s.types → Only (answer_in s t)
    one t ih lt =
        let (d, e) = element_there s.types t lt in
        let i = made_in s t d (ap declared e) in
        let same : d ≡ i.decl = value_is (sym (ap declared e) ∙ i.is_declared) in
        let fits = subst (FitsDecl t) same (good.types t d e) in
        let lower : (u : ℕ) → u < t → Only (i.below u) = λ u l. subst Only (sym (i.same u l)) (ih u l (omega arith)) in
        subst Only (sym i.made)
        (rule_only s.setting t i.below lower i.decl _ (rule_fits s.setting t i.below lower i.decl.type fits.type) fits.members)

pub layout_refusals : LayoutRefusals
layout_refusals s good t n lt h = (refused_only s good t lt).only n h
