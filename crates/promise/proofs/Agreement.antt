-- What the sheet declares a type to be is what its layout, by the rules, makes of it. Assumes nothing.
use Prim.Native.Nat.{ℕ}
use mathlib.Core.Path.{◌≡◌, refl, sym, ap, ◌∙◌, subst}
use mathlib.Core.Bool.{Bool, true, false, cond}
use mathlib.Core.List.{List}
use mathlib.Core.Logic.{inl, inr}
use mathlib.Core.Option.{Option, some}
use lib.ListN.{get_elem?}
use Rattle.arith.specs.Options.{◌>>=◌}
use Rattle.arith.specs.Refusals.{Result, ok}
use Rattle.arith.proofs.Results.{never, passed, value_is}
use Rattle.spirv.specs.declared.Length.TheVariants.{Fixed, Specialization}
use Rattle.spirv.specs.declared.SpvType.{SpvType}
use Rattle.spirv.specs.declared.SpvType.TheVariants as spv
use Rattle.spirv.specs.Decl.{Decl}
use Rattle.shapes.specs.Shapes.{Components, Scalar, Elements, Fields, Opaque, Buffer, MemTypeLayout, TypeLayout, Handle, HandleArray, Concrete, offsets_of}
use Rattle.sheet.specs.Sheet.{Sheet, decl_in}
use Rattle.layout.specs.Arrays.{Answer, number_layout, ArrayParams, length_or_zero, array_layout, vector_params, fixed_params, runtime_params}
use Rattle.layout.specs.Structs.{block_or}
use Rattle.layout.specs.Layouts.{rule_of, by_rule, layout_of, answer_in, runtime_array_by}
use Rattle.layout.specs.Statements.{IsLayoutIn}
use Rattle.layout.proofs.OfElements.{ArrayIs, array_is}
use Rattle.layout.proofs.OfMembers.{struct_is}
use Rattle.layout.proofs.InSheet.{laid_in}
use Rattle.promise.specs.Walk.{Walked, type_no, runtime_array_of, Kind, handle_array, buffer, opaque, struct, array, scalar, is_handle, array_by, struct_by, kind_of_type, kind_of_decl, kind_of, layout_at, memory_of, memory_at, stride_of_elements, offset_at, stride_at}

-- the layout at a place of the walk is one of the sheet
pub layout_in : (s : Sheet) (w : Walked) (l : TypeLayout) → layout_at s w ≡ ok l → IsLayoutIn s l
unfolding layout_at
layout_in s (type_no t) l h = (t, inl h)
layout_in s (runtime_array_of t) l h = (t, inr h)

-- offsets and strides are those of the layout there
pub offset_is : (s : Sheet) (w : Walked) (m : MemTypeLayout) (os ms : List ℕ) → memory_of (layout_at s w) ≡ some m → m.components ≡ Fields os ms → (n : ℕ) → offset_at s w n ≡ get_elem? os n
unfolding offset_at memory_at ◌>>=◌
offset_is s w m os ms h e n = rw h (ap (λ (c : Components). get_elem? (offsets_of c) n) e)

pub stride_is : (s : Sheet) (w : Walked) (m : MemTypeLayout) (stride elem n : ℕ) → memory_of (layout_at s w) ≡ some m → m.components ≡ Elements stride elem n → stride_at s w ≡ some stride
unfolding stride_at memory_at ◌>>=◌
stride_is s w m stride elem n h e = rw h (ap stride_of_elements e)

-- ---- a handle is what the sheet declares as one

abbrev is_handle_layout : TypeLayout → Bool
is_handle_layout (Handle h) = true
is_handle_layout (HandleArray h n) = false
is_handle_layout (Concrete m) = false

module _ (s : Sheet) (below : ℕ → Answer) where
  no_handle : (p : ArrayParams) (l : TypeLayout) → array_layout s.setting below p ≡ ok l → false ≡ is_handle_layout l
  no_handle p l g = by l (array_is s.setting below p l g)
    where
      by : (l : TypeLayout) → ArrayIs s.setting below p l → false ≡ is_handle_layout l
      by (Handle h) i = absurd i
      by (HandleArray h n) i = refl
      by (Concrete m) i = refl

  block_handle : (block : Bool) (m : MemTypeLayout) → block ≡ is_handle_layout (block_or block m)
  block_handle true m = refl
  block_handle false m = refl

  handle_type : (d : Decl) (ty : SpvType) (l : TypeLayout) → by_rule s.setting below d (rule_of s.setting ty) ≡ ok l → is_handle ty ≡ is_handle_layout l
  unfolding rule_of by_rule number_layout
  handle_type d spv.Bool l g = ap is_handle_layout (value_is g)
  handle_type d (spv.Int width) l g = ap is_handle_layout (value_is (passed _ _ g))
  handle_type d (spv.Float width) l g = ap is_handle_layout (value_is (passed _ _ g))
  handle_type d (spv.Vector elem len) l g = no_handle _ l g
  handle_type d (spv.Matrix column len) l g = no_handle _ l g
  handle_type d (spv.Array elem (Fixed len) stride) l g = no_handle _ l g
  handle_type d (spv.Array elem Specialization stride) l g = absurd (never g)
  handle_type d (spv.RuntimeArray elem stride) l g = no_handle _ l g
  handle_type d (spv.Struct block) l g =
      let i = struct_is s.setting below block d.members d.decorations l g in block_handle block i.contents ∙ ap is_handle_layout i.is
  handle_type d (spv.Pointer class pointee) l g = ap is_handle_layout (value_is g)
  handle_type d spv.Opaque l g = ap is_handle_layout (value_is g)
  handle_type d spv.Unsupported l g = absurd (never g)

-- ---- the kind of a type, and its layout

module _ (s : Sheet) where
  abbrev pub AgreesParts : Kind → Components → Type 0
  AgreesParts k Scalar = k ≡ scalar
  AgreesParts k (Elements stride elem n) = (len : Option ℕ) × (k ≡ array elem len) × (n ≡ length_or_zero len)
  AgreesParts k (Fields os ms) = k ≡ struct ms

  abbrev pub Agrees : Kind → TypeLayout → Type 0
  Agrees k (Handle Opaque) = k ≡ opaque
  Agrees k (Handle (Buffer m)) = (os : List ℕ) × (ms : List ℕ) × (m.components ≡ Fields os ms) × (k ≡ buffer ms)
  Agrees k (HandleArray h n) = (elem : ℕ) × (k ≡ handle_array elem) × (answer_in s elem ≡ ok (Handle h))
  Agrees k (Concrete m) = AgreesParts k m.components

  -- the kind of an array is by whether its element is a handle
  array_kind : (elem : ℕ) (len : Option ℕ) (e : TypeLayout) → answer_in s elem ≡ ok e
      → array_by (decl_in s elem) elem len ≡ cond (is_handle_layout e) (handle_array elem) (array elem len)
  unfolding array_by layout_of
  array_kind elem len e h =
      let i = laid_in s elem e h in
      ap (λ (r : Result Decl). array_by r elem len) i.is_declared
      ∙ ap (λ (b : Bool). cond b (handle_array elem) (array elem len)) (handle_type s i.below i.decl i.decl.type e (sym i.made ∙ h))

  module _ (below : ℕ → Answer) (kept : (u : ℕ) (m : TypeLayout) → below u ≡ ok m → answer_in s u ≡ ok m) where
    by_elements : (p : ArrayParams) (l : TypeLayout) → array_layout s.setting below p ≡ ok l → Agrees (array_by (decl_in s p.elem) p.elem p.fixed_len) l
    by_elements p l g = by l (array_is s.setting below p l g)
      where
        by : (l : TypeLayout) → ArrayIs s.setting below p l → Agrees (array_by (decl_in s p.elem) p.elem p.fixed_len) l
        by (Handle h) i = absurd i
        by (HandleArray h n) i = let a = kept _ _ i.0 in (p.elem, array_kind p.elem p.fixed_len (Handle h) a, a)
        by (Concrete m) i = rw i.parts (p.fixed_len, array_kind p.elem p.fixed_len _ (kept _ _ i.laid), refl)

    by_block : (block : Bool) (ms os : List ℕ) (m : MemTypeLayout) → m.components ≡ Fields os ms → Agrees (struct_by block ms) (block_or block m)
    by_block true ms os m e = (os, ms, e, refl)
    by_block false ms os m e = rw e refl

    by_type : (d : Decl) (ty : SpvType) (l : TypeLayout) → by_rule s.setting below d (rule_of s.setting ty) ≡ ok l → Agrees (kind_of_type s d.members ty) l
    unfolding rule_of by_rule number_layout vector_params fixed_params runtime_params
    by_type d spv.Bool l g = subst (Agrees scalar) (value_is g) refl
    by_type d (spv.Int width) l g = subst (Agrees scalar) (value_is (passed _ _ g)) refl
    by_type d (spv.Float width) l g = subst (Agrees scalar) (value_is (passed _ _ g)) refl
    by_type d (spv.Vector elem len) l g = by_elements _ l g
    by_type d (spv.Matrix column len) l g = by_elements _ l g
    by_type d (spv.Array elem (Fixed len) stride) l g = by_elements _ l g
    by_type d (spv.Array elem Specialization stride) l g = absurd (never g)
    by_type d (spv.RuntimeArray elem stride) l g = by_elements _ l g
    by_type d (spv.Struct block) l g =
        let i = struct_is s.setting below block d.members d.decorations l g in
        subst (Agrees (struct_by block d.members)) i.is (by_block block d.members i.of.offsets i.contents i.of.parts)
    by_type d (spv.Pointer class pointee) l g = subst (Agrees scalar) (value_is g) refl
    by_type d spv.Opaque l g = subst (Agrees opaque) (value_is g) refl
    by_type d spv.Unsupported l g = absurd (never g)

  pub agrees : (w : Walked) (l : TypeLayout) → layout_at s w ≡ ok l → Agrees (kind_of s w) l
  unfolding layout_at kind_of layout_of runtime_array_by runtime_params
  agrees (type_no t) l h =
      let i = laid_in s t l h in
      subst (λ (r : Result Decl). Agrees (kind_of_decl s r) l) (sym i.is_declared) (by_type i.below i.kept i.decl i.decl.type l (sym i.made ∙ h))
  agrees (runtime_array_of t) l h = by_elements (answer_in s) (λ u m e. e) _ l h
