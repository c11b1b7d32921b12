-- What memory is made of: fields end within it, elements follow by the stride, and both are of lower types. Assumes nothing.
use Prim.Native.Nat.{ℕ, ◌<◌, ◌≤◌}
use mathlib.Core.Path.{◌≡◌, refl, sym, ap, ◌∙◌, subst}
use mathlib.Core.Bool.{Bool, true, false}
use mathlib.Core.List.{List, [], ◌∷◌}
use mathlib.Core.Logic.{⊎_elim}
use mathlib.Core.Option.{Option, none, some}
use native.Mathlib.Omega.{arith}
use borrow.Author.Tests.{eqb-false}
use Rattle.arith.specs.Refusals.{ok}
use Rattle.arith.proofs.Results.{never, value_is, passed, no_some, some_is}
use Rattle.arith.proofs.RoundUp.{rounds_up}
use Rattle.spirv.specs.Decl.{Decl}
use Rattle.shapes.specs.Shapes.{Scalar, HandleLayout, MemTypeLayout, TypeLayout, Handle, HandleArray, Concrete, size_of, align_of, dyn_of, contents_of}
use Rattle.sheet.specs.Sheet.{Sheet}
use Rattle.sheet.specs.Statements.{All}
use Rattle.layout.specs.Arrays.{Answer, number_layout, ArrayParams, length_or_zero, has_zero_length, stride_without, array_layout}
use Rattle.layout.specs.Structs.{block_or}
use Rattle.layout.specs.Layouts.{Rule, of_setting, of_width, of_elements, of_members, of_handle, no_layout, rule_of, by_rule, layout_of, answer_in, runtime_array_by, runtime_array_in}
use Rattle.layout.specs.Statements.{PartsOf, Parts, Handles, part_types, RefersLower}
use Rattle.layout.proofs.OfElements.{OfElements, ArrayIs, array_is}
use Rattle.layout.proofs.OfMembers.{Laid, OfMembers, struct_is, same_length, member_is}
use Rattle.layout.proofs.InSheet.{laid_in}

-- the contents of a struct are the same, Block or not
pub block_contents : (block : Bool) (m : MemTypeLayout) → contents_of (block_or block m) ≡ some m
block_contents true m = refl
block_contents false m = refl

-- an array of a fixed size has a length
some_length : (len : Option ℕ) (stride : ℕ) → has_zero_length len ≡ false → 1 ≤ stride → stride_without len stride ≡ 0 → 1 ≤ length_or_zero len
some_length none stride h l e = absurd (omega arith)
some_length (some n) stride h l e = let z = eqb-false n 0 h in omega arith

module _ (s : Sheet) (below : ℕ → Answer) (kept : (u : ℕ) (m : TypeLayout) → below u ≡ ok m → answer_in s u ≡ ok m) where
  elements_of : (p : ArrayParams) (m : MemTypeLayout) → OfElements s.setting below p m → PartsOf s m m.components
  elements_of p m o =
      rw o.parts record {
        part = o.elem;
        laid = kept _ _ o.laid;
        part_fixed = o.elem_fixed;
        some_stride = o.some_stride;
        size = o.size;
        fixed = λ z. some_length p.fixed_len o.stride o.some_length o.some_stride (sym o.dyn ∙ z);
      }

  fields_of : (ts : List ℕ) (m : MemTypeLayout) → OfMembers s.setting below ts m → PartsOf s m m.components
  fields_of ts m o =
      rw o.parts record {
        same_length = same_length o.offsets below ts o.layouts (size_of m) o.laid o.ends;
        each = λ i u at hu ho.
            let f = member_is below ts o.offsets o.layouts (size_of m) 0 o.laid o.ends i u at hu ho in
            record { part = f.layout; laid = kept _ _ f.laid; ends = f.ends; fixed = λ z. omega (arith, f.dyn_within, o.dyn) };
        multiple = λ a z. let r = rounds_up o.unrounded (align_of m) a in (r.times, o.size z ∙ r.multiple);
      }

  array_parts : (p : ArrayParams) (l : TypeLayout) (m : MemTypeLayout) → contents_of l ≡ some m → array_layout s.setting below p ≡ ok l → PartsOf s m m.components
  array_parts p l m c g = by l c (array_is s.setting below p l g)
    where
      by : (l : TypeLayout) → contents_of l ≡ some m → ArrayIs s.setting below p l → PartsOf s m m.components
      by (Handle h) c i = absurd i
      by (HandleArray h n) c i = absurd (no_some c)
      by (Concrete e) c i = elements_of p m (subst (OfElements s.setting below p) (some_is c) i)

  scalar_parts : (l : TypeLayout) (x m : MemTypeLayout) → x.components ≡ Scalar → dyn_of x ≡ 0 → Concrete x ≡ l → contents_of l ≡ some m → PartsOf s m m.components
  scalar_parts l x m e z g c = subst (λ (y : MemTypeLayout). PartsOf s y y.components) (some_is (ap contents_of g ∙ c)) (rw e z)

  rule_parts : (d : Decl) (r : Rule) (l : TypeLayout) (m : MemTypeLayout) → contents_of l ≡ some m → by_rule s.setting below d r ≡ ok l → PartsOf s m m.components
  unfolding by_rule number_layout
  rule_parts d (of_setting size align) l m c g = scalar_parts l _ m refl refl (value_is g) c
  rule_parts d (of_width width) l m c g = scalar_parts l _ m refl refl (value_is (passed _ _ g)) c
  rule_parts d (of_elements p) l m c g = array_parts p l m c g
  rule_parts d (of_members block) l m c g =
      let i = struct_is s.setting below block d.members d.decorations l g in
      let e : i.contents ≡ m = some_is (sym (block_contents block i.contents) ∙ ap contents_of i.is ∙ c) in
      fields_of d.members m (subst (OfMembers s.setting below d.members) e i.of)
  rule_parts d of_handle l m c g = absurd (no_some (ap contents_of (value_is g) ∙ c))
  rule_parts d (no_layout n) l m c g = absurd (never g)

pub parts : Parts
unfolding layout_of runtime_array_by
parts s l m (t, of) c = ⊎_elim of_type of_array of
  where
    of_type : answer_in s t ≡ ok l → PartsOf s m m.components
    of_type h = let i = laid_in s t l h in rule_parts s i.below i.kept i.decl _ l m c (sym i.made ∙ h)

    of_array : runtime_array_in s t ≡ ok l → PartsOf s m m.components
    of_array h = array_parts s (answer_in s) (λ u x e. e) _ l m c h

-- ---- handles

block_no_array : (block : Bool) (m : MemTypeLayout) (h : HandleLayout) (n : ℕ) → block_or block m ≡ HandleArray h n → ⊥
block_no_array true m h n e = let z : ◌≡◌ {A = ℕ} 0 1 = cc in omega arith
block_no_array false m h n e = let z : ◌≡◌ {A = ℕ} 0 1 = cc in omega arith

pub handles : Handles
unfolding layout_of by_rule number_layout runtime_array_by
handles s h n (t, of) = ⊎_elim of_type (of_array (answer_in s) (λ u x e. e) _) of
  where
    of_array : (below : ℕ → Answer) → ((u : ℕ) (m : TypeLayout) → below u ≡ ok m → answer_in s u ≡ ok m) → (p : ArrayParams)
        → array_layout s.setting below p ≡ ok (HandleArray h n) → (elem : ℕ) × (answer_in s elem ≡ ok (Handle h))
    of_array below kept p g = let i = array_is s.setting below p (HandleArray h n) g in (p.elem, kept p.elem (Handle h) i.0)

    by_case : (below : ℕ → Answer) → ((u : ℕ) (m : TypeLayout) → below u ≡ ok m → answer_in s u ≡ ok m) → (d : Decl) (r : Rule)
        → by_rule s.setting below d r ≡ ok (HandleArray h n) → (elem : ℕ) × (answer_in s elem ≡ ok (Handle h))
    by_case below kept d (of_setting size align) g = let e = value_is g in absurd (let z : ◌≡◌ {A = ℕ} 0 1 = cc in omega arith)
    by_case below kept d (of_width width) g = let e = value_is (passed _ _ g) in absurd (let z : ◌≡◌ {A = ℕ} 0 1 = cc in omega arith)
    by_case below kept d (of_elements p) g = of_array below kept p g
    by_case below kept d (of_members block) g =
        let i = struct_is s.setting below block d.members d.decorations (HandleArray h n) g in absurd (block_no_array block i.contents h n i.is)
    by_case below kept d of_handle g = let e = value_is g in absurd (let z : ◌≡◌ {A = ℕ} 0 1 = cc in omega arith)
    by_case below kept d (no_layout k) g = absurd (never g)

    of_type : answer_in s t ≡ ok (HandleArray h n) → (elem : ℕ) × (answer_in s elem ≡ ok (Handle h))
    of_type g = let i = laid_in s t (HandleArray h n) g in by_case i.below i.kept i.decl (rule_of s.setting i.decl.type) (sym i.made ∙ g)

-- ---- lower types

module _ (s : Sheet) (t : ℕ) (below : ℕ → Answer) (lower : (u : ℕ) (m : TypeLayout) → below u ≡ ok m → u < t) where
  all_lower : (ts : List ℕ) (ms : List MemTypeLayout) → Laid below ts ms → All (λ u. u < t) ts
  all_lower [] ms l = tt
  all_lower (u ∷ ts) [] l = absurd l
  all_lower (u ∷ ts) (m ∷ ms) l = (lower u _ l.0, all_lower ts ms l.1)

  array_lower : (p : ArrayParams) (l : TypeLayout) (m : MemTypeLayout) → contents_of l ≡ some m → ArrayIs s.setting below p l → All (λ u. u < t) (part_types m.components)
  array_lower p (Handle h) m c i = absurd i
  array_lower p (HandleArray h n) m c i = absurd (no_some c)
  array_lower p (Concrete e) m c i =
      subst (λ (y : MemTypeLayout). All (λ u. u < t) (part_types y.components)) (some_is c) (rw i.parts (lower _ _ i.laid, tt))

  scalar_lower : (l : TypeLayout) (x m : MemTypeLayout) → x.components ≡ Scalar → Concrete x ≡ l → contents_of l ≡ some m → All (λ u. u < t) (part_types m.components)
  scalar_lower l x m e g c = subst (λ (y : MemTypeLayout). All (λ u. u < t) (part_types y.components)) (some_is (ap contents_of g ∙ c)) (rw e tt)

  rule_lower : (d : Decl) (r : Rule) (l : TypeLayout) (m : MemTypeLayout) → contents_of l ≡ some m → by_rule s.setting below d r ≡ ok l → All (λ u. u < t) (part_types m.components)
  unfolding by_rule number_layout
  rule_lower d (of_setting size align) l m c g = scalar_lower l _ m refl (value_is g) c
  rule_lower d (of_width width) l m c g = scalar_lower l _ m refl (value_is (passed _ _ g)) c
  rule_lower d (of_elements p) l m c g = array_lower p l m c (array_is s.setting below p l g)
  rule_lower d (of_members block) l m c g =
      let i = struct_is s.setting below block d.members d.decorations l g in
      let e : i.contents ≡ m = some_is (sym (block_contents block i.contents) ∙ ap contents_of i.is ∙ c) in
      subst (λ (y : MemTypeLayout). All (λ u. u < t) (part_types y.components)) e (rw i.of.parts (all_lower d.members i.of.layouts i.of.laid))
  rule_lower d of_handle l m c g = absurd (no_some (ap contents_of (value_is g) ∙ c))
  rule_lower d (no_layout n) l m c g = absurd (never g)

pub refers_lower : RefersLower
unfolding layout_of
refers_lower s t l m h c = let i = laid_in s t l h in rule_lower s t i.below i.lower i.decl _ l m c (sym i.made ∙ h)
