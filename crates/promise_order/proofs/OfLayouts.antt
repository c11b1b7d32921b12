-- The order of refusals in layouts. Assumes nothing.
use Prim.Native.Nat.{ℕ, ◌+◌, max}
use mathlib.Core.Path.{◌≡◌, refl, sym, ◌∙◌}
use mathlib.Core.Bool.{Bool, true, false, not, cond, ◌&&◌}
use mathlib.Core.List.{List, [], ◌∷◌}
use mathlib.Core.Option.{some, none}
use lib.Dec.{leb, eqb}
use Rattle.arith.specs.Refusals.{ok, refused, overflow}
use Rattle.arith.specs.Numbers.{max_u32, fit, round_up}
use Rattle.arith.proofs.Results.{went, passed, value_is, fit_is}
use Rattle.spirv.specs.declared.Stride.{Stride}
use Rattle.spirv.specs.declared.Stride.TheVariants.{Decorated, Undecorated}
use Rattle.spirv.specs.declared.Decoration.{Decoration}
use Rattle.spirv.specs.declared.Decoration.TheVariants.{RowMajor, Offset}
use Rattle.spirv.specs.declared.MemberDecoration.{MemberDecoration}
use Rattle.spirv.specs.Decl.{Decl}
use Rattle.shapes.specs.declared.LayoutConfig.{LayoutConfig}
use Rattle.shapes.specs.Shapes.{MemTypeLayout, TypeLayout, Handle, HandleArray, Concrete, size_of, align_of}
use Rattle.layout.specs.Arrays.{Answer, ArrayParams, number_layout, rounded, stride_of, by_element, array_layout}
use Rattle.layout.specs.Structs.{in_memory, member_layouts, given_offset, given_offsets, Extent, no_members, with_member, place_given, place_in_turn, place, final_size, struct_layout}
use Rattle.layout.specs.Layouts.{Rule, of_setting, of_width, of_elements, of_members, of_handle, no_layout, rule_of, by_rule, layout_of}
use Rattle.promise_order.specs.Due.{first, refusal_of, InOrder}
use Rattle.promise_order.specs.OfLayouts.{rounding_tests, stride_tests, stride_is, size_tests, element_tests, array_tests, handle_tests, member_tests, one_decoration, decoration_tests, given_tests, turn_tests, place_tests, final_tests, struct_tests, rule_tests, OrderOfLayouts}
use Rattle.promise_order.proofs.Due.{fine, always, then, then_own, then_both, then_behind, then_value, then_when, then_unless, then_fit}

-- ---- rounding

module _ (cfg : LayoutConfig) (n : ℕ) (m : MemTypeLayout) where
  rounding : InOrder (rounded cfg n m) (rounding_tests cfg n m)
  unfolding rounded
  rounding = then_fit _ _ _ (then_fit _ _ _ (then_unless _ _ _ [] λ h. fine))

  rounded_is : (x : ℕ) → rounded cfg n m ≡ ok x → round_up n (align_of m) ≡ x
  unfolding rounded
  rounded_is x h =
      let a = went _ _ h in
      let b = went _ _ a.rest in
      sym (fit_is _ _ a.here).same ∙ value_is (passed _ _ b.rest)

-- ---- vector, matrix and arrays

module _ (cfg : LayoutConfig) (p : ArrayParams) (e : MemTypeLayout) where
  strides : (s : Stride) → InOrder (stride_of cfg s e) (stride_tests cfg s e)
  unfolding stride_of
  strides (Decorated k) = fine
  strides Undecorated = rounding cfg (size_of e) e

  stride_is_lem : (s : Stride) (x : ℕ) → stride_of cfg s e ≡ ok x → stride_is s e ≡ x
  unfolding stride_of
  stride_is_lem (Decorated k) x h = value_is h
  stride_is_lem Undecorated x h = rounded_is cfg (size_of e) e x h

elements : (cfg : LayoutConfig) (p : ArrayParams) (l : TypeLayout) → InOrder (by_element cfg p l) (element_tests cfg p l)
unfolding by_element
elements cfg p (Handle h) = fine
elements cfg p (HandleArray h n) = always _
elements cfg p (Concrete e) =
    then_when _ _ _ _ λ f. then (stride_of cfg p.stride e) _ (stride_tests cfg p.stride e) (size_tests p e (stride_is p.stride e)) (strides cfg p e p.stride) λ x h.
    rw (stride_is_lem cfg p e p.stride x h) (then_when _ _ _ _ λ g. then_fit _ _ _ (then_fit _ _ _ fine))

arrays : (cfg : LayoutConfig) (below : ℕ → Answer) (p : ArrayParams) → InOrder (array_layout cfg below p) (array_tests cfg below p)
unfolding array_layout
arrays cfg below p = then_when _ _ _ _ λ f. then_own (below p.elem) _ (element_tests cfg p) λ l h. elements cfg p l

-- ---- members and decorations

members_in : (below : ℕ → Answer) (ts : List ℕ) → InOrder (member_layouts below ts) (member_tests below ts)
unfolding member_layouts
members_in below [] = fine
members_in below (t ∷ ts) = then_both (below t) _ handle_tests (member_tests below ts) λ l h. then (in_memory l) _ (handle_tests l) (member_tests below ts) (handles l) λ m g. then_value _ _ _ (members_in below ts)
  where
    handles : (l : TypeLayout) → InOrder (in_memory l) (handle_tests l)
    handles (Handle h) = always _
    handles (HandleArray h n) = always _
    handles (Concrete m) = fine

decoration_in : (read member : ℕ) (d : Decoration) → InOrder (given_offset read member d) (one_decoration read member d)
unfolding given_offset
decoration_in read member RowMajor = always _
decoration_in read member (Offset v) = then_when _ _ _ _ λ f. then_when _ _ _ _ λ g. fine

decorations_in : (read : ℕ) (ds : List MemberDecoration) → InOrder (given_offsets read ds) (decoration_tests read ds)
unfolding given_offsets
decorations_in read [] = fine
decorations_in read (d ∷ ds) = then _ _ (one_decoration read d.member d.decoration) (decoration_tests (read + 1) ds) (decoration_in read d.member d.decoration) λ o h. then_value _ _ _ (decorations_in (read + 1) ds)

-- ---- offsets

given_in : (x : Extent) (os : List ℕ) (ms : List MemTypeLayout) → InOrder (place_given x os ms) (given_tests x os ms)
unfolding place_given
given_in x [] ms = fine
given_in x (o ∷ os) [] = fine
given_in x (o ∷ os) (m ∷ ms) = then_fit _ _ _ (then_when _ _ _ _ λ f. given_in (with_member x (max x.size (o + size_of m)) m) os ms)

turn_in : (cfg : LayoutConfig) (x : Extent) (ms : List MemTypeLayout) → InOrder (place_in_turn cfg x ms) (turn_tests cfg x ms)
unfolding place_in_turn
turn_in cfg x [] = fine
turn_in cfg x (m ∷ ms) =
    let offset = round_up x.size (align_of m) in
    let rest = then_value (place_in_turn cfg (with_member x (offset + size_of m) m) ms) _ _ (turn_in cfg (with_member x (offset + size_of m) m) ms) in
    then_when _ _ _ _ λ f. then (rounded cfg x.size m) _ (rounding_tests cfg x.size m) _ (rounding cfg x.size m) λ y h. rw (← rounded_is cfg x.size m y h) (then_fit _ _ _ rest)

place_in : (cfg : LayoutConfig) (given : List ℕ) (ms : List MemTypeLayout) → InOrder (place cfg given ms) (place_tests cfg given ms)
unfolding place
place_in cfg [] ms = turn_in cfg (no_members cfg) ms
place_in cfg (o ∷ os) ms = then_unless _ _ _ _ λ f. then_value _ _ _ (given_in (no_members cfg) (o ∷ os) ms)

final_in : (x : Extent) → InOrder (final_size x) (final_tests x)
unfolding final_size fit first refusal_of
final_in x = record { comes = by (eqb x.dyn 0) (leb (round_up x.size x.align) max_u32) }
  where
    by : (a b : Bool) → refusal_of (cond a (cond b (ok (round_up x.size x.align)) (refused overflow)) (ok x.size)) ≡ cond (a && not b) (some overflow) none
    by true true = refl
    by true false = refl
    by false b = refl

-- ---- the struct

structs : (cfg : LayoutConfig) (below : ℕ → Answer) (block : Bool) (members : List ℕ) (ds : List MemberDecoration) → InOrder (struct_layout cfg below block members ds) (struct_tests cfg below members ds)
unfolding struct_layout
structs cfg below block members ds = then (member_layouts below members) _ (member_tests below members) _ (members_in below members) λ ms h. then (given_offsets 0 ds) _ (decoration_tests 0 ds) _ (decorations_in 0 ds) λ given g.
    rw (h, g) (then_behind (place cfg given ms) _ (place_tests cfg given ms) _ (place_in cfg given ms) λ p e. then_value _ _ _ (final_in p.extent))

-- ---- any type

by_rule_lem : (cfg : LayoutConfig) (below : ℕ → Answer) (d : Decl) (q : Rule) → InOrder (by_rule cfg below d q) (rule_tests cfg below d q)
unfolding by_rule number_layout
by_rule_lem cfg below d (of_setting size align) = fine
by_rule_lem cfg below d (of_width width) = then_unless _ _ _ [] λ h. fine
by_rule_lem cfg below d (of_elements p) = arrays cfg below p
by_rule_lem cfg below d (of_members block) = structs cfg below block d.members d.decorations
by_rule_lem cfg below d of_handle = fine
by_rule_lem cfg below d (no_layout n) = always n

types : (cfg : LayoutConfig) (below : ℕ → Answer) (d : Decl) → InOrder (layout_of cfg below d) (rule_tests cfg below d (rule_of cfg d.type))
unfolding layout_of
types cfg below d = by_rule_lem cfg below d (rule_of cfg d.type)

pub order_of_layouts : OrderOfLayouts
order_of_layouts = record { elements = elements; arrays = arrays; structs = structs; types = types }
