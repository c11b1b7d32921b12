-- What the layout of a struct says of its members': where they lie, and how its numbers follow from theirs. Assumes nothing.
use Prim.Native.Nat.{ℕ, zero, suc, ◌+◌, ◌≤◌, max}
use mathlib.Core.Path.{◌≡◌, refl, sym, ap, ◌∙◌, subst}
use mathlib.Core.Bool.{Bool, true, false, cond}
use mathlib.Core.List.{List, [], ◌∷◌}
use mathlib.Core.Option.{some}
use native.Mathlib.Omega.{arith}
use lib.Dec.{eqb}
use lib.ListN.{get_elem?, length}
use borrow.Author.Tests.{eqb-true, eqb-false}
use Rattle.arith.specs.Refusals.{ok}
use Rattle.arith.specs.Numbers.{max_u32, fit, round_up}
use Rattle.arith.proofs.Results.{never, went, passed, not_refused, value_is, fit_is, no_some, some_is}
use Rattle.spirv.specs.declared.MemberDecoration.{MemberDecoration}
use Rattle.shapes.specs.declared.LayoutConfig.{LayoutConfig}
use Rattle.shapes.specs.Shapes.{Fields, MemTypeLayout, TypeLayout, Handle, HandleArray, Concrete, size_of, align_of, legacy_of, dyn_of}
use Rattle.layout.specs.Arrays.{Answer, rounded}
use Rattle.layout.specs.Structs.{in_memory, member_layouts, Extent, no_members, Placed, place_given, place_in_turn, place, final_size, block_or, struct_layout}

-- ---- members

-- types and their layouts side by side
abbrev pub Laid : (below : ℕ → Answer) → List ℕ → List MemTypeLayout → Type 0
Laid below [] [] = Unit {0}
Laid below [] (m ∷ ms) = ⊥
Laid below (t ∷ ts) [] = ⊥
Laid below (t ∷ ts) (m ∷ ms) = (below t ≡ ok (Concrete m)) × Laid below ts ms

concrete : (l : TypeLayout) (m : MemTypeLayout) → in_memory l ≡ ok m → l ≡ Concrete m
concrete (Handle h) m e = absurd (never e)
concrete (HandleArray h n) m e = absurd (never e)
concrete (Concrete k) m e = ap Concrete (value_is e)

members_laid : (below : ℕ → Answer) (ts : List ℕ) (ms : List MemTypeLayout) → member_layouts below ts ≡ ok ms → Laid below ts ms
unfolding member_layouts
members_laid below [] ms h = subst (Laid below []) (value_is h) tt
members_laid below (t ∷ ts) ms h =
    let l = went _ _ h in
    let m = went _ _ l.rest in
    let rest = went _ _ m.rest in
    subst (Laid below (t ∷ ts)) (value_is rest.rest)
    (l.here ∙ ap (λ (x : TypeLayout). ok x) (concrete l.value m.value m.here), members_laid below ts rest.value rest.here)

-- ---- offsets

-- each member at its offset ends within the size
abbrev pub Ends : List ℕ → List MemTypeLayout → ℕ → Type 0
Ends [] [] size = Unit {0}
Ends [] (m ∷ ms) size = ⊥
Ends (o ∷ os) [] size = ⊥
Ends (o ∷ os) (m ∷ ms) size = (o + size_of m ≤ size) × Ends os ms size

wider : (os : List ℕ) (ms : List MemTypeLayout) (a b : ℕ) → a ≤ b → Ends os ms a → Ends os ms b
wider [] [] a b h e = tt
wider [] (m ∷ ms) a b h e = e
wider (o ∷ os) [] a b h e = e
wider (o ∷ os) (m ∷ ms) a b h e = (omega (arith, e.0), wider os ms a b h e.1)

-- the largest of a and a number of each
abbrev pub largest : ℕ → (MemTypeLayout → ℕ) → List MemTypeLayout → ℕ
largest a f [] = a
largest a f (m ∷ ms) = largest (max a (f m)) f ms

pub largest_least : (a : ℕ) (f : MemTypeLayout → ℕ) (ms : List MemTypeLayout) → a ≤ largest a f ms
largest_least a f [] = omega arith
largest_least a f (m ∷ ms) = omega (arith, largest_least (max a (f m)) f ms)

-- the extent x with the members ms more, at the offsets os, is y
record Grew (x : Extent) (os : List ℕ) (ms : List MemTypeLayout) (y : Extent) : Type 0 where
  larger : x.size ≤ y.size
  fits : x.size ≤ max_u32 → y.size ≤ max_u32
  ends : Ends os ms y.size
  align : y.align ≡ largest x.align align_of ms
  legacy : y.legacy ≡ largest x.legacy legacy_of ms
  dyn : y.dyn ≡ largest x.dyn dyn_of ms

none_more : (x : Extent) → Grew x [] [] x
none_more x = record { larger = omega arith; fits = λ f. f; ends = tt; align = refl; legacy = refl; dyn = refl }

given_grew : (os : List ℕ) (ms : List MemTypeLayout) (x y : Extent) → length os ≡ length ms → place_given x os ms ≡ ok y → Grew x os ms y
unfolding place_given
given_grew [] [] x y n h = subst (Grew x [] []) (value_is h) (none_more x)
given_grew [] (m ∷ ms) x y n h = absurd (omega arith)
given_grew (o ∷ os) [] x y n h = absurd (omega arith)
given_grew (o ∷ os) (m ∷ ms) x y n h =
    let end = went _ _ h in
    let e = fit_is _ _ end.here in
    let g = given_grew os ms _ y (omega arith) (passed _ _ end.rest) in
    let big : max x.size end.value ≤ y.size = g.larger in
    record {
      larger = omega arith;
      fits = λ f. g.fits (omega (arith, e.fits));
      ends = (omega (arith, e.same), g.ends);
      align = g.align;
      legacy = g.legacy;
      dyn = g.dyn;
    }

rounded_up : (cfg : LayoutConfig) (n : ℕ) (m : MemTypeLayout) (o : ℕ) → rounded cfg n m ≡ ok o → n ≤ o
unfolding rounded round_up
rounded_up cfg n m o h =
    let x = went _ _ h in
    let y = went _ _ x.rest in
    let f = value_is (passed _ _ y.rest) in
    omega (arith, (fit_is _ _ x.here).same)

turn_grew : (cfg : LayoutConfig) (ms : List MemTypeLayout) (x : Extent) (p : Placed) → place_in_turn cfg x ms ≡ ok p → Grew x p.offsets ms p.extent
unfolding place_in_turn
turn_grew cfg [] x p h = subst (λ (q : Placed). Grew x q.offsets [] q.extent) (value_is h) (none_more x)
turn_grew cfg (m ∷ ms) x p h =
    let offset = went _ _ (passed _ _ h) in
    let end = went _ _ offset.rest in
    let rest = went _ _ end.rest in
    let up = rounded_up cfg _ m _ offset.here in
    let e = fit_is _ _ end.here in
    let g = turn_grew cfg ms _ rest.value rest.here in
    let big : end.value ≤ rest.value.extent.size = g.larger in
    subst (λ (q : Placed). Grew x q.offsets (m ∷ ms) q.extent) (value_is rest.rest) record {
      larger = omega (arith, e.same);
      fits = λ f. g.fits e.fits;
      ends = (omega (arith, e.same), g.ends);
      align = g.align;
      legacy = g.legacy;
      dyn = g.dyn;
    }

place_grew : (cfg : LayoutConfig) (given : List ℕ) (ms : List MemTypeLayout) (p : Placed) → place cfg given ms ≡ ok p → Grew (no_members cfg) p.offsets ms p.extent
unfolding place
place_grew cfg [] ms p h = turn_grew cfg ms _ p h
place_grew cfg (o ∷ os) ms p h =
    let n = eqb-true _ _ (not_refused _ _ _ h) in
    let x = went _ _ (passed _ _ h) in
    subst (λ (q : Placed). Grew (no_members cfg) q.offsets ms q.extent) (value_is x.rest) (given_grew (o ∷ os) ms _ x.value n x.here)

-- ---- the size

record Final (x : Extent) (size : ℕ) : Type 0 where
  larger : x.size ≤ size
  fits : x.size ≤ max_u32 → size ≤ max_u32
  rounded : x.dyn ≡ 0 → size ≡ round_up x.size x.align

final : (x : Extent) (size : ℕ) → final_size x ≡ ok size → Final x size
unfolding final_size round_up
final x size h = by_test (eqb x.dyn 0) refl h
  where
    by_test : (t : Bool) → eqb x.dyn 0 ≡ t → cond t (fit (round_up x.size x.align)) (ok x.size) ≡ ok size → Final x size
    by_test true e g = let f = fit_is _ _ g in record { larger = omega (arith, f.same); fits = λ l. f.fits; rounded = λ z. f.same }
    by_test false e g =
        let v = value_is g in
        record { larger = omega arith; fits = λ l. omega arith; rounded = λ z. absurd (eqb-false x.dyn 0 e z) }

-- ---- the struct

module _ (cfg : LayoutConfig) (below : ℕ → Answer) where
  -- its contents m, by its members of the types ts
  pub record OfMembers (ts : List ℕ) (m : MemTypeLayout) : Type 0 where
    pub layouts : List MemTypeLayout
    pub offsets : List ℕ
    pub laid : Laid below ts layouts
    pub parts : m.components ≡ Fields offsets ts
    pub ends : Ends offsets layouts (size_of m)
    pub size_fits : size_of m ≤ max_u32
    pub unrounded : ℕ
    pub size : dyn_of m ≡ 0 → size_of m ≡ round_up unrounded (align_of m)
    pub align : align_of m ≡ largest 1 align_of layouts
    pub legacy : legacy_of m ≡ largest cfg.min_aggregate_legacy_align legacy_of layouts
    pub dyn : dyn_of m ≡ largest 0 dyn_of layouts

  pub record StructIs (block : Bool) (ts : List ℕ) (l : TypeLayout) : Type 0 where
    pub contents : MemTypeLayout
    pub is : block_or block contents ≡ l
    pub of : OfMembers ts contents

  pub struct_is : (block : Bool) (ts : List ℕ) (ds : List MemberDecoration) (l : TypeLayout) → struct_layout cfg below block ts ds ≡ ok l → StructIs block ts l
  unfolding struct_layout
  struct_is block ts ds l h =
      let members = went _ _ h in
      let given = went _ _ members.rest in
      let placed = went _ _ given.rest in
      let size = went _ _ placed.rest in
      let p = placed.value in
      let g = place_grew cfg given.value members.value p placed.here in
      let f = final p.extent size.value size.here in
      record {
        contents = _;
        is = value_is size.rest;
        of = record {
          layouts = members.value;
          offsets = p.offsets;
          laid = members_laid below ts members.value members.here;
          parts = refl;
          ends = wider p.offsets members.value p.extent.size size.value f.larger g.ends;
          size_fits = f.fits (g.fits (omega arith));
          unrounded = p.extent.size;
          size = f.rounded;
          align = g.align;
          legacy = g.legacy;
          dyn = g.dyn;
        };
      }

-- ---- one member

pub same_length : (os : List ℕ) (below : ℕ → Answer) (ts : List ℕ) (ms : List MemTypeLayout) (size : ℕ) → Laid below ts ms → Ends os ms size → length os ≡ length ts
same_length [] below [] [] size l e = refl
same_length [] below (t ∷ ts) [] size l e = absurd l
same_length [] below [] (m ∷ ms) size l e = absurd l
same_length [] below (t ∷ ts) (m ∷ ms) size l e = absurd e
same_length (o ∷ os) below ts [] size l e = absurd e
same_length (o ∷ os) below [] (m ∷ ms) size l e = absurd l
same_length (o ∷ os) below (t ∷ ts) (m ∷ ms) size l e = ap suc (same_length os below ts ms size l.1 e.1)

-- the member of type t at offset o
pub record MemberIs (below : ℕ → Answer) (t o size dyn : ℕ) : Type 0 where
  pub layout : MemTypeLayout
  pub laid : below t ≡ ok (Concrete layout)
  pub ends : o + size_of layout ≤ size
  pub dyn_within : dyn_of layout ≤ dyn

pub member_is : (below : ℕ → Answer) (ts os : List ℕ) (ms : List MemTypeLayout) (size a : ℕ) → Laid below ts ms → Ends os ms size
    → (i t o : ℕ) → get_elem? ts i ≡ some t → get_elem? os i ≡ some o → MemberIs below t o size (largest a dyn_of ms)
member_is below [] os ms size a l e i t o ht ho = absurd (no_some ht)
member_is below (u ∷ ts) os [] size a l e i t o ht ho = absurd l
member_is below (u ∷ ts) [] (m ∷ ms) size a l e i t o ht ho = absurd e
member_is below (u ∷ ts) (p ∷ os) (m ∷ ms) size a l e zero t o ht ho = record {
  layout = m;
  laid = ap below (sym (some_is ht)) ∙ l.0;
  ends = omega (arith, e.0, some_is ho);
  dyn_within = omega (arith, largest_least (max a (dyn_of m)) dyn_of ms);
}
member_is below (u ∷ ts) (p ∷ os) (m ∷ ms) size a l e (suc i) t o ht ho = member_is below ts os ms size (max a (dyn_of m)) l.1 e.1 i t o ht ho
