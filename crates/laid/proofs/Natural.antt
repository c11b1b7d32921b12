-- The rules read of a layout's span nothing but what stands in it, so they say the same whatever spans stand for. Assumes nothing.
use Prim.Native.Nat.{ℕ, suc}
use mathlib.Core.Path.{◌≡◌, refl, sym, ap, ◌∙◌}
use mathlib.Core.Bool.{Bool, true, false}
use mathlib.Core.List.{List, [], ◌∷◌, map}
use lib.ListN.{length}
use Rattle.arith.specs.Refusals.{Result, ok, refused, ◌>>=◌, ◌>>◌, refuse◌when◌, handle_member, zero_length}
use Rattle.spirv.specs.declared.DeclRow.{DeclRow}
use Rattle.spirv.specs.declared.Stride.{Stride}
use Rattle.spirv.specs.declared.Stride.TheVariants.{Decorated, Undecorated}
use Rattle.shapes.specs.Shapes as def
use Rattle.shapes.specs.Spans.{Reading, span_of, memory_by, layout_by, answer_by, itself, held}
use Rattle.shapes.specs.declared.LayoutConfig.{LayoutConfig}
use Rattle.shapes.specs.declared.MemTypeLayout.{MemTypeLayout}
use Rattle.shapes.specs.declared.TypeLayout.{TypeLayout}
use Rattle.shapes.specs.declared.TypeLayout.TheVariants.{Handle, HandleArray, Concrete}
use Rattle.arith.specs.InCode.{OrRefusal}
use Rattle.std.specs.Prelude.{Ok, Err}
use Rattle.shapes.proofs.Held.{held_again}
use Rattle.layout.specs.Arrays.{Answer, ArrayParams, has_zero_length, rounded, stride_of, by_element, array_layout}
use Rattle.layout.specs.Structs.{in_memory, member_layouts, final_size, Extent, no_members, place_given, place_in_turn, place}
use Rattle.structs.specs.Steps.{Spot, step_given, step_in_turn}
use Rattle.structs.specs.Rows.{sized_to, decorations_of, memory_of, struct_of_row}
use Rattle.structs.proofs.Placement.{behind, in_turn_cons, given_cons}

-- ---- arrays

-- a layout with no span in it
unfoldable pub Closed : Answer → Type 0
Closed r = (f : Reading) → answer_by f (held r) ≡ r

closed_then : {A : Type 0} (r : Result A) (next : A → Answer) → ((a : A) → Closed (next a)) → Closed (r >>= next)
unfolding Closed ◌>>=◌
closed_then (ok a) next h f = h a f
closed_then (refused n) next h f = refl

pub closed_and : {A : Type 0} (r : Result A) (next : Answer) → Closed next → Closed (r >> next)
unfolding Closed ◌>>◌
closed_and (ok a) next h f = h f
closed_and (refused n) next h f = refl

elements_closed : (cfg : LayoutConfig) (p : ArrayParams) (e : def.MemTypeLayout) → Closed (by_element cfg p (def.Concrete e))
unfolding by_element Closed
elements_closed cfg p e = closed_and _ _ (closed_then _ _ λ stride. closed_and _ _ (closed_then _ _ λ legacy. closed_then _ _ λ size. λ f. refl))

stride_same : (cfg : LayoutConfig) (s : Stride) (m : MemTypeLayout) (f g : Reading) → stride_of cfg s (memory_by f m) ≡ stride_of cfg s (memory_by g m)
unfolding stride_of rounded
stride_same cfg (Decorated n) m f g = refl
stride_same cfg Undecorated m f g = refl

element_same : (cfg : LayoutConfig) (p : ArrayParams) (m : MemTypeLayout) (f g : Reading) → by_element cfg p (def.Concrete (memory_by f m)) ≡ by_element cfg p (def.Concrete (memory_by g m))
unfolding by_element
element_same cfg p m f g = rw (stride_same cfg p.stride m f g)

by_element_reads : (cfg : LayoutConfig) (p : ArrayParams) (l : TypeLayout) (f : Reading)
    → answer_by f (held (by_element cfg p (layout_by itself l))) ≡ by_element cfg p (layout_by f l)
unfolding by_element Closed
by_element_reads cfg p (Handle h) f = ap (answer_by f) (held_again (Ok (HandleArray h _)))
by_element_reads cfg p (HandleArray h n) f = refl
by_element_reads cfg p (Concrete m) f = elements_closed cfg p (memory_by itself m) f ∙ element_same cfg p m itself f

pub array_reads : (cfg : LayoutConfig) (b : ℕ → OrRefusal TypeLayout) (p : ArrayParams) (f : Reading)
    → answer_by f (held (array_layout cfg (λ t. answer_by itself (b t)) p)) ≡ array_layout cfg (λ t. answer_by f (b t)) p
unfolding array_layout ◌>>=◌ ◌>>◌ refuse◌when◌
array_reads cfg b p f = by (has_zero_length p.fixed_len) (b p.elem)
  where
    by : (t : Bool) (a : OrRefusal TypeLayout)
        → answer_by f (held ((refuse zero_length when t) >> (answer_by itself a >>= by_element cfg p))) ≡ ((refuse zero_length when t) >> (answer_by f a >>= by_element cfg p))
    by true a = refl
    by false (Err n) = refl
    by false (Ok l) = by_element_reads cfg p l f

-- ---- structs

in_mem : OrRefusal TypeLayout → Result MemTypeLayout
in_mem (Err e) = refused e.number
in_mem (Ok (Handle h)) = refused handle_member
in_mem (Ok (HandleArray h n)) = refused handle_member
in_mem (Ok (Concrete m)) = ok m

mems_of : (b : ℕ → OrRefusal TypeLayout) → List ℕ → Result (List MemTypeLayout)
mems_of b [] = ok []
mems_of b (t ∷ ts) = in_mem (b t) >>= λ m. mems_of b ts >>= λ ms. ok (m ∷ ms)

module _ (b : ℕ → OrRefusal TypeLayout) (f : Reading) where
  member_read : (a : OrRefusal TypeLayout) (r : Result (List MemTypeLayout)) (q : Result (List def.MemTypeLayout)) → q ≡ (r >>= λ l. ok (map (memory_by f) l))
      → (answer_by f a >>= λ l. in_memory l >>= λ m. q >>= λ ms. ok (m ∷ ms)) ≡ ((in_mem a >>= λ m. r >>= λ ms. ok (m ∷ ms)) >>= λ l. ok (map (memory_by f) l))
  unfolding in_mem ◌>>=◌
  member_read (Err n) r q h = refl
  member_read (Ok (Handle k)) r q h = refl
  member_read (Ok (HandleArray k n)) r q h = refl
  member_read (Ok (Concrete m)) r q h = rw h (by r)
    where
      by : (r : Result (List MemTypeLayout)) → ((r >>= λ l. ok (map (memory_by f) l)) >>= λ ms. ok (memory_by f m ∷ ms)) ≡ ((r >>= λ ms. ok (m ∷ ms)) >>= λ l. ok (map (memory_by f) l))
      by (ok l) = refl
      by (refused n) = refl

  mems_read : (ts : List ℕ) → member_layouts (λ t. answer_by f (b t)) ts ≡ (mems_of b ts >>= λ l. ok (map (memory_by f) l))
  unfolding member_layouts mems_of ◌>>=◌
  mems_read [] = refl
  mems_read (t ∷ ts) = member_read (b t) (mems_of b ts) _ (mems_read ts)

module _ (cfg : LayoutConfig) (f g : Reading) where
  step_same : (x : Extent) (m : MemTypeLayout) → step_in_turn cfg x (memory_by f m) ≡ step_in_turn cfg x (memory_by g m)
  unfolding step_in_turn rounded
  step_same x m = refl

  given_step_same : (o : ℕ) (x : Extent) (m : MemTypeLayout) → step_given o x (memory_by f m) ≡ step_given o x (memory_by g m)
  unfolding step_given
  given_step_same o x m = refl

  in_turn_same : (x : Extent) (l : List MemTypeLayout) → place_in_turn cfg x (map (memory_by f) l) ≡ place_in_turn cfg x (map (memory_by g) l)
  unfolding ◌>>=◌
  in_turn_same x [] = refl
  in_turn_same x (m ∷ l) =
      rw (in_turn_cons cfg x (memory_by f m) (map (memory_by f) l), in_turn_cons cfg x (memory_by g m) (map (memory_by g) l), step_same x m)
      (by (λ y. in_turn_same y l) (step_in_turn cfg x (memory_by g m)))
    where
      by : ((y : Extent) → place_in_turn cfg y (map (memory_by f) l) ≡ place_in_turn cfg y (map (memory_by g) l)) → (r : Result Spot)
          → (r >>= λ s. place_in_turn cfg s.extent (map (memory_by f) l) >>= λ p. ok (behind s.offset p)) ≡ (r >>= λ s. place_in_turn cfg s.extent (map (memory_by g) l) >>= λ p. ok (behind s.offset p))
      by h (ok s) = rw (h s.extent)
      by h (refused n) = refl

  given_same : (x : Extent) (os : List ℕ) (l : List MemTypeLayout) → place_given x os (map (memory_by f) l) ≡ place_given x os (map (memory_by g) l)
  unfolding place_given ◌>>=◌
  given_same x [] l = refl
  given_same x (o ∷ os) [] = refl
  given_same x (o ∷ os) (m ∷ l) =
      given_cons x o os (memory_by f m) (map (memory_by f) l)
      ∙ rw (given_step_same o x m) (by (λ y. given_same y os l) (step_given o x (memory_by g m)))
      ∙ sym (given_cons x o os (memory_by g m) (map (memory_by g) l))
    where
      by : ((y : Extent) → place_given y os (map (memory_by f) l) ≡ place_given y os (map (memory_by g) l)) → (r : Result Spot)
          → (r >>= λ s. place_given s.extent os (map (memory_by f) l)) ≡ (r >>= λ s. place_given s.extent os (map (memory_by g) l))
      by h (ok s) = h s.extent
      by h (refused n) = refl

  map_length : (l : List MemTypeLayout) → length (map (memory_by f) l) ≡ length (map (memory_by g) l)
  map_length [] = refl
  map_length (m ∷ l) = ap suc (map_length l)

  place_same : (given : List ℕ) (l : List MemTypeLayout) → place cfg given (map (memory_by f) l) ≡ place cfg given (map (memory_by g) l)
  unfolding place
  place_same [] l = in_turn_same (no_members cfg) l
  place_same (o ∷ os) l = rw (map_length l, given_same (no_members cfg) (o ∷ os) l)

  memory_same : (b : ℕ → OrRefusal TypeLayout) (types given : List ℕ) (r : DeclRow) → memory_of cfg (λ t. answer_by f (b t)) types given r ≡ memory_of cfg (λ t. answer_by g (b t)) types given r
  unfolding memory_of ◌>>=◌
  memory_same b types given r = rw (mems_read b f types, mems_read b g types) (by (mems_of b types))
    where
      by : (q : Result (List MemTypeLayout))
          → ((q >>= λ l. ok (map (memory_by f) l)) >>= λ ms. decorations_of r >> (place cfg given ms >>= λ p. final_size p.extent >>= λ size. ok (sized_to p size)))
          ≡ ((q >>= λ l. ok (map (memory_by g) l)) >>= λ ms. decorations_of r >> (place cfg given ms >>= λ p. final_size p.extent >>= λ size. ok (sized_to p size)))
      by (ok l) = rw (place_same given l)
      by (refused n) = refl

  pub struct_same : (b : ℕ → OrRefusal TypeLayout) (members given : List ℕ) (room : ℕ) (r : DeclRow)
      → struct_of_row cfg (λ t. answer_by f (b t)) members given room r ≡ struct_of_row cfg (λ t. answer_by g (b t)) members given room r
  unfolding struct_of_row
  struct_same b members given room r = rw (memory_same b (span_of members r.start r.count) (span_of given r.start r.read) r)
