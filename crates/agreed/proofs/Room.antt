-- No result of a sheet's tables is longer than the room that there is for it. Assumes nothing.
use Prim.Native.Nat.{ℕ, ◌+◌, ◌*◌, ◌/◌, ◌≤◌}
use native.Mathlib.Omega.{arith}
use mathlib.Core.Path.{◌≡◌, refl, ap, ◌∙◌}
use mathlib.Core.Bool.{Bool, true, false, cond, ◌&&◌, ◌||◌}
use mathlib.Core.List.{List, [], ◌∷◌}
use lib.Dec.{leb, eqb}
use lib.ListN.{length, take, drop, length-take, length-drop}
use borrow.Author.Tests.{le-ltb}
use Rattle.arith.specs.Refusals.{Result, ok, refused, ◌>>=◌, ◌>>◌, refuse◌when◌, in_room}
use Rattle.arith.specs.Numbers.{max_u32}
use Rattle.arith.proofs.Results.{never, value_is, went, passed}
use Rattle.shapes.specs.Shapes as def
use Rattle.shapes.specs.Spans.{spans_of, parts_by, answer_over}
use Rattle.shapes.specs.Rows.{answer_at}
use Rattle.shapes.specs.declared.Components.{Components}
use Rattle.shapes.specs.declared.Components.TheVariants.{Scalar, Elements, Fields}
use Rattle.shapes.specs.declared.TypeLayout.TheVariants as layout
use Rattle.arith.specs.InCode.{OrRefusal}
use Rattle.shapes.specs.declared.TypeLayout as code
use Rattle.std.specs.Prelude.{Ok, Err}
use Rattle.layout.specs.Arrays.{Answer}
use Rattle.layout.specs.Lookup.{size_at_index, element_holding, field_holds, memory_passes, fields_holding, size_of_part, components_containing, in_memory_only, lookup_by}
use Rattle.components.specs.Found.{answers_in, lookup_in}

-- where no result is longer, room says nothing
pub enough : {A : Type 0} (room : ℕ) (count : A → ℕ) (r : Result A) → ((a : A) → r ≡ ok a → count a ≤ room) → in_room room count r ≡ r
unfolding in_room ◌>>=◌ ◌>>◌ refuse◌when◌
enough room count (ok a) h = rw (le-ltb room (count a) (h a refl))
enough room count (refused n) h = refl

few_fields : (answer-of : ℕ → Answer) (os ts : List ℕ) (i start end : ℕ) → length (fields_holding answer-of os ts i start end) ≤ length os
unfolding fields_holding
few_fields answer-of [] ts i start end = omega arith
few_fields answer-of (o ∷ os) [] i start end = omega arith
few_fields answer-of (o ∷ os) (t ∷ ts) i start end = by (memory_passes (field_holds o start end) (answer-of t)) (few_fields answer-of os ts (i + 1) start end)
  where
    rest : List ℕ
    rest = fields_holding answer-of os ts (i + 1) start end

    by : (b : Bool) → length rest ≤ length os → length (cond b (i ∷ rest) rest) ≤ length (o ∷ os)
    by true h = omega arith
    by false h = omega arith

one_element : (stride len size start end : ℕ) → length (element_holding stride len size start end) ≤ 1
unfolding element_holding
one_element stride len size start end =
    let i = start / stride in
    let last = i * stride + size_at_index i len size in
    by ((eqb len 0 || leb i len) && (leb end last && leb last max_u32)) i
  where
    by : (b : Bool) (i : ℕ) → length (cond b (i ∷ []) []) ≤ 1
    by true i = omega arith
    by false i = omega arith

module _ (answer-of : ℕ → Answer) (offsets members : List ℕ) (room : ℕ) (one : 1 ≤ room) (few : length offsets ≤ room) where
  few_components : (c : Components) (start end : ℕ) → length (components_containing answer-of (parts_by (spans_of offsets members) c) start end) ≤ room
  unfolding components_containing
  few_components Scalar start end = omega arith
  few_components (Elements stride elem len) start end = omega (arith, one_element stride len (size_of_part (answer-of elem)) start end)
  few_components (Fields from count) start end =
      omega (arith, few_fields answer-of (take count (drop from offsets)) (take count (drop from members)) 0 start end, length-take count (drop from offsets), length-drop from offsets)

-- Q finds at most as many components as the list of offsets is long
pub found_few : (layouts : List ℕ) (n : ℕ) (offsets members : List ℕ) (room : ℕ) → 1 ≤ room → length offsets ≤ room
    → (t start end : ℕ) (found : List ℕ) → lookup_in layouts n offsets members t start end ≡ ok found → length found ≤ room
unfolding lookup_by in_memory_only
found_few layouts n offsets members room one few t start end found h =
    let l = went _ _ (passed _ _ (passed _ _ h)) in
    let c = went _ _ l.rest in
    by (answer_at layouts n t) l.value l.here c.value c.here (value_is c.rest)
  where
    by : (a : OrRefusal code.TypeLayout) (l : def.TypeLayout) → answer_over offsets members a ≡ ok l → (c : def.Components) → in_memory_only l ≡ ok c
        → components_containing (answers_in layouts n offsets members) c start end ≡ found → length found ≤ room
    by (Err e) l g c i k = absurd (never g)
    by (Ok (layout.Handle x)) l g c i k = absurd (never (ap in_memory_only (value_is g) ∙ i))
    by (Ok (layout.HandleArray x y)) l g c i k = absurd (never (ap in_memory_only (value_is g) ∙ i))
    by (Ok (layout.Concrete m)) l g c i k =
        let e : parts_by (spans_of offsets members) m.components ≡ c = value_is (ap in_memory_only (value_is g) ∙ i) in
        let f : length (components_containing (answers_in layouts n offsets members) c start end) ≤ room =
        rw e at (few_components (answers_in layouts n offsets members) offsets members room one few m.components start end) in
        rw k at f
