-- Document 01, "Lookup on elements" and "On fields": the components that hold a range of bytes (`find_components_containing`); and the question Q.
use Rattle.std.specs.Prelude.{ℕ, ◌+◌, ◌*◌, ◌/◌, Bool, false, cond, ◌&&◌, ◌||◌, List, [], ◌∷◌, leb, ltb, eqb, length}
use Rattle.arith.specs.Refusals.{Result, ok, refused, ◌>>=◌, ◌>>◌, refuse◌when◌, refuse◌unless◌, in_room, misread, no_parts, reversed}
use Rattle.arith.specs.Numbers.{max_u32}
use Rattle.shapes.specs.Shapes.{Components, Scalar, Elements, Fields, MemTypeLayout, TypeLayout, Handle, HandleArray, Concrete, size_of, runtime_sized}
use Rattle.sheet.specs.Sheet.{Sheet}
use Rattle.layout.specs.Arrays.{Answer}
use Rattle.layout.specs.Layouts.{answer_in}

-- ---- on elements

-- at index = length the element has size 0; a length 0 is none
unfoldable pub size_at_index : (index len size : ℕ) → ℕ
size_at_index index len size = cond (eqb len 0) size (cond (eqb index len) 0 size)

-- index is start / stride; none beyond the length, or where the element's end is below the range's or above 32 bits
unfoldable pub element_holding : (stride len size start end : ℕ) → List ℕ
element_holding stride len size start end =
    let index = start / stride in
    let element_end = index * stride + size_at_index index len size in
    cond ((eqb len 0 || leb index len) && (leb end element_end && leb element_end max_u32)) (index ∷ []) []

-- ---- on fields

-- a runtime-sized field has no end
unfoldable pub field_holds : (offset start end : ℕ) → MemTypeLayout → Bool
field_holds offset start end m = leb offset start && (runtime_sized m || leb end (offset + size_of m))

-- the memory of a part passes a test; what has none passes none
unfoldable pub memory_passes : (MemTypeLayout → Bool) → Answer → Bool
memory_passes test (refused n) = false
memory_passes test (ok (Handle h)) = false
memory_passes test (ok (HandleArray h n)) = false
memory_passes test (ok (Concrete m)) = test m

-- each field holding the range, from number i on
unfoldable pub fields_holding : (answer-of : ℕ → Answer) → (offsets types : List ℕ) → (i start end : ℕ) → List ℕ
fields_holding answer-of [] ts i start end = []
fields_holding answer-of (o ∷ os) [] i start end = []
fields_holding answer-of (o ∷ os) (t ∷ ts) i start end =
    let rest = fields_holding answer-of os ts (i + 1) start end in
    cond (memory_passes (field_holds o start end) (answer-of t)) (i ∷ rest) rest

-- ---- the question Q

-- the size of an array's element
unfoldable pub size_of_part : Answer → ℕ
size_of_part (refused n) = 0
size_of_part (ok (Handle h)) = 0
size_of_part (ok (HandleArray h n)) = 0
size_of_part (ok (Concrete m)) = size_of m

-- a scalar has none
unfoldable pub components_containing : (answer-of : ℕ → Answer) → Components → (start end : ℕ) → List ℕ
components_containing answer-of Scalar start end = []
components_containing answer-of (Elements stride elem len) start end = element_holding stride len (size_of_part (answer-of elem)) start end
components_containing answer-of (Fields offsets types) start end = fields_holding answer-of offsets types 0 start end

-- 19 on a handle
unfoldable pub in_memory_only : TypeLayout → Result Components
in_memory_only (Handle h) = refused no_parts
in_memory_only (HandleArray h n) = refused no_parts
in_memory_only (Concrete m) = ok m.components

-- by how many types there are and what a type answers: 28, layout, 19; a number that is no type is 1 before these
unfoldable pub lookup_by : (types : ℕ) → (answer-of : ℕ → Answer) → (type start end : ℕ) → Result (List ℕ)
lookup_by types answer-of type start end = do
  refuse misread unless ltb type types
  refuse reversed when ltb end start
  l ← answer-of type
  c ← in_memory_only l
  ok (components_containing answer-of c start end)

-- by what the sheet says
abbrev pub lookup : Sheet → (type start end : ℕ) → Result (List ℕ)
lookup s type start end = lookup_by (length s.types) (answer_in s) type start end

-- and 24
unfoldable pub lookup_in_room : (room : ℕ) → Sheet → (type start end : ℕ) → Result (List ℕ)
lookup_in_room room s type start end = in_room room length (lookup s type start end)
