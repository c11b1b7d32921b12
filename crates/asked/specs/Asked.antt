-- Document 01, "as C functions on numbers and bytes": T, Q, L and X over a table, and their answers as words.
use Rattle.std.specs.Prelude.{ℕ, List, [], ◌∷◌}
use Rattle.std.proofs.Math.Option.{Option, none, some}
use Rattle.arith.specs.Refusals.{Result, ok, ◌>>=◌}
use Rattle.shapes.specs.declared.MemLayout.{MemLayout}
use Rattle.shapes.specs.Shapes.{Components, Scalar, Elements, Fields, Opaque, Buffer, MemTypeLayout, TypeLayout, Handle, HandleArray, Concrete, size_of, align_of, legacy_of, dyn_of, offsets_of}
use Rattle.layout.specs.Arrays.{Answer}
use Rattle.components.specs.Found.{answers_in, lookup_in}
use Rattle.lower.specs.Other.{ArrayLength, length_by, variable_by}
use Rattle.pointers.specs.OverTables.{pointee_at}
use Rattle.flat.specs.Table.{count_in, types_in, members_in, places_in, layouts_in}

-- ---- answers as words

abbrev pub in_words : {A : Type 0} → (A → List ℕ) → Result A → Result (List ℕ)
in_words words result = do
  a ← result
  ok (words a)

-- L: offset and stride
abbrev pub length_words : ArrayLength → List ℕ
length_words a = a.offset ∷ a.stride ∷ []

-- X: size, alignment and legacy alignment, or nothing where the memory is not of a fixed size
abbrev pub variable_words : Option MemLayout → List ℕ
variable_words none = []
variable_words (some m) = m.size ∷ m.align ∷ m.legacy_align ∷ []

-- the stride of an array, else 0, which is no stride
abbrev pub stride_word : Components → ℕ
stride_word Scalar = 0
stride_word (Elements stride elem len) = stride
stride_word (Fields offsets types) = 0

abbrev pub memory_words : MemTypeLayout → List ℕ
memory_words m = size_of m ∷ align_of m ∷ legacy_of m ∷ dyn_of m ∷ stride_word m.components ∷ offsets_of m.components

-- T: form (1 memory, 2 buffer, 3 opaque, 4 and 5 arrays of these), len of a handle array or 0, size, alignment, legacy alignment, dyn, stride, and
-- then field offsets
unfoldable pub layout_words : TypeLayout → List ℕ
layout_words (Concrete m) = 1 ∷ 0 ∷ memory_words m
layout_words (Handle (Buffer m)) = 2 ∷ 0 ∷ memory_words m
layout_words (Handle Opaque) = 3 ∷ 0 ∷ 0 ∷ 0 ∷ 0 ∷ 0 ∷ 0 ∷ []
layout_words (HandleArray (Buffer m) len) = 4 ∷ len ∷ memory_words m
layout_words (HandleArray Opaque len) = 5 ∷ len ∷ 0 ∷ 0 ∷ 0 ∷ 0 ∷ 0 ∷ []

-- ---- over a table

module _ (table : List ℕ) where
  abbrev pub answer_for : ℕ → Answer
  answer_for = answers_in (layouts_in table) (count_in table) (places_in table) (members_in table)

  abbrev pub pointee_for : ℕ → Result ℕ
  pointee_for = pointee_at (types_in table) (count_in table)

  abbrev pub layout_for : (type : ℕ) → Result (List ℕ)
  layout_for type = in_words layout_words (answer_for type)

  abbrev pub found_for : (type start end : ℕ) → Result (List ℕ)
  found_for type start end = lookup_in (layouts_in table) (count_in table) (places_in table) (members_in table) type start end

  abbrev pub length_for : (ptr member : ℕ) → Result (List ℕ)
  length_for ptr member = in_words length_words (length_by pointee_for answer_for ptr member)

  abbrev pub variable_for : (ptr : ℕ) → Result (List ℕ)
  variable_for ptr = in_words variable_words (variable_by pointee_for answer_for ptr)
