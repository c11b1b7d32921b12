-- Document 01, "The refusals", T: layout, 24. Of a type's row: its layout, and the field offsets that T shows.
use Rattle.std.specs.Prelude.{ℕ, ◌≡◌, cond, List, [], ltb, length, Ok, Err}
use Rattle.std.proofs.lemmas.List.Edits.{sets}
use Rattle.arith.specs.InCode.{OrRefusal, err}
use Rattle.arith.specs.Refusals.{short_list}
use Rattle.shapes.specs.declared.Components.{Components}
use Rattle.shapes.specs.declared.Components.TheVariants.{Scalar, Elements, Fields}
use Rattle.shapes.specs.declared.Handle.TheVariants.{Opaque, Buffer}
use Rattle.shapes.specs.declared.TypeLayout.{TypeLayout}
use Rattle.shapes.specs.declared.TypeLayout.TheVariants.{Handle, HandleArray, Concrete}
use Rattle.shapes.specs.Rows.{answer_at}
use Rattle.shapes.specs.Spans.{span_of}

-- the parts of the memory that T shows; an opaque handle has none
abbrev pub shown_parts : TypeLayout → Components
shown_parts (Handle Opaque) = Scalar
shown_parts (Handle (Buffer m)) = m.components
shown_parts (HandleArray Opaque len) = Scalar
shown_parts (HandleArray (Buffer m) len) = m.components
shown_parts (Concrete m) = m.components

abbrev pub shown_in : (offsets : List ℕ) → Components → List ℕ
shown_in offsets Scalar = []
shown_in offsets (Elements stride elem len) = []
shown_in offsets (Fields start count) = span_of offsets start count

abbrev pub shown_of : (offsets : List ℕ) → TypeLayout → List ℕ
shown_of offsets l = shown_in offsets (shown_parts l)

-- 24 where a list of so many places is too short for them
unfoldable pub held_in : (room : ℕ) (offsets : List ℕ) → OrRefusal TypeLayout → OrRefusal TypeLayout
held_in room offsets (Ok l) = cond (ltb room (length (shown_of offsets l))) (err short_list) (Ok l)
held_in room offsets (Err e) = Err e

-- a refusal leaves the list
abbrev pub written : (offsets : List ℕ) → OrRefusal TypeLayout → List ℕ → List ℕ
written offsets (Ok l) old = sets old 0 (shown_of offsets l)
written offsets (Err e) old = old

pub record Into (layouts : List ℕ) (n : ℕ) (offsets : List ℕ) (t : ℕ) (r : OrRefusal TypeLayout) (old new : List ℕ) : Type 0 where
  pub says : r ≡ held_in (length old) offsets (answer_at layouts n t)
  pub list : new ≡ written offsets r old
