-- Where one index of a chain leads, over tables of layouts: the code's decisions, by value.
use Rattle.std.specs.Prelude.{ℕ, cond, List, [], ◌∷◌, leb, ℤ, pos, Ok, Err}
use Rattle.std.proofs.Math.Option.{Option, none, some}
use Rattle.arith.specs.Refusals.{Result, ok, refused, no_parts, unknown_field, far_field}
use Rattle.arith.specs.Numbers.{max_i32, signed}
use Rattle.arith.specs.InCode.{OrRefusal, err}
use Rattle.spirv.specs.declared.Index.{Index}
use Rattle.spirv.specs.declared.Index.TheVariants.{Known, Unknown}
use Rattle.spirv.specs.Rows.{index_by}
use Rattle.shapes.specs.declared.Components.{Components}
use Rattle.shapes.specs.declared.Components.TheVariants.{Scalar, Elements, Fields}
use Rattle.shapes.specs.declared.TypeLayout.{TypeLayout}
use Rattle.shapes.specs.Spans.{span_of}
use Rattle.places.specs.declared.Place.{Place}
use Rattle.places.specs.declared.Place.TheVariants.{Memory, Buffer, Buffers, Opaque, Opaques}
use Rattle.places.specs.Places.{found_of}
use Rattle.lower.specs.declared.QPtrOp.{QPtrOp}
use Rattle.lower.specs.declared.QPtrOp.TheVariants.{HandleArrayIndex, DynOffset}
use Rattle.lower.specs.Steps.{Pending, merged, Field, field_of, bound_of, constant_offset}
use Rattle.moves.specs.declared.By.{By}
use Rattle.moves.specs.declared.By.TheVariants as by
use Rattle.moves.specs.declared.Way.{Way}
use Rattle.moves.specs.declared.Way.TheVariants.{Part, Give, Enter}
use Rattle.moves.specs.declared.Move.{Move}
use Rattle.moves.specs.declared.Move.TheVariants.{Onward, Emit, Inside}

-- ---- the lent lists, read

-- an index is two words: the word, and 0 where it is known
unfoldable pub indices_in : List ℕ → List Index
indices_in [] = []
indices_in (w ∷ []) = []
indices_in (w ∷ k ∷ rest) = index_by w k ∷ indices_in rest

-- ---- where an index leads, whatever the layout is there

-- once the offset waits
abbrev pub by_offset : (type : ℕ) → Result Pending → OrRefusal Way
by_offset type (ok q) = Ok (Part type (by.Field q))
by_offset type (refused e) = err e

unfoldable pub field_by : (offset type : ℕ) → Pending → OrRefusal Way
field_by offset type p = cond (leb offset max_i32) (by_offset type (merged p (pos offset))) (err far_field)

abbrev pub by_field : Pending → Result Field → OrRefusal Way
by_field p (ok f) = field_by f.offset f.type p
by_field p (refused e) = err e

unfoldable pub field_way : (offsets types : List ℕ) → Index → Pending → OrRefusal Way
field_way offsets types (Unknown v) p = err unknown_field
field_way offsets types (Known w) p = by_field p (field_of offsets types (signed w))

-- a struct's fields are a span of two lists
abbrev pub part_way : (offsets members : List ℕ) → Components → Index → Pending → OrRefusal Way
part_way offsets members Scalar i p = err no_parts
part_way offsets members (Elements stride elem len) i p = Ok (Part elem (by.Element stride len))
part_way offsets members (Fields start count) i p = field_way (span_of offsets start count) (span_of members start count) i p

abbrev pub way_of : (offsets members : List ℕ) → Place → Index → Pending → OrRefusal Way
way_of offsets members (Memory c) i p = part_way offsets members c i p
way_of offsets members (Buffer c) i p = Ok (Enter c)
way_of offsets members (Buffers c) i p = Ok (Give (Buffer c))
way_of offsets members Opaque i p = err no_parts
way_of offsets members Opaques i p = Ok (Give Opaque)

-- ---- and by the layout that is there

-- on to a place, once what waits is known
abbrev pub onward : Place → Result Pending → OrRefusal Move
onward u (ok q) = Ok (Onward u q)
onward u (refused e) = err e

abbrev pub by_constant : Place → QPtrOp → Pending → Option ℤ → OrRefusal Move
by_constant u d p (some z) = onward u (merged p z)
by_constant u d p none = Ok (Emit u d)

abbrev pub to_element : (stride len : ℕ) → Index → Pending → Place → OrRefusal Move
to_element stride len i p u = by_constant u (DynOffset stride (bound_of len) i) p (constant_offset stride len i)

abbrev pub arrived : By → Index → Pending → OrRefusal Place → OrRefusal Move
arrived b i p (Err e) = Err e
arrived (by.Element stride len) i p (Ok u) = to_element stride len i p u
arrived (by.Field q) i p (Ok u) = Ok (Onward u q)

abbrev pub move_by : (answers : ℕ → OrRefusal TypeLayout) → Index → Pending → OrRefusal Way → OrRefusal Move
move_by answers i p (Err e) = Err e
move_by answers i p (Ok (Part type b)) = arrived b i p (found_of (answers type))
move_by answers i p (Ok (Give u)) = Ok (Emit u (HandleArrayIndex i))
move_by answers i p (Ok (Enter c)) = Ok (Inside c)

unfoldable pub move_of : (answers : ℕ → OrRefusal TypeLayout) → (offsets members : List ℕ) → Place → Index → Pending → OrRefusal Move
move_of answers offsets members l i p = move_by answers i p (way_of offsets members l i p)
