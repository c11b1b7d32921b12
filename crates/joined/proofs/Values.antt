-- T as values over the tables of a sheet is the sheet's T. Assumes nothing.
use Prim.Native.Nat.{ℕ}
use mathlib.Core.Path.{◌≡◌, refl, ap, ◌∙◌}
use mathlib.Core.Bool.{Bool, true, false, cond}
use mathlib.Core.List.{List, ◌++◌}
use lib.Dec.{ltb}
use lib.ListN.{length}
use Rattle.arith.specs.Refusals.{ok, ◌>>=◌, ◌>>◌, refuse◌when◌, short_list, in_room}
use Rattle.shapes.specs.Shapes as def
use Rattle.shapes.specs.declared.Components.{Components}
use Rattle.shapes.specs.declared.Components.TheVariants.{Scalar, Elements, Fields}
use Rattle.shapes.specs.declared.Handle.TheVariants.{Opaque, Buffer}
use Rattle.shapes.specs.declared.TypeLayout.{TypeLayout}
use Rattle.shapes.specs.declared.TypeLayout.TheVariants.{Handle, HandleArray, Concrete}
use Rattle.std.specs.Prelude.{Ok, Err}
use Rattle.arith.specs.InCode.{OrRefusal, err}
use Rattle.shapes.specs.Rows.{answer_at, flat}
use Rattle.shapes.specs.Spans.{answer_over, layout_by, parts_by, spans_of}
use Rattle.layout.specs.Layouts.{offset_count, layout_in_room}
use Rattle.values.specs.Values.{shown_in, shown_of, held_in}
use Rattle.laid.specs.Statements.{answers_of, offsets_of}
use Rattle.laid.proofs.OfSheet.{rows_of_sheet}
use Rattle.joined.specs.Statements.{ValuesOfSheet}

module _ (offsets members : List ℕ) where
  of_parts : (c : Components) → length (shown_in offsets c) ≡ length (def.offsets_of (parts_by (spans_of offsets members) c))
  of_parts Scalar = refl
  of_parts (Elements stride elem len) = refl
  of_parts (Fields start count) = refl

  shown_count : (l : TypeLayout) → length (shown_of offsets l) ≡ offset_count (layout_by (spans_of offsets members) l)
  unfolding offset_count
  shown_count (Handle Opaque) = refl
  shown_count (Handle (Buffer m)) = of_parts m.components
  shown_count (HandleArray Opaque len) = refl
  shown_count (HandleArray (Buffer m) len) = of_parts m.components
  shown_count (Concrete m) = of_parts m.components

  held : (room : ℕ) (a : OrRefusal TypeLayout) → answer_over offsets members (held_in room offsets a) ≡ in_room room offset_count (answer_over offsets members a)
  unfolding held_in in_room ◌>>=◌ ◌>>◌ refuse◌when◌
  held room (Err e) = refl
  held room (Ok l) = ap (λ (k : ℕ). answer_over offsets members (cond (ltb room k) (err short_list) (Ok l))) (shown_count l) ∙ by (ltb room (offset_count (layout_by (spans_of offsets members) l)))
    where
      by : (b : Bool) → answer_over offsets members (cond b (err short_list) (Ok l)) ≡ ((refuse short_list when b) >> ok (layout_by (spans_of offsets members) l))
      by true = refl
      by false = refl

pub values_of_sheet : ValuesOfSheet
unfolding layout_in_room
values_of_sheet s types members given offsets rest tables room t =
    let os = offsets_of s types members given offsets in
    held os members room (answer_at (flat (answers_of s types members given offsets) ++ rest) (length s.types) t)
    ∙ ap (in_room room offset_count) (rows_of_sheet s types members given offsets rest tables t)
