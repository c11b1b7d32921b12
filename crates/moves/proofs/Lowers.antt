-- What the definitions' lowering does with the first index is the move that the code finds. Assumes nothing.
use Prim.Native.Nat.{ℕ}
use mathlib.Core.Path.{◌≡◌, refl, ap, ◌∙◌}
use mathlib.Core.Bool.{Bool, true, false, cond}
use mathlib.Core.List.{List, [], ◌∷◌, ◌++◌}
use mathlib.Core.Option.{Option, none, some}
use lib.Dec.{leb}
use lib.IntN.{ℤ, pos}
use Rattle.std.specs.Prelude.{None, Some, Ok, Err}
use Rattle.arith.specs.Refusals.{Result, ok, refused, ◌>>=◌, ◌>>◌, refuse◌unless◌}
use Rattle.arith.specs.Numbers.{max_i32, signed}
use Rattle.arith.specs.InCode.{OrRefusal, err}
use Rattle.spirv.specs.declared.Index.{Index}
use Rattle.spirv.specs.declared.Index.TheVariants.{Known, Unknown}
use Rattle.shapes.specs.declared.Components.{Components}
use Rattle.shapes.specs.declared.Components.TheVariants.{Scalar, Elements, Fields}
use Rattle.shapes.specs.declared.Handle.TheVariants as handle
use Rattle.shapes.specs.declared.TypeLayout.{TypeLayout}
use Rattle.shapes.specs.declared.TypeLayout.TheVariants as layout
use Rattle.shapes.specs.Shapes as def
use Rattle.shapes.specs.Spans.{span_of, spans_of, parts_by, layout_by, answer_by}
use Rattle.places.specs.declared.Place.{Place}
use Rattle.places.specs.declared.Place.TheVariants.{Memory, Buffer, Buffers, Opaque, Opaques}
use Rattle.places.specs.Places.{place_of, found_of, layout_at}
use Rattle.lower.specs.declared.QPtrOp.{QPtrOp}
use Rattle.lower.specs.declared.QPtrOp.TheVariants.{HandleArrayIndex, BufferData, DynOffset}
use Rattle.lower.specs.Steps.{Pending, flush, merged, Field, field_of, bound_of, constant_offset, by_constant, to_field, to_element, to_part, Move, move, lower_from}
use Rattle.moves.specs.declared.By.TheVariants as by
use Rattle.moves.specs.declared.Move.TheVariants as code
use Rattle.moves.specs.declared.Move.{Move as CodeMove}
use Rattle.moves.specs.Moves as moves
use Rattle.moves.specs.Written.{before}

module _ (answers : ℕ → OrRefusal TypeLayout) (offsets members : List ℕ) where
  -- as the definitions have them
  abbrev pub Seen : TypeLayout → def.TypeLayout
  Seen l = layout_by (spans_of offsets members) l

  abbrev pub seen : ℕ → Result def.TypeLayout
  seen t = answer_by (spans_of offsets members) (answers t)

  -- the steps from a layout on
  abbrev pub From : TypeLayout → Pending → List Index → Result (List QPtrOp)
  From l p is = lower_from seen (Seen l) p is

  -- the steps from a place on
  abbrev pub Here : Place → Pending → List Index → Result (List QPtrOp)
  Here u p is = From (layout_at u) p is

  -- what a move leads to
  abbrev pub follow : OrRefusal CodeMove → Index → Pending → List Index → Result (List QPtrOp)
  follow (Err e) i p is = refused e.number
  follow (Ok (code.Onward u q)) i p is = Here u q is
  follow (Ok (code.Emit u s)) i p is = before (flush p (s ∷ [])) (Here u None is)
  follow (Ok (code.Inside c)) i p is = before (flush p (BufferData ∷ [])) (Here (Memory c) None (i ∷ is))

  -- a layout leads where its place does
  pub as_placed : (l : TypeLayout) (p : Pending) (is : List Index) → From l p is ≡ Here (place_of l) p is
  unfolding lower_from move ◌>>=◌
  as_placed l p [] = refl
  as_placed (layout.Handle handle.Opaque) p (i ∷ is) = refl
  as_placed (layout.Handle (handle.Buffer m)) p (i ∷ is) = refl
  as_placed (layout.HandleArray handle.Opaque n) p (i ∷ is) = refl
  as_placed (layout.HandleArray (handle.Buffer m) n) p (i ∷ is) = rw (as_placed (layout.Handle (handle.Buffer m)) None is)
  as_placed (layout.Concrete m) p (i ∷ is) = refl

  -- ---- the rest of a chain behind a move

  -- lowering goes on from a move
  abbrev on : Result Move → List Index → Result (List QPtrOp)
  on r is = r >>= λ a. lower_from seen a.layout a.pending is >>= λ rest. ok (a.steps ++ rest)

  none_before : (r : Result (List QPtrOp)) → (r >>= λ rest. ok ([] ++ rest)) ≡ r
  unfolding ◌>>=◌
  none_before (ok rest) = refl
  none_before (refused e) = refl

  some_before : (ss : List QPtrOp) (r : Result (List QPtrOp)) → (r >>= λ rest. ok (ss ++ rest)) ≡ before ss r
  unfolding ◌>>=◌
  some_before ss (ok rest) = refl
  some_before ss (refused e) = refl

  -- ---- elements

  on_merged : (r : Result Pending) (u : TypeLayout) (i : Index) (p : Pending) (is : List Index)
      → on (r >>= λ q. ok record { steps = []; pending = q; layout = Seen u }) is ≡ follow (moves.onward (place_of u) r) i p is
  unfolding ◌>>=◌
  on_merged (ok q) u i p is = none_before (From u q is) ∙ as_placed u q is
  on_merged (refused e) u i p is = refl

  on_constant : (c : Option ℤ) (d : QPtrOp) (u : TypeLayout) (i : Index) (p : Pending) (is : List Index)
      → on (by_constant c d p (Seen u)) is ≡ follow (moves.by_constant (place_of u) d p c) i p is
  unfolding by_constant ◌>>=◌
  on_constant (some z) d u i p is = on_merged (merged p z) u i p is
  on_constant none d u i p is = some_before (flush p (d ∷ [])) (From u None is) ∙ ap (before (flush p (d ∷ []))) (as_placed u None is)

  on_element : (a : OrRefusal TypeLayout) (stride len : ℕ) (i : Index) (p : Pending) (is : List Index)
      → on (answer_by (spans_of offsets members) a >>= λ l. by_constant (constant_offset stride len i) (DynOffset stride (bound_of len) i) p l) is
      ≡ follow (moves.arrived (by.Element stride len) i p (found_of a)) i p is
  unfolding ◌>>=◌
  on_element (Ok u) stride len i p is = on_constant (constant_offset stride len i) _ u i p is
  on_element (Err e) stride len i p is = refl

  -- ---- fields

  on_field : (os ts : List ℕ) (i : Index) (p : Pending) (is : List Index) → on (to_field seen os ts i p) is ≡ follow (moves.move_by answers i p (moves.field_way os ts i p)) i p is
  unfolding to_field moves.field_way moves.field_by ◌>>=◌ ◌>>◌ refuse◌unless◌
  on_field os ts (Unknown v) p is = refl
  on_field os ts (Known w) p is = for (field_of os ts (signed w))
    where
      for_answer : (a : OrRefusal TypeLayout) (q : Pending)
          → on (answer_by (spans_of offsets members) a >>= λ l. ok record { steps = []; pending = q; layout = l }) is ≡ follow (moves.arrived (by.Field q) (Known w) p (found_of a)) (Known w) p is
      for_answer (Ok u) q = none_before (From u q is) ∙ as_placed u q is
      for_answer (Err e) q = refl

      for_merged : (t : ℕ) (r : Result Pending)
          → on (r >>= λ q. seen t >>= λ l. ok record { steps = []; pending = q; layout = l }) is ≡ follow (moves.move_by answers (Known w) p (moves.by_offset t r)) (Known w) p is
      for_merged t (ok q) = for_answer (answers t) q
      for_merged t (refused e) = refl

      for : (r : Result Field)
          → on (r >>= λ f. (refuse 22 unless leb f.offset max_i32) >> (merged p (pos f.offset) >>= λ q. seen f.type >>= λ l. ok record { steps = []; pending = q; layout = l })) is
          ≡ follow (moves.move_by answers (Known w) p (moves.by_field p r)) (Known w) p is
      for (ok f) = for_test (leb f.offset max_i32)
        where
          for_test : (t : Bool)
              → on ((refuse 22 unless t) >> (merged p (pos f.offset) >>= λ q. seen f.type >>= λ l. ok record { steps = []; pending = q; layout = l })) is
              ≡ follow (moves.move_by answers (Known w) p (cond t (moves.by_offset f.type (merged p (pos f.offset))) (err 22))) (Known w) p is
          for_test true = for_merged f.type (merged p (pos f.offset))
          for_test false = refl
      for (refused e) = refl

  -- ---- any index

  on_part : (c : Components) (i : Index) (p : Pending) (is : List Index)
      → on (to_part seen (parts_by (spans_of offsets members) c) i p) is ≡ follow (moves.move_by answers i p (moves.part_way offsets members c i p)) i p is
  unfolding to_part to_element ◌>>=◌
  on_part Scalar i p is = refl
  on_part (Elements stride elem len) i p is = on_element (answers elem) stride len i p is
  on_part (Fields start count) i p is = on_field (span_of offsets start count) (span_of members start count) i p is

  -- steps behind what waits and B
  flush_append : (p : Pending) (x : QPtrOp) (ss rest : List QPtrOp) → flush p (x ∷ ss) ++ rest ≡ flush p (x ∷ []) ++ (ss ++ rest)
  flush_append None x ss rest = refl
  flush_append (Some z) x ss rest = refl

  on_buffer : (r : Result Move) (p : Pending) (is : List Index)
      → on (r >>= λ a. ok record { steps = flush p (BufferData ∷ a.steps); pending = a.pending; layout = a.layout }) is ≡ before (flush p (BufferData ∷ [])) (on r is)
  unfolding ◌>>=◌
  on_buffer (refused e) p is = refl
  on_buffer (ok a) p is = by (lower_from seen a.layout a.pending is)
    where
      by : (r : Result (List QPtrOp)) → (r >>= λ rest. ok (flush p (BufferData ∷ a.steps) ++ rest)) ≡ before (flush p (BufferData ∷ [])) (r >>= λ rest. ok (a.steps ++ rest))
      by (ok rest) = ap (λ (x : List QPtrOp). ok x) (flush_append p BufferData a.steps rest)
      by (refused e) = refl

  pub more : (l : Place) (i : Index) (p : Pending) (is : List Index) → Here l p (i ∷ is) ≡ follow (moves.move_of answers offsets members l i p) i p is
  unfolding lower_from move moves.move_of ◌>>=◌
  more Opaque i p is = refl
  more (Buffer c) i p is = on_buffer (to_part seen (parts_by (spans_of offsets members) c) i None) p is
  more Opaques i p is = some_before (flush p (HandleArrayIndex i ∷ [])) (Here Opaque None is)
  more (Buffers c) i p is = some_before (flush p (HandleArrayIndex i ∷ [])) (Here (Buffer c) None is)
  more (Memory c) i p is = on_part c i p is

  pub no_more : (l : Place) (p : Pending) → Here l p [] ≡ ok (flush p [])
  unfolding lower_from
  no_more l p = refl
