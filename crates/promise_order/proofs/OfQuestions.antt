-- The order of refusals in each question. Assumes nothing.
use Prim.Native.Nat.{ℕ}
use mathlib.Core.Path.{◌≡◌, refl}
use mathlib.Core.Bool.{Bool, true, false, not, cond, ◌&&◌}
use mathlib.Core.List.{List, [], ◌∷◌}
use mathlib.Core.Option.{Option, none, some}
use lib.IntN.{ℤ, pos, ◌+ℤ◌}
use Rattle.std.specs.Prelude.{None, Some}
use Rattle.arith.specs.Refusals.{ok, ◌>>◌, refuse◌when◌, refuse◌unless◌, step_overflow}
use Rattle.arith.specs.Numbers.{signed, is_i32, is_zero}
use Rattle.spirv.specs.declared.Index.{Index}
use Rattle.spirv.specs.declared.Index.TheVariants.{Known, Unknown}
use Rattle.spirv.specs.declared.SpvType.{SpvType}
use Rattle.spirv.specs.declared.SpvType.TheVariants as spv
use Rattle.spirv.specs.Decl.{pointee_of}
use Rattle.spirv.specs.Questions.{Question}
use Rattle.shapes.specs.Shapes.{Components, Scalar, Elements, Fields, Opaque, Buffer, MemTypeLayout, TypeLayout, Handle, HandleArray, Concrete}
use Rattle.sheet.specs.Sheet.{Sheet, decl_in, pointee_in}
use Rattle.layout.specs.Arrays.{Answer}
use Rattle.layout.specs.Layouts.{answer_in}
use Rattle.layout.specs.Lookup.{in_memory_only, lookup_by}
use Rattle.lower.specs.declared.QPtrOp.{QPtrOp}
use Rattle.lower.specs.Steps.{Pending, added, merged, field_of, to_field, constant_offset, by_constant, to_element, to_part, move, lower_from}
use Rattle.lower.specs.Chain.{start_layout, chain_by}
use Rattle.lower.specs.Other.{buffer_of, member_of, runtime_stride, stride_of_part, length_in, length_by, variable_by}
use Rattle.answers.specs.Lines.{answer_by, answer}
use Rattle.promise_order.specs.Due.{◌due-where◌, first, refusal_of, InOrder, own, behind}
use Rattle.promise_order.specs.OfQuestions.{is_handle, is_pointer, pointer_tests, sum_over, constant_over, field_tests, part_tests, move_tests, walk_tests, is_buffer, is_runtime_array, member_tests, length_tests, question_tests, OrderOfQuestions}
use Rattle.promise_order.proofs.Due.{fine, always, alone, then, then_own, then_behind, then_value, then_when, then_unless}

-- ---- the walk

sum_in : (p : Pending) (z : ℤ) → InOrder (merged p z) (step_overflow due-where sum_over p z ∷ [])
unfolding merged added first refusal_of ◌>>◌ refuse◌unless◌
sum_in None z = record { comes = by (is_zero z) }
  where
    by : (t : Bool) → refusal_of (cond t (ok None) (ok (Some z))) ≡ none
    by true = refl
    by false = refl
sum_in (Some y) z = record { comes = by (is_zero z) (is_i32 (y +ℤ z)) }
  where
    by : (t u : Bool) → refusal_of (cond t (ok (Some y)) ((refuse step_overflow unless u) >> ok (Some (y +ℤ z)))) ≡ cond (not t && not u) (some step_overflow) none
    by true u = refl
    by false true = refl
    by false false = refl

constant_in : (c : Option ℤ) (d : QPtrOp) (p : Pending) (l : TypeLayout) → InOrder (by_constant c d p l) (step_overflow due-where constant_over p c ∷ [])
unfolding by_constant first refusal_of
constant_in none d p l = record { comes = refl }
constant_in (some z) d p l = then_value _ _ _ (sum_in p z)

module _ (answer-of : ℕ → Answer) where
  field_in : (os ts : List ℕ) (i : Index) (p : Pending) → InOrder (to_field answer-of os ts i p) (field_tests answer-of os ts i p)
  unfolding to_field
  field_in os ts (Unknown v) p = always _
  field_in os ts (Known w) p = then_own (field_of os ts (signed w)) _ _ λ f h. then_unless _ _ _ _ λ g. then _ _ (step_overflow due-where sum_over p (pos f.offset) ∷ []) (own (answer-of f.type) ∷ []) (sum_in p (pos f.offset)) λ q e. then_value _ _ _ (alone (answer-of f.type))

  part_in : (c : Components) (i : Index) (p : Pending) → InOrder (to_part answer-of c i p) (part_tests answer-of c i p)
  unfolding to_part to_element
  part_in Scalar i p = always _
  part_in (Elements stride elem len) i p = then _ _ (own (answer-of elem) ∷ []) (step_overflow due-where constant_over p (constant_offset stride len i) ∷ []) (alone (answer-of elem)) λ l h. constant_in (constant_offset stride len i) _ p l
  part_in (Fields os ts) i p = field_in os ts i p

  move_in : (l : TypeLayout) (i : Index) (p : Pending) → InOrder (move answer-of l i p) (move_tests answer-of l i p)
  unfolding move
  move_in (Handle Opaque) i p = always _
  move_in (Handle (Buffer m)) i p = then_value _ _ _ (part_in m.components i None)
  move_in (HandleArray h n) i p = fine
  move_in (Concrete m) i p = part_in m.components i p

  walk_in : (is : List Index) (l : TypeLayout) (p : Pending) → InOrder (lower_from answer-of l p is) (walk_tests answer-of l p is)
  unfolding lower_from
  walk_in [] l p = fine
  walk_in (i ∷ is) l p = then_behind (move answer-of l i p) _ (move_tests answer-of l i p) _ (move_in l i p) λ a h. then_value _ _ _ (walk_in is a.layout a.pending)

-- ---- 18

pointer_is : (ty : SpvType) → InOrder (pointee_of ty) (18 due-where not (is_pointer ty) ∷ [])
unfolding pointee_of first refusal_of
pointer_is spv.Bool = record { comes = refl }
pointer_is (spv.Int width) = record { comes = refl }
pointer_is (spv.Float width) = record { comes = refl }
pointer_is (spv.Vector elem len) = record { comes = refl }
pointer_is (spv.Matrix column len) = record { comes = refl }
pointer_is (spv.Array elem len stride) = record { comes = refl }
pointer_is (spv.RuntimeArray elem stride) = record { comes = refl }
pointer_is (spv.Struct block) = record { comes = refl }
pointer_is (spv.Pointer class pointee) = record { comes = refl }
pointer_is spv.Opaque = record { comes = refl }
pointer_is spv.Unsupported = record { comes = refl }

module _ (s : Sheet) where
  pointer_in : (ptr : ℕ) → InOrder (pointee_in s ptr) (pointer_tests s ptr)
  unfolding pointee_in
  pointer_in ptr = then_own (decl_in s ptr) _ _ λ d h. pointer_is d.type

  -- ---- L

  buffer_in : (l : TypeLayout) → InOrder (buffer_of l) (25 due-where not (is_buffer l) ∷ [])
  unfolding buffer_of first refusal_of
  buffer_in (Handle Opaque) = record { comes = refl }
  buffer_in (Handle (Buffer m)) = record { comes = refl }
  buffer_in (HandleArray h n) = record { comes = refl }
  buffer_in (Concrete m) = record { comes = refl }

  stride_in : (l : TypeLayout) → InOrder (stride_of_part l) (26 due-where not (is_runtime_array l) ∷ [])
  unfolding stride_of_part runtime_stride first refusal_of
  stride_in (Handle h) = record { comes = refl }
  stride_in (HandleArray h n) = record { comes = refl }
  stride_in (Concrete m) = by m.components
    where
      by : (c : Components) → InOrder (runtime_stride c) (26 due-where not (is_runtime_array (Concrete record { mem = m.mem; components = c })) ∷ [])
      by Scalar = record { comes = refl }
      by (Elements stride elem len) = then_unless _ _ _ [] λ h. fine
      by (Fields os ts) = record { comes = refl }

  member_in : (b : MemTypeLayout) (member : ℕ) → InOrder (length_in (answer_in s) b member) (own (member_of b.components member) ∷ behind (member_of b.components member) (member_tests s b))
  unfolding length_in
  member_in b member = then_own (member_of b.components member) _ (member_tests s b) λ f h. then_own (answer_in s f.type) _ _ λ part g. then (stride_of_part part) _ (26 due-where not (is_runtime_array part) ∷ []) _ (stride_in part) λ st e. then_unless _ _ _ [] λ k. fine

  length_in_lem : (ptr member : ℕ) → InOrder (length_by (pointee_in s) (answer_in s) ptr member) (length_tests s ptr member)
  unfolding length_by
  length_in_lem ptr member = then_behind (pointee_in s ptr) _ (pointer_tests s ptr) _ (pointer_in ptr) λ t h. then_own (answer_in s t) _ _ λ l g. then_behind (buffer_of l) _ (25 due-where not (is_buffer l) ∷ []) _ (buffer_in l) λ b e. member_in b member

  -- ---- any question

  memory_in : (l : TypeLayout) → InOrder (in_memory_only l) (19 due-where is_handle l ∷ [])
  unfolding in_memory_only first refusal_of
  memory_in (Handle h) = record { comes = refl }
  memory_in (HandleArray h n) = record { comes = refl }
  memory_in (Concrete m) = record { comes = refl }

  question_in : (q : Question) → InOrder (answer s q) (question_tests s q)
  unfolding answer_by lookup_by chain_by variable_by
  question_in (Question.T t) = then_value _ _ _ (alone (answer_in s t))
  question_in (Question.E a b) = then (answer_in s a) _ (own (answer_in s a) ∷ []) (own (answer_in s b) ∷ []) (alone (answer_in s a)) λ l h. then_value _ _ _ (alone (answer_in s b))
  question_in (Question.Q t start end) =
      then_value _ _ _ (then_unless _ _ _ _ λ f. then_when _ _ _ _ λ g. then_own (answer_in s t) _ _ λ l h. then_value _ _ _ (memory_in l))
  question_in (Question.C op ptr is) =
      then_value _ _ _ (then_behind (pointee_in s ptr) _ (pointer_tests s ptr) _ (pointer_in ptr) λ t h. then_own (start_layout s.setting (answer_in s) op t) _ _ λ l g. walk_in (answer_in s) is l None)
  question_in (Question.L ptr member) = then_value _ _ _ (length_in_lem ptr member)
  question_in (Question.X ptr) = then_value _ _ _ (then_behind (pointee_in s ptr) _ (pointer_tests s ptr) _ (pointer_in ptr) λ t h. then_value _ _ _ (alone (answer_in s t)))

pub order_of_questions : OrderOfQuestions
order_of_questions s q = question_in s q
