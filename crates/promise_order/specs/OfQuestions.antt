-- Document 01, "The refusals", its last lines: the order of each question's refusals. A number that is no type, 1, comes before them in a call.
use Rattle.std.specs.Prelude.{ℕ, Bool, true, false, not, ◌&&◌, List, [], ◌∷◌, ◌++◌, leb, ltb, eqb, ℤ, pos, ◌+ℤ◌, length, None, Some}
use Rattle.std.proofs.Math.Option.{Option, none, some}
use Rattle.arith.specs.Refusals.{misread, no_pointer, no_parts, unknown_field, far_field, step_overflow, no_buffer, no_runtime_array, not_last, reversed}
use Rattle.arith.specs.Numbers.{max_i32, signed, is_i32, is_zero}
use Rattle.spirv.specs.declared.ChainOp.{ChainOp}
use Rattle.spirv.specs.declared.Index.{Index}
use Rattle.spirv.specs.declared.Index.TheVariants.{Known, Unknown}
use Rattle.spirv.specs.declared.SpvType.{SpvType}
use Rattle.spirv.specs.declared.SpvType.TheVariants as spv
use Rattle.spirv.specs.Questions.{Question}
use Rattle.shapes.specs.Shapes.{Components, Scalar, Elements, Fields, Opaque, Buffer, MemTypeLayout, TypeLayout, Handle, HandleArray, Concrete, size_of}
use Rattle.sheet.specs.Sheet.{Sheet, decl_in, pointee_in}
use Rattle.layout.specs.Arrays.{Answer}
use Rattle.layout.specs.Layouts.{answer_in}
use Rattle.lower.specs.Steps.{Pending, Field, field_of, constant_offset, move}
use Rattle.lower.specs.Chain.{start_layout}
use Rattle.lower.specs.Other.{buffer_of, member_of}
use Rattle.answers.specs.Lines.{answer}
use Rattle.promise_order.specs.Due.{Test, ◌due-where◌, own, behind, InOrder}

-- ---- Q: 28, layout, 19

abbrev pub is_handle : TypeLayout → Bool
is_handle (Handle h) = true
is_handle (HandleArray h n) = true
is_handle (Concrete m) = false

abbrev pub lookup_tests : Sheet → (type start end : ℕ) → List Test
lookup_tests s type start end =
    misread due-where not (ltb type (length s.types))
    ∷ reversed due-where ltb end start
    ∷ own (answer_in s type)
    ∷ behind (answer_in s type) λ l. no_parts due-where is_handle l ∷ []

-- ---- 18, of C, L and X

abbrev pub is_pointer : SpvType → Bool
is_pointer spv.Bool = false
is_pointer (spv.Int width) = false
is_pointer (spv.Float width) = false
is_pointer (spv.Vector elem len) = false
is_pointer (spv.Matrix column len) = false
is_pointer (spv.Array elem len stride) = false
is_pointer (spv.RuntimeArray elem stride) = false
is_pointer (spv.Struct block) = false
is_pointer (spv.Pointer class pointee) = true
is_pointer spv.Opaque = false
is_pointer spv.Unsupported = false

abbrev pub pointer_tests : Sheet → (ptr : ℕ) → List Test
pointer_tests s ptr = own (decl_in s ptr) ∷ behind (decl_in s ptr) λ d. no_pointer due-where not (is_pointer d.type) ∷ []

-- ---- C: 18, layout, the walk's 19 to 23 as met

-- an offset other than 0 behind one that waits, and their sum doesn't fit
abbrev pub sum_over : Pending → ℤ → Bool
sum_over None z = false
sum_over (Some y) z = not (is_zero z) && not (is_i32 (y +ℤ z))

abbrev pub constant_over : Pending → Option ℤ → Bool
constant_over p none = false
constant_over p (some z) = sum_over p z

-- the index is not known; there is no such field; its offset is far; the sum; then the field's own layout
abbrev pub field_tests : (answer-of : ℕ → Answer) → (offsets types : List ℕ) → Index → Pending → List Test
field_tests answer-of offsets types (Unknown v) p = unknown_field due-where true ∷ []
field_tests answer-of offsets types (Known w) p =
    own (field_of offsets types (signed w))
    ∷ behind (field_of offsets types (signed w)) λ f.
    far_field due-where not (leb f.offset max_i32) ∷ step_overflow due-where sum_over p (pos f.offset) ∷ own (answer-of f.type) ∷ []

abbrev pub part_tests : (answer-of : ℕ → Answer) → Components → Index → Pending → List Test
part_tests answer-of Scalar i p = no_parts due-where true ∷ []
part_tests answer-of (Elements stride elem len) i p = own (answer-of elem) ∷ step_overflow due-where constant_over p (constant_offset stride len i) ∷ []
part_tests answer-of (Fields offsets types) i p = field_tests answer-of offsets types i p

abbrev pub move_tests : (answer-of : ℕ → Answer) → TypeLayout → Index → Pending → List Test
move_tests answer-of (Handle Opaque) i p = no_parts due-where true ∷ []
move_tests answer-of (Handle (Buffer m)) i p = part_tests answer-of m.components i None
move_tests answer-of (HandleArray h n) i p = []
move_tests answer-of (Concrete m) i p = part_tests answer-of m.components i p

abbrev pub walk_tests : (answer-of : ℕ → Answer) → TypeLayout → Pending → List Index → List Test
walk_tests answer-of l p [] = []
walk_tests answer-of l p (i ∷ is) = move_tests answer-of l i p ++ behind (move answer-of l i p) λ a. walk_tests answer-of a.layout a.pending is

abbrev pub chain_tests : Sheet → ChainOp → (ptr : ℕ) → List Index → List Test
chain_tests s op ptr is =
    pointer_tests s ptr
    ++ behind (pointee_in s ptr) λ t. own (start_layout s.setting (answer_in s) op t)
    ∷ behind (start_layout s.setting (answer_in s) op t) λ l. walk_tests (answer_in s) l None is

-- ---- L: 18, layout, 25, 21, 26, 27

abbrev pub is_buffer : TypeLayout → Bool
is_buffer (Handle Opaque) = false
is_buffer (Handle (Buffer m)) = true
is_buffer (HandleArray h n) = false
is_buffer (Concrete m) = false

abbrev pub is_runtime_array : TypeLayout → Bool
is_runtime_array (Handle h) = false
is_runtime_array (HandleArray h n) = false
is_runtime_array (Concrete m) = without m.components
  where
    without : Components → Bool
    without Scalar = false
    without (Elements stride elem len) = eqb len 0
    without (Fields offsets types) = false

-- the member's own layout is there, where the buffer's is
abbrev pub member_tests : Sheet → (buffer : MemTypeLayout) → Field → List Test
member_tests s buffer f =
    own (answer_in s f.type)
    ∷ behind (answer_in s f.type) λ part. no_runtime_array due-where not (is_runtime_array part) ∷ not_last due-where not (eqb (size_of buffer) f.offset) ∷ []

abbrev pub length_tests : Sheet → (ptr member : ℕ) → List Test
length_tests s ptr member =
    pointer_tests s ptr
    ++ behind (pointee_in s ptr) λ t. own (answer_in s t)
    ∷ behind (answer_in s t) λ l. no_buffer due-where not (is_buffer l)
    ∷ behind (buffer_of l) λ b. own (member_of b.components member)
    ∷ behind (member_of b.components member) (member_tests s b)

-- ---- X: 18, layout

abbrev pub variable_tests : Sheet → (ptr : ℕ) → List Test
variable_tests s ptr = pointer_tests s ptr ++ behind (pointee_in s ptr) λ t. own (answer_in s t) ∷ []

-- ---- any question; T: layout; E: first type, then second

abbrev pub question_tests : Sheet → Question → List Test
question_tests s (Question.T t) = own (answer_in s t) ∷ []
question_tests s (Question.E first second) = own (answer_in s first) ∷ own (answer_in s second) ∷ []
question_tests s (Question.Q t start end) = lookup_tests s t start end
question_tests s (Question.C op ptr indices) = chain_tests s op ptr indices
question_tests s (Question.L ptr member) = length_tests s ptr member
question_tests s (Question.X ptr) = variable_tests s ptr

abbrev pub OrderOfQuestions : Type 0
OrderOfQuestions = (s : Sheet) (q : Question) → InOrder (answer s q) (question_tests s q)
