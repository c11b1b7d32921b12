-- Document 01, "The refusals": the numbers by which each question of a sheet that was read can be refused, in the order in which they are tested.
use Rattle.std.specs.Prelude.{ℕ, ◌≡◌, List, [], ◌∷◌, ◌++◌}
use Rattle.arith.specs.Refusals.{ok, refused, unsupported, odd_width, zero_length, specialization, zero_stride, nested_handles, unsized_element, handle_member, row_major, offset_repeated, offsets_missing, unsized_misplaced, overflow, ambiguous, no_pointer, no_parts, unknown_field, field_outside, far_field, step_overflow, no_buffer, no_runtime_array, not_last, reversed}
use Rattle.spirv.specs.Questions.{Question}
use Rattle.sheet.specs.Sheet.{Sheet, read_sheet}
use Rattle.sheet.specs.Statements.{All}
use Rattle.layout.specs.Statements.{Has}
use Rattle.answers.specs.Lines.{answer}

-- 4 to 17
abbrev pub layout_refusals : List ℕ
layout_refusals =
    unsupported
    ∷ odd_width
    ∷ zero_length
    ∷ specialization
    ∷ zero_stride
    ∷ nested_handles
    ∷ unsized_element
    ∷ handle_member
    ∷ row_major
    ∷ offset_repeated
    ∷ offsets_missing
    ∷ unsized_misplaced
    ∷ overflow
    ∷ ambiguous
    ∷ []

-- 24 is a lent list's alone
abbrev pub refusals_of : Question → List ℕ
refusals_of (Question.T t) = layout_refusals
refusals_of (Question.E first second) = layout_refusals
refusals_of (Question.Q t start end) = reversed ∷ (layout_refusals ++ (no_parts ∷ []))
refusals_of (Question.C op ptr indices) = no_pointer ∷ (layout_refusals ++ (no_parts ∷ unknown_field ∷ field_outside ∷ far_field ∷ step_overflow ∷ []))
refusals_of (Question.L ptr member) = no_pointer ∷ (layout_refusals ++ (no_buffer ∷ field_outside ∷ no_runtime_array ∷ not_last ∷ []))
refusals_of (Question.X ptr) = no_pointer ∷ layout_refusals

abbrev pub TableNumbers : Type 0
TableNumbers = (input : List ℕ) (s : Sheet) → read_sheet input ≡ ok s → All (λ q. (n : ℕ) → answer s q ≡ refused n → Has (refusals_of q) n) s.questions
