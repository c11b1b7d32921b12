-- What the tables of a sheet answer is what document 01 answers for the sheet.
use Rattle.std.specs.Prelude.{ℕ, ◌≤◌, ◌≡◌, List, ◌++◌, length}
use Rattle.spirv.specs.Questions.{Question}
use Rattle.shapes.specs.Rows.{flat}
use Rattle.sheet.specs.Sheet.{Sheet, index_count, max_indices, max_members}
use Rattle.laid.specs.Statements.{Tables, answers_of, offsets_of}
use Rattle.answers.specs.Lines.{answer_by, answer}
use Rattle.answering.specs.OfTables.{of_tables}

-- each question of at most 255 indices, where the offsets stand in a list of at most 1,024
abbrev pub AnswersOfSheet : Type 0
AnswersOfSheet =
    (s : Sheet) (types members given offsets rest : List ℕ) → Tables s.types types members given (length offsets)
    → length (offsets_of s types members given offsets) ≤ max_members → (q : Question) → index_count q ≤ max_indices
    → answer_by (of_tables s.setting (length s.types) types (flat (answers_of s types members given offsets) ++ rest) (offsets_of s types members given offsets) members) q ≡ answer s q
