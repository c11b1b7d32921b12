-- Document 01's T, Q, L and X of a sheet, as what a table that was read for that sheet answers: `table_answers`.
use Rattle.std.specs.Prelude.{ℕ, ◌≡◌, List, Ok}
use Rattle.arith.specs.Refusals.{ok}
use Rattle.sheet.specs.Sheet.{Sheet, read_sheet}
use Rattle.layout.specs.Layouts.{answer_in}
use Rattle.layout.specs.Lookup.{lookup}
use Rattle.lower.specs.Other.{array_length, local_variable}
use Rattle.flat.specs.Reads.{ReadsTable}
use Rattle.asked.specs.Asked.{in_words, length_words, variable_words, layout_words, layout_for, found_for, length_for, variable_for}

pub record OfSheet (input table : List ℕ) : Type 0 where
  pub sheet : Sheet
  pub is_sheet : read_sheet input ≡ ok sheet
  pub layouts : (type : ℕ) → layout_for table type ≡ in_words layout_words (answer_in sheet type)
  pub components : (type start end : ℕ) → found_for table type start end ≡ lookup sheet type start end
  pub lengths : (ptr member : ℕ) → length_for table ptr member ≡ in_words length_words (array_length sheet ptr member)
  pub variables : (ptr : ℕ) → variable_for table ptr ≡ in_words variable_words (local_variable sheet ptr)

-- where `read_table` answered a number of types
abbrev pub TableAnswers : Type 0
TableAnswers = (input old table : List ℕ) (n : ℕ) → ReadsTable input (Ok n) old table → OfSheet input table
