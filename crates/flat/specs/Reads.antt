-- What reading a sheet into a table comes to: the number of its types and its table, or a refusal and the list as it was; 24 where the list has
-- fewer than 7,175 words.
use Rattle.std.specs.Prelude.{ℕ, ◌≡◌, List, [], ◌∷◌, length, replicate}
use Rattle.std.proofs.lemmas.List.Edits.{sets}
use Rattle.arith.specs.Refusals.{Result, in_room}
use Rattle.arith.specs.InCode.{OrRefusal}
use Rattle.shapes.specs.Settings.{setting_of}
use Rattle.sheet.specs.Sheet.{Sheet, read_sheet}
use Rattle.sheet.specs.Tables.{over}
use Rattle.reading.specs.Reads.{told, words_in}
use Rattle.records.specs.Records.{filling}
use Rattle.flat.specs.Table.{table_words_lem, table_words}

abbrev pub read_in : (room : ℕ) → (input : List ℕ) → Result Sheet
read_in room input = in_room room (λ s. table_words_lem) (read_sheet input)

pub record ReadsTable (input : List ℕ) (r : OrRefusal ℕ) (table table' : List ℕ) : Type 0 where
  pub answer : r ≡ told (read_in (length table) input)
  pub words : table' ≡ over (words_in table_words (read_in (length table) input)) table

-- ---- the parts, stored one behind the other

-- the offsets and the rows of layouts, over zeros
abbrev pub laid_out : (n : ℕ) (setting types members given : List ℕ) → List ℕ × List ℕ
laid_out n setting types members given = (filling (setting_of setting) types members given (replicate 1024 0) (replicate 2560 0) n).1

abbrev pub with_tables : (n : ℕ) (setting types members given table : List ℕ) → List ℕ
with_tables n setting types members given table = sets (sets (sets (sets (sets table 0 (n ∷ [])) 1 setting) 7 types) 1543 members) 2567 given

unfoldable pub stored_parts : (n : ℕ) (setting types members given table : List ℕ) → List ℕ
stored_parts n setting types members given table =
    sets (sets (with_tables n setting types members given table) 3591 (laid_out n setting types members given).0) 4615 (laid_out n setting types members given).1
