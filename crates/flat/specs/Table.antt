-- The table of a sheet as C keeps it: one list of 7,175 words, in which the number of types, the setting, the types, the members, the given and the
-- computed offsets and the rows of layouts stand one behind the other.
use Rattle.std.specs.Prelude.{ℕ, ◌≡◌, List, [], ◌∷◌, ◌++◌, length, get_or, replicate}
use Rattle.shapes.specs.declared.LayoutConfig.{LayoutConfig}
use Rattle.shapes.specs.declared.tables.Tables.{Tables}
use Rattle.shapes.specs.Settings.{setting_of}
use Rattle.shapes.specs.Rows.{flat}
use Rattle.shapes.specs.Spans.{span_of}
use Rattle.sheet.specs.Sheet.{Sheet}
use Rattle.sheet.specs.Tables.{over, setting_words, types_words, members_words, offsets_words}
use Rattle.laid.specs.Statements.{answers_of, offsets_of}

abbrev pub table_words_lem : ℕ
table_words_lem = 7175

-- ---- the parts of a list of any content and length: those of a short one are shorter

abbrev pub count_in : List ℕ → ℕ
count_in table = get_or table 0 0

abbrev pub setting_in : List ℕ → LayoutConfig
setting_in table = setting_of (span_of table 1 6)

abbrev pub types_in : List ℕ → List ℕ
types_in table = span_of table 7 1536

abbrev pub members_in : List ℕ → List ℕ
members_in table = span_of table 1543 1024

abbrev pub given_in : List ℕ → List ℕ
given_in table = span_of table 2567 1024

abbrev pub places_in : List ℕ → List ℕ
places_in table = span_of table 3591 1024

abbrev pub layouts_in : List ℕ → List ℕ
layouts_in table = span_of table 4615 2560

-- these parts, as the code has them
pub record TablesIn (table : List ℕ) (t : Tables) : Type 0 where
  pub cfg : t.cfg ≡ setting_in table
  pub types : t.types.now ≡ types_in table
  pub rows : t.layouts.rows.now ≡ layouts_in table
  pub count : t.layouts.count ≡ count_in table
  pub offsets : t.layouts.offsets.now ≡ places_in table
  pub members : t.layouts.members.now ≡ members_in table

-- ---- the words of a sheet's table

-- so many words: these, and then zeros
abbrev pub part : (size : ℕ) → List ℕ → List ℕ
part size ws = over ws (replicate size 0)

module _ (s : Sheet) where
  abbrev pub types_part : List ℕ
  types_part = part 1536 (types_words 0 s.types)

  abbrev pub members_part : List ℕ
  members_part = part 1024 (members_words s.types)

  abbrev pub given_part : List ℕ
  given_part = part 1024 (offsets_words s.types)

  abbrev pub places_part : List ℕ
  places_part = offsets_of s types_part members_part given_part (replicate 1024 0)

  abbrev pub layouts_part : List ℕ
  layouts_part = part 2560 (flat (answers_of s types_part members_part given_part (replicate 1024 0)))

  unfoldable pub table_words : List ℕ
  table_words =
      (length s.types ∷ [])
      ++ (setting_words s.setting
      ++ (types_part
      ++ (members_part
      ++ (given_part
      ++ (places_part
      ++ layouts_part)))))
