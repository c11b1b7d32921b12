-- What the rows of a table of layouts say of the declared types, where the tables hold these.
use Rattle.std.specs.Prelude.{ℕ, ◌≤◌, ◌≡◌, List, ◌++◌, map, length}
use Rattle.std.proofs.Math.Option.{some}
use Rattle.std.proofs.Math.ListN.{get_elem?}
use Rattle.spirv.specs.Decl.{Decl}
use Rattle.spirv.specs.Reduced.{decl_row}
use Rattle.spirv.specs.Rows.{row_at}
use Rattle.std.specs.Prelude.{Some}
use Rattle.shapes.specs.declared.LayoutConfig.{LayoutConfig}
use Rattle.shapes.specs.Spans.{answer_over}
use Rattle.sheet.specs.Sheet.{Sheet, member_count}
use Rattle.sheet.specs.Tables.{span_start, over, types_words, members_words, offsets_words}
use Rattle.shapes.specs.Rows.{flat}
use Rattle.arith.specs.InCode.{OrRefusal}
use Rattle.shapes.specs.declared.TypeLayout.{TypeLayout}
use Rattle.layout.specs.Layouts.{layouts, answer_in}
use Rattle.layout.specs.Lookup.{lookup}
use Rattle.components.specs.Found.{answers_in, lookup_in}
use Rattle.structs.specs.Statements.{Holds}
use Rattle.records.specs.Records.{records}

-- a row for each declaration, and its members and given offsets at the running member count
pub record Tables (ds : List Decl) (types members given : List ℕ) (room : ℕ) : Type 0 where
  pub row : (t : ℕ) (d : Decl) → get_elem? ds t ≡ some d → row_at types t ≡ Some (decl_row (span_start ds t) d)
  pub span : (t : ℕ) (d : Decl) → get_elem? ds t ≡ some d → Holds (span_start ds t) d members given room

-- the records of all types, read with the offsets that were written, are the layouts of the declarations
abbrev pub LaidOut : Type 0
LaidOut =
    (cfg : LayoutConfig) (ds : List Decl) (types members given offsets : List ℕ) → Tables ds types members given (length offsets)
    → map (answer_over (records cfg types members given offsets (length ds)).1 members) (records cfg types members given offsets (length ds)).0 ≡ layouts cfg ds

-- ---- of a sheet

-- the tables of a sheet hold its types, whatever their lists held before
abbrev pub SheetTables : Type 0
SheetTables =
    (ds : List Decl) (t₀ m₀ g₀ : List ℕ) (room : ℕ) → member_count ds ≤ room
    → Tables ds (over (types_words 0 ds) t₀) (over (members_words ds) m₀) (over (offsets_words ds) g₀) room

module _ (s : Sheet) (types members given offsets : List ℕ) where
  -- what the code's tables hold of a sheet: its answers, and its offsets
  abbrev pub answers_of : List (OrRefusal TypeLayout)
  answers_of = (records s.setting types members given offsets (length s.types)).0

  abbrev pub offsets_of : List ℕ
  offsets_of = (records s.setting types members given offsets (length s.types)).1

-- each type's row says what the sheet says of it
abbrev pub RowsOfSheet : Type 0
RowsOfSheet =
    (s : Sheet) (types members given offsets rest : List ℕ) → Tables s.types types members given (length offsets) → (t : ℕ)
    → answers_in (flat (answers_of s types members given offsets) ++ rest) (length s.types) (offsets_of s types members given offsets) members t ≡ answer_in s t

-- and so does Q
abbrev pub LookupsOfSheet : Type 0
LookupsOfSheet =
    (s : Sheet) (types members given offsets rest : List ℕ) → Tables s.types types members given (length offsets) → (t start end : ℕ)
    → lookup_in (flat (answers_of s types members given offsets) ++ rest) (length s.types) (offsets_of s types members given offsets) members t start end ≡ lookup s t start end
