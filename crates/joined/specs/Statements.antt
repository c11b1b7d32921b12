-- What the code answers over the tables of a sheet is what document 01 asks of the sheet: T as values, C, L, X; and Vulkan's alignments stand
-- in the tables.
use Rattle.std.specs.Prelude.{ℕ, ◌≤◌, ◌≡◌, List, ◌++◌, length}
use Rattle.std.proofs.Math.Option.{some}
use Rattle.arith.specs.Refusals.{ok}
use Rattle.arith.specs.InCode.{OrRefusal}
use Rattle.spirv.specs.declared.ChainOp.{ChainOp}
use Rattle.shapes.specs.Shapes as shapes
use Rattle.shapes.specs.Rows.{answer_at, flat}
use Rattle.shapes.specs.Spans.{answer_over}
use Rattle.sheet.specs.Sheet.{Sheet, pointee_in, member_count}
use Rattle.reading.specs.Reads.{ReadsInto, into}
use Rattle.layout.specs.Layouts.{layout_in_room}
use Rattle.values.specs.Values.{held_in}
use Rattle.laid.specs.Statements.{Tables, answers_of, offsets_of}
use Rattle.components.specs.Found.{answers_in}
use Rattle.lower.specs.Chain.{chain_in_room}
use Rattle.lower.specs.Other.{array_length, variable_by, local_variable}
use Rattle.moves.specs.Moves.{indices_in}
use Rattle.pointers.specs.OverTables.{pointee_at, chain_over, length_over}
use Rattle.promise.specs.Vulkan.{Vk, covered}
use Rattle.promise.specs.Aligned.{Aligned}

-- ---- from bytes to tables

-- where a sheet is read into lent lists, these hold its types; there is room for offsets where each member has a place
abbrev pub TablesOfReading : Type 0
TablesOfReading =
    (input : List ℕ) (s : Sheet) (r : OrRefusal ℕ) (se ty me gi se' ty' me' gi' : List ℕ) → ReadsInto input r se ty me gi se' ty' me' gi' → into input se ty me gi ≡ ok s
    → (room : ℕ) → member_count s.types ≤ room → Tables s.types ty' me' gi' room

-- ---- T as values

abbrev pub ValuesOfSheet : Type 0
ValuesOfSheet =
    (s : Sheet) (types members given offsets rest : List ℕ) → Tables s.types types members given (length offsets) → (room t : ℕ)
    → answer_over (offsets_of s types members given offsets) members (held_in room (offsets_of s types members given offsets) (answer_at (flat (answers_of s types members given offsets) ++ rest) (length s.types) t))
    ≡ layout_in_room room s t

-- ---- what is asked of pointers

module _ (s : Sheet) (types members given offsets rest : List ℕ) where
  -- the rows of layouts, and whatever stands behind them
  abbrev pub rows_of : List ℕ
  rows_of = flat (answers_of s types members given offsets) ++ rest

abbrev pub PointeesOfSheet : Type 0
PointeesOfSheet =
    (s : Sheet) (types members given : List ℕ) (room : ℕ) → Tables s.types types members given room → (ptr : ℕ)
    → pointee_at types (length s.types) ptr ≡ pointee_in s ptr

-- C of at most 255 indices, for each of the four ops
abbrev pub ChainsOfSheet : Type 0
ChainsOfSheet =
    (s : Sheet) (types members given offsets rest : List ℕ) → Tables s.types types members given (length offsets)
    → (room : ℕ) (op : ChainOp) (ptr : ℕ) (chain : List ℕ) → length chain ≤ 510
    → chain_over room s.setting (length s.types) types (rows_of s types members given offsets rest) (offsets_of s types members given offsets) members op ptr chain
    ≡ chain_in_room room s op ptr (indices_in chain)

abbrev pub LengthsOfSheet : Type 0
LengthsOfSheet =
    (s : Sheet) (types members given offsets rest : List ℕ) → Tables s.types types members given (length offsets) → (ptr member : ℕ)
    → length_over (length s.types) types (rows_of s types members given offsets rest) (offsets_of s types members given offsets) members ptr member ≡ array_length s ptr member

abbrev pub VariablesOfSheet : Type 0
VariablesOfSheet =
    (s : Sheet) (types members given offsets rest : List ℕ) → Tables s.types types members given (length offsets) → (ptr : ℕ)
    → variable_by (pointee_at types (length s.types)) (answers_in (rows_of s types members given offsets rest) (length s.types) (offsets_of s types members given offsets) members) ptr ≡ local_variable s ptr

-- ---- Vulkan's alignments stand in the rows

abbrev pub AlignmentsInTables : Type 0
AlignmentsInTables =
    (s : Sheet) (types members given offsets rest : List ℕ) → Tables s.types types members given (length offsets)
    → (t : ℕ) (k : Vk) (l : shapes.TypeLayout) (m : shapes.MemTypeLayout) → covered s.types t ≡ some k
    → answers_in (rows_of s types members given offsets rest) (length s.types) (offsets_of s types members given offsets) members t ≡ ok l → shapes.shown_memory l ≡ some m
    → Aligned s.setting k m
