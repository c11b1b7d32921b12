-- The tables of a sheet: lent lists of 32-bit words. Each list is the words of the sheet, followed by what it held before.
use Rattle.std.specs.Prelude.{ℕ, ◌+◌, ◌*◌, ◌≤◌, ◌<◌, ◌≡◌, Bool, ◌&&◌, List, [], ◌∷◌, ◌++◌, leb, length, take, drop, Some}
use Rattle.std.proofs.Math.Option.{some}
use Rattle.std.proofs.Math.ListN.{get_elem?}
use Rattle.arith.specs.Refusals.{Result, ok, ◌>>=◌, ◌>>◌, refuse◌unless◌, short_list}
use Rattle.spirv.specs.Decl.{Decl}
use Rattle.spirv.specs.Rows.{flag_word, encode_row, row_at}
use Rattle.spirv.specs.Reduced.{decl_row, given_words}
use Rattle.shapes.specs.declared.LayoutConfig.{LayoutConfig}
use Rattle.sheet.specs.Sheet.{Sheet, member_count}

-- words at the start of a list that held others
abbrev pub over : List ℕ → List ℕ → List ℕ
over ws old = ws ++ drop (length ws) old

-- ---- the words

abbrev pub setting_words : LayoutConfig → List ℕ
setting_words g =
    flag_word g.ignore_legacy_align
    ∷ g.min_aggregate_legacy_align
    ∷ g.abstract_bool_size
    ∷ g.abstract_bool_align
    ∷ g.logical_ptr_size
    ∷ g.logical_ptr_align
    ∷ []

-- a row of six words for each type; a struct's members start at the running member count
abbrev pub types_words : (start : ℕ) → List Decl → List ℕ
types_words start [] = []
types_words start (d ∷ ds) = encode_row (decl_row start d) ++ types_words (start + length d.members) ds

-- the members of all types
abbrev pub members_words : List Decl → List ℕ
members_words [] = []
members_words (d ∷ ds) = d.members ++ members_words ds

-- for each member of a struct the offset that its D lines give, or 0
abbrev pub offsets_words : List Decl → List ℕ
offsets_words [] = []
offsets_words (d ∷ ds) = given_words d ++ offsets_words ds

-- ---- room

-- lists of these lengths hold the words of a sheet
unfoldable pub room_for : (setting types members given : ℕ) → Sheet → Bool
room_for setting types members given s =
    leb 6 setting && (leb (6 * length s.types) types && (leb (member_count s.types) members && leb (member_count s.types) given))

-- a sheet that the lists hold; 24 where one is too short
unfoldable pub held : (setting types members given : ℕ) → Result Sheet → Result Sheet
held setting types members given r = do
  s ← r
  refuse short_list unless room_for setting types members given s
  ok s

-- ---- spans

-- where the members of type t start
abbrev pub span_start : List Decl → ℕ → ℕ
span_start ds t = member_count (take t ds)

-- the spans of two types never overlap, and a type's span holds its members
pub record Spans (ds : List Decl) : Type 0 where
  pub apart : (t u : ℕ) (d : Decl) → t < u → get_elem? ds t ≡ some d → span_start ds t + length d.members ≤ span_start ds u
  pub inside : (t : ℕ) (d : Decl) → get_elem? ds t ≡ some d → span_start ds t + length d.members ≤ length (members_words ds)
  pub members : (t : ℕ) (d : Decl) → get_elem? ds t ≡ some d → take (length d.members) (drop (span_start ds t) (members_words ds)) ≡ d.members
  pub given : (t : ℕ) (d : Decl) → get_elem? ds t ≡ some d → take (length d.members) (drop (span_start ds t) (offsets_words ds)) ≡ given_words d
  pub rows : (t : ℕ) (d : Decl) → get_elem? ds t ≡ some d → take 6 (drop (6 * t) (types_words 0 ds)) ≡ encode_row (decl_row (span_start ds t) d)

-- ---- read back

-- whatever follows the tables of these types, each type is read back: its row, its members and their given offsets
pub record ReadBack (ds : List Decl) : Type 0 where
  pub row : (old : List ℕ) (t : ℕ) (d : Decl) → get_elem? ds t ≡ some d → row_at (over (types_words 0 ds) old) t ≡ Some (decl_row (span_start ds t) d)
  pub members : (old : List ℕ) (t : ℕ) (d : Decl) → get_elem? ds t ≡ some d → take (length d.members) (drop (span_start ds t) (over (members_words ds) old)) ≡ d.members
  pub given : (old : List ℕ) (t : ℕ) (d : Decl) → get_elem? ds t ≡ some d → take (length d.members) (drop (span_start ds t) (over (offsets_words ds) old)) ≡ given_words d
