-- The counts that refusals go by: how many types and members there are, and what stands above a line; and what a line makes of them.
use Rattle.std.specs.Prelude.{ℕ, ◌+◌, ◌≤◌, ◌≡◌, Bool, true, false, cond, leb, ltb, eqb, Option, Some, None, Ok}
use Rattle.arith.specs.Refusals.{misread, oversize, bad_setting, row_major, offset_repeated, offsets_missing}
use Rattle.arith.specs.InCode.{OrRefusal, err}
use Rattle.spirv.specs.declared.Decoration.{Decoration}
use Rattle.spirv.specs.declared.Decoration.TheVariants.{RowMajor, Offset}
use Rattle.spirv.specs.declared.MemberDecoration.{MemberDecoration}
use Rattle.spirv.specs.declared.SpvType.{SpvType}
use Rattle.spirv.specs.declared.DeclRow.{DeclRow}
use Rattle.spirv.specs.Decl.{is_struct, before}
use Rattle.spirv.specs.Rows.{struct_row}
use Rattle.shapes.specs.declared.LayoutConfig.{LayoutConfig}
use Rattle.sheet.specs.Sheet.{max_types, max_members, max_indices, good_setting}
use Rattle.lines.specs.declared.SheetLine.{SheetLine}
use Rattle.lines.specs.declared.SheetLine.TheVariants as says
use Rattle.lines.specs.Says.{count_of}
use Rattle.tally.specs.declared.Place.{Place}
use Rattle.tally.specs.declared.Place.TheVariants.{Closed, Open, After}
use Rattle.tally.specs.declared.Tally.{Tally}

-- ---- a struct's row with a D line more

abbrev pub row_with : DeclRow → (refusal read : ℕ) → DeclRow
row_with row refusal read = struct_row row.ty row.start row.count refusal read

abbrev pub row_taking : DeclRow → (member : ℕ) → Decoration → DeclRow
row_taking row member RowMajor = row_with row row_major row.read
row_taking row member (Offset value) =
    cond (ltb member row.read) (row_with row offset_repeated row.read)
    (cond (ltb row.read member) (row_with row offsets_missing row.read) (row_with row 0 (row.read + 1)))

unfoldable pub row_by : DeclRow → MemberDecoration → DeclRow
row_by row d = cond (eqb row.refusal 0) (row_taking row d.member d.decoration) row

-- ---- the counts

abbrev pub start_tally : LayoutConfig → Tally
start_tally g = record { setting = g; types = 0; members = 0; place = Closed }

abbrev pub placed : Tally → Place → Tally
placed t p = record { setting = t.setting; types = t.types; members = t.members; place = p }

-- how many offsets were read of the struct above
abbrev pub read_in : Place → ℕ
read_in Closed = 0
read_in (Open row) = row.read
read_in (After row d) = row.read

abbrev pub is_open : Place → Bool
is_open Closed = false
is_open (Open row) = true
is_open (After row d) = true

-- counts that can grow: few offsets, and where a struct stands above there is a type
pub record Small (t : Tally) : Type 0 where
  pub read : read_in t.place ≤ 65536
  pub some_type : is_open t.place ≡ true → 1 ≤ t.types

-- the counts with a line more, or its refusal
abbrev pub more : Tally → OrRefusal Tally
more t = Ok t

abbrev pub stop : ℕ → OrRefusal Tally
stop n = err n

unfoldable pub opened_by : SpvType → (start count : ℕ) → Place
opened_by ty start count = cond (is_struct ty) (Open (struct_row ty start count 0 0)) Closed

unfoldable pub declared_by : Tally → SpvType → ℕ → OrRefusal Tally
declared_by t ty n =
    cond (ltb t.types max_types)
    (cond (leb (t.members + n) max_members)
    (more record { setting = t.setting; types = t.types + 1; members = t.members + n; place = opened_by ty t.members n })
    (stop oversize))
    (stop oversize)

abbrev pub after_by : Tally → DeclRow → MemberDecoration → OrRefusal Tally
after_by t row d = more (placed t (After (row_by row d) d))

unfoldable pub decorated_by : Tally → Place → MemberDecoration → OrRefusal Tally
decorated_by t Closed d = stop misread
decorated_by t (Open row) d = after_by t row d
decorated_by t (After row c) d = cond (before c d) (after_by t row d) (stop misread)

unfoldable pub asked_by : Tally → ℕ → OrRefusal Tally
asked_by t n = cond (leb n max_indices) (more (placed t Closed)) (stop oversize)

-- a line below others
unfoldable pub judged : Tally → Option SheetLine → OrRefusal Tally
judged t (Some (says.Setting g)) = stop misread
judged t (Some (says.Declared ty n at)) = declared_by t ty n
judged t (Some (says.Decorated d)) = decorated_by t t.place d
judged t (Some (says.Asked a at)) = asked_by t (count_of a)
judged t None = stop misread

-- line 1
unfoldable pub set_by : LayoutConfig → OrRefusal Tally
set_by g = cond (good_setting g) (more (start_tally g)) (stop bad_setting)

unfoldable pub judged_first : Option SheetLine → OrRefusal Tally
judged_first (Some (says.Setting g)) = set_by g
judged_first (Some (says.Declared ty n at)) = stop misread
judged_first (Some (says.Decorated d)) = stop misread
judged_first (Some (says.Asked a at)) = stop misread
judged_first None = stop misread
