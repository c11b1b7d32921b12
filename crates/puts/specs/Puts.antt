-- What a line writes into the lists, at the counts of the lines above it.
use Rattle.std.specs.Prelude.{ℕ, ◌+◌, ◌-◌, ◌*◌, ◌≤◌, ◌≡◌, Bool, true, false, cond, List, [], ◌∷◌, eqb, ltb, replicate, Option, Some, None}
use Rattle.std.proofs.Math.Option.{some}
use Rattle.std.proofs.lemmas.List.Edits.{sets}
use Rattle.spirv.specs.declared.Decoration.{Decoration}
use Rattle.spirv.specs.declared.Decoration.TheVariants.{RowMajor, Offset}
use Rattle.spirv.specs.declared.MemberDecoration.{MemberDecoration}
use Rattle.spirv.specs.declared.SpvType.{SpvType}
use Rattle.spirv.specs.declared.DeclRow.{DeclRow}
use Rattle.spirv.specs.Decl.{Decl, is_struct}
use Rattle.spirv.specs.Rows.{encode_row, struct_row, plain_row}
use Rattle.sheet.specs.Fields.{read_type, read_all}
use Rattle.sheet.specs.Tables.{types_words, members_words, offsets_words}
use Rattle.fields.specs.Pieces.{behind}
use Rattle.lines.specs.declared.SheetLine.{SheetLine}
use Rattle.lines.specs.declared.SheetLine.TheVariants as says
use Rattle.tally.specs.declared.Place.{Place}
use Rattle.tally.specs.declared.Place.TheVariants.{Closed, Open, After}
use Rattle.tally.specs.declared.Tally.{Tally}
use Rattle.tally.specs.Counts.{row_by, Small}

-- the lists as they were
pub record Untouched (ty me gi ty' me' gi' : List ℕ) : Type 0 where
  pub types : ty' ≡ ty
  pub members : me' ≡ me
  pub given : gi' ≡ gi

-- ---- a type

unfoldable pub fresh_row : SpvType → (start count : ℕ) → DeclRow
fresh_row ty start count = cond (is_struct ty) (struct_row ty start count 0 0) (plain_row ty)

-- a row, the members, and a zero for each
pub record Declaring (t : Tally) (line : List ℕ) (ty : SpvType) (n at : ℕ) (tys me gi tys' me' gi' : List ℕ) : Type 0 where
  pub types : tys' ≡ sets tys (6 * t.types) (encode_row (fresh_row ty t.members n))
  pub members : (ms : List ℕ) → read_all (read_type t.types) (behind line at) ≡ some ms → me' ≡ sets me t.members ms
  pub given : gi' ≡ sets gi t.members (replicate n 0)

-- ---- a decoration

abbrev pub offset_in : Decoration → List ℕ
offset_in RowMajor = []
offset_in (Offset value) = value ∷ []

-- the offset that a D line gives, where it counts as read and there is such a member
unfoldable pub offset_words : DeclRow → MemberDecoration → List ℕ
offset_words row d = cond (eqb row.refusal 0) (cond (eqb d.member row.read) (cond (ltb row.read row.count) (offset_in d.decoration) []) []) []

-- the last of so many rows anew, and the offset
pub record Redecorating (row : DeclRow) (d : MemberDecoration) (count : ℕ) (ty gi ty' gi' : List ℕ) : Type 0 where
  pub types : ty' ≡ sets ty (6 * (count - 1)) (encode_row (row_by row d))
  pub given : gi' ≡ sets gi (row.start + row.read) (offset_words row d)

pub record RedecoratingAll (row : DeclRow) (d : MemberDecoration) (count : ℕ) (ty me gi ty' me' gi' : List ℕ) : Type 0 where
  pub last : Redecorating row d count ty gi ty' gi'
  pub members : me' ≡ me

abbrev pub PutDecoration : Place → MemberDecoration → ℕ → (ty me gi ty' me' gi' : List ℕ) → Type 0
PutDecoration Closed d count ty me gi ty' me' gi' = Untouched ty me gi ty' me' gi'
PutDecoration (Open row) d count ty me gi ty' me' gi' = RedecoratingAll row d count ty me gi ty' me' gi'
PutDecoration (After row c) d count ty me gi ty' me' gi' = RedecoratingAll row d count ty me gi ty' me' gi'

-- ---- any line

abbrev pub Put : Tally → List ℕ → Option SheetLine → (ty me gi ty' me' gi' : List ℕ) → Type 0
Put t line (Some (says.Setting g)) ty me gi ty' me' gi' = Untouched ty me gi ty' me' gi'
Put t line (Some (says.Declared d n at)) ty me gi ty' me' gi' = Declaring t line d n at ty me gi ty' me' gi'
Put t line (Some (says.Decorated d)) ty me gi ty' me' gi' = PutDecoration t.place d t.types ty me gi ty' me' gi'
Put t line (Some (says.Asked a at)) ty me gi ty' me' gi' = Untouched ty me gi ty' me' gi'
Put t line None ty me gi ty' me' gi' = Untouched ty me gi ty' me' gi'

abbrev pub declared_count : Option SheetLine → ℕ
declared_count (Some (says.Setting g)) = 0
declared_count (Some (says.Declared d n at)) = n
declared_count (Some (says.Decorated d)) = 0
declared_count (Some (says.Asked a at)) = 0
declared_count None = 0

-- what is not refused can be put
pub record Putable (t : Tally) (l : Option SheetLine) : Type 0 where
  pub few : declared_count l ≤ 1024
  pub small : Small t

-- what is put where it is to be written; else nothing is
pub record Wrote (write : Bool) (t : Tally) (line : List ℕ) (l : Option SheetLine) (ty me gi ty' me' gi' : List ℕ) : Type 0 where
  pub yes : write ≡ true → Put t line l ty me gi ty' me' gi'
  pub no : write ≡ false → Untouched ty me gi ty' me' gi'

-- ---- the tables

-- the words of these types, stored at the start of the lists
pub record Filled (ds : List Decl) (ty me gi ty' me' gi' : List ℕ) : Type 0 where
  pub types : ty' ≡ sets ty 0 (types_words 0 ds)
  pub members : me' ≡ sets me 0 (members_words ds)
  pub given : gi' ≡ sets gi 0 (offsets_words ds)
