-- What the counts of a sheet that is being read say of it, and what a line may add. Assumes nothing.
use Prim.Native.Nat.{ℕ}
use native.Mathlib.Omega.{arith}
use mathlib.Core.Path.{◌≡◌, ap}
use mathlib.Core.Bool.{Bool, true, false}
use mathlib.Core.List.{List, [], ◌∷◌, ◌++◌}
use mathlib.Core.Option.{Option, some}
use lib.ListN.{length}
use Rattle.arith.specs.Refusals.{ok}
use Rattle.spirv.specs.declared.MemberDecoration.{MemberDecoration}
use Rattle.spirv.specs.declared.SpvType.{SpvType}
use Rattle.spirv.specs.declared.DeclRow.{DeclRow}
use Rattle.spirv.specs.Decl.{Decl, is_struct, before}
use Rattle.spirv.specs.Reduced.{decl_row}
use Rattle.sheet.specs.Fields.{read_type, read_all}
use Rattle.sheet.specs.Grammar.{Line, Decorated}
use Rattle.sheet.specs.Sheet.{Sheet, member_count, takes_decoration, rises, next_line}
use Rattle.fields.specs.Pieces.{behind}
use Rattle.lines.specs.declared.SheetLine.{SheetLine}
use Rattle.lines.specs.declared.SheetLine.TheVariants as says
use Rattle.tally.specs.declared.Place.{Place}
use Rattle.tally.specs.declared.Place.TheVariants.{Closed, Open, After}
use Rattle.tally.specs.declared.Tally.{Tally}
use Rattle.std.specs.Prelude as code
use Rattle.std.specs.Prelude.{Some, None, Ok, Err}
use Rattle.arith.specs.InCode.{OrRefusal}
use Rattle.tally.specs.Counts.{more, stop}
use Rattle.tally.proofs.Decorated.{decorated}

-- ---- a sheet and its counts

-- the last type is a struct with this row, and a D line may follow where `follows` says so
pub record OpenAt (ts : List Decl) (previous : Line) (row : DeclRow) (follows : MemberDecoration → Bool) : Type 0 where
  pub takes : takes_decoration previous ≡ true
  pub above : List Decl
  pub last : Decl
  pub split : ts ≡ above ++ (last ∷ [])
  pub struct : is_struct last.type ≡ true
  pub held : row ≡ decl_row (member_count above) last
  pub rising : (d : MemberDecoration) → rises last.decorations d ≡ follows d

abbrev pub Placed : List Decl → Line → Place → Type 0
Placed ts previous Closed = takes_decoration previous ≡ false
Placed ts previous (Open row) = OpenAt ts previous row (λ d. true)
Placed ts previous (After row c) = OpenAt ts previous row (before c)

pub record Matches (s : Sheet) (previous : Line) (t : Tally) : Type 0 where
  pub setting : t.setting ≡ s.setting
  pub types : t.types ≡ length s.types
  pub members : t.members ≡ member_count s.types
  pub place : Placed s.types previous t.place

-- ---- what a line adds to the types

pub record Added (above : ℕ) (line : List ℕ) (ty : SpvType) (n at : ℕ) (ts us : List Decl) : Type 0 where
  pub members : List ℕ
  pub read : read_all (read_type above) (behind line at) ≡ some members
  pub count : length members ≡ n
  pub types : us ≡ ts ++ (record { type = ty; members = members; decorations = [] } ∷ [])

pub record Redone (row : DeclRow) (d : MemberDecoration) (ts us : List Decl) : Type 0 where
  pub above : List Decl
  pub last : Decl
  pub was : ts ≡ above ++ (last ∷ [])
  pub now : us ≡ above ++ (decorated last d ∷ [])
  pub struct : is_struct last.type ≡ true
  pub held : row ≡ decl_row (member_count above) last

abbrev pub RedoneAt : Place → MemberDecoration → List Decl → List Decl → Type 0
RedoneAt Closed d ts us = ⊥
RedoneAt (Open row) d ts us = Redone row d ts us
RedoneAt (After row c) d ts us = Redone row d ts us

abbrev pub Grows : (above : ℕ) → List ℕ → Place → code.Option SheetLine → List Decl → List Decl → Type 0
Grows above line p (Some (says.Setting g)) ts us = ⊥
Grows above line p (Some (says.Declared ty n at)) ts us = Added above line ty n at ts us
Grows above line p (Some (says.Decorated d)) ts us = RedoneAt p d ts us
Grows above line p (Some (says.Asked a at)) ts us = us ≡ ts
Grows above line p None ts us = ⊥

-- the line is read, and the counts u are those of the sheet with it
pub record Went (s : Sheet) (previous : Line) (t : Tally) (line : List ℕ) (l : code.Option SheetLine) (o : Option Line) (u : Tally) : Type 0 where
  pub said : Line
  pub told : o ≡ some said
  pub sheet : Sheet
  pub next : next_line s previous said ≡ ok sheet
  pub matches : Matches sheet said u
  pub grows : Grows t.types line t.place l s.types sheet.types

-- the same of a decoration, by what stands above it
pub record WentBy (s : Sheet) (previous : Line) (p : Place) (d : MemberDecoration) (u : Tally) : Type 0 where
  pub sheet : Sheet
  pub next : next_line s previous (Decorated d) ≡ ok sheet
  pub matches : Matches sheet (Decorated d) u
  pub grows : RedoneAt p d s.types sheet.types

pub never_next : {n : ℕ} {u : Tally} → stop n ≡ more u → ⊥
never_next e = let z : ◌≡◌ {A = ℕ} 0 1 = cc in omega arith

pub never_refused : {n : ℕ} {u : Tally} → more u ≡ stop n → ⊥
never_refused e = let z : ◌≡◌ {A = ℕ} 0 1 = cc in omega arith

pub next_is : {t u : Tally} → more t ≡ more u → t ≡ u
next_is e = cc

pub number_is : {m n : ℕ} → stop m ≡ stop n → m ≡ n
number_is {m} {n} e = ap number e
  where
    number : OrRefusal Tally → ℕ
    number (Ok t) = m
    number (Err r) = r.number
