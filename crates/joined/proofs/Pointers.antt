-- What is asked of pointers over the tables of a sheet is what is asked of the sheet. Assumes nothing.
use Prim.Native.Nat.{ℕ, ◌≤◌}
use mathlib.Core.Path.{◌≡◌, refl, sym, ap, ◌∙◌, fun_ext}
use mathlib.Core.Bool.{Bool, true, false, cond}
use mathlib.Core.List.{List}
use mathlib.Core.Option.{Option, none, some}
use lib.Dec.{ltb}
use lib.ListN.{length, get_elem?}
use borrow.Author.Tests.{le-ltb, ltb-false}
use Rattle.arith.specs.Refusals.{Result, refused, ◌>>=◌, ◌>>◌, refuse◌when◌, refuse◌unless◌, misread, in_room}
use Rattle.spirv.specs.Decl.{Decl, is_struct, pointee_of}
use Rattle.spirv.specs.Rows.{row_at}
use Rattle.spirv.specs.Reduced.{decl_row}
use Rattle.spirv.specs.declared.SpvType.{SpvType}
use Rattle.spirv.specs.declared.DeclRow.{DeclRow}
use Rattle.spirv.specs.declared.ChainOp.{ChainOp}
use Rattle.spirv.specs.declared.Index.{Index}
use Rattle.shapes.specs.declared.LayoutConfig.{LayoutConfig}
use Rattle.sheet.specs.Sheet.{Sheet, declared, decl_in, pointee_in}
use Rattle.sheet.specs.Tables.{span_start}
use Rattle.layout.specs.Arrays.{Answer}
use Rattle.layout.specs.Layouts.{answer_in}
use Rattle.components.specs.Found.{answers_in}
use Rattle.laid.specs.Statements.{Tables, offsets_of}
use Rattle.laid.proofs.OfSheet.{rows_of_sheet, type_test}
use Rattle.lower.specs.declared.QPtrOp.{QPtrOp}
use Rattle.lower.specs.Chain.{chain_by, chain_in_room}
use Rattle.lower.specs.Other.{length_by, variable_by}
use Rattle.moves.specs.Moves.{indices_in}
use Rattle.pointers.specs.OverTables.{pointee_of_row, pointee_at, chain_over}
use Rattle.joined.specs.Statements.{rows_of, PointeesOfSheet, ChainsOfSheet, LengthsOfSheet, VariablesOfSheet}

-- ---- the pointee

-- a row that is one of two, both of a type, is of that type
of_type : (b : Bool) (x y : DeclRow) (t : SpvType) → x.ty ≡ t → y.ty ≡ t → (cond b x y).ty ≡ t
of_type true x y t p q = p
of_type false x y t p q = q

row_type : (start : ℕ) (d : Decl) → (decl_row start d).ty ≡ d.type
unfolding decl_row
row_type start d = of_type (is_struct d.type) _ _ d.type refl refl

if_there : {A : Type 0} (b : Bool) (x : Result A) → cond b x (refused misread) ≡ ((refuse misread unless b) >> x)
unfolding refuse◌unless◌ ◌>>◌
if_there true x = refl
if_there false x = refl

pub pointees_of_sheet : PointeesOfSheet
unfolding pointee_at pointee_in decl_in ◌>>◌ ◌>>=◌
pointees_of_sheet s types members given room tables ptr =
    if_there (ltb ptr (length s.types)) (pointee_of_row (row_at types ptr))
    ∙ type_test s.types ptr (pointee_of_row (row_at types ptr))
    ∙ by (get_elem? s.types ptr) refl
  where
    by : (o : Option Decl) → get_elem? s.types ptr ≡ o → (declared o >> pointee_of_row (row_at types ptr)) ≡ (declared o >>= λ d. pointee_of d.type)
    by none e = refl
    by (some d) e = ap pointee_of_row (tables.row ptr d e) ∙ ap pointee_of (row_type (span_start s.types ptr) d)

-- ---- what asks for pointees and answers

module _ (s : Sheet) (types members given offsets rest : List ℕ) (tables : Tables s.types types members given (length offsets)) where
  abbrev answers : ℕ → Answer
  answers = answers_in (rows_of s types members given offsets rest) (length s.types) (offsets_of s types members given offsets) members

  abbrev pointees : ℕ → Result ℕ
  pointees = pointee_at types (length s.types)

  -- both functions are the sheet's
  of_sheet : {A : Type 0} (f : (ℕ → Result ℕ) → (ℕ → Answer) → A) → f pointees answers ≡ f (pointee_in s) (answer_in s)
  of_sheet f =
      let same_answers : ◌≡◌ {A = ℕ → Answer} answers (answer_in s) = fun_ext λ t. rows_of_sheet s types members given offsets rest tables t in
      let same_pointees : ◌≡◌ {A = ℕ → Result ℕ} pointees (pointee_in s) = fun_ext λ t. pointees_of_sheet s types members given (length offsets) tables t in
      ap (λ (p : ℕ → Result ℕ). f p answers) same_pointees ∙ ap (f (pointee_in s)) same_answers

  no_pointee : (ptr : ℕ) → length s.types ≤ ptr → pointees ptr ≡ refused misread
  unfolding pointee_at
  no_pointee ptr h = rw (le-ltb ptr (length s.types) h)

pub lengths_of_sheet : LengthsOfSheet
lengths_of_sheet s types members given offsets rest tables ptr member =
    of_sheet s types members given offsets rest tables (λ pointee-of answer-of. length_by pointee-of answer-of ptr member)

pub variables_of_sheet : VariablesOfSheet
variables_of_sheet s types members given offsets rest tables ptr =
    of_sheet s types members given offsets rest tables (λ pointee-of answer-of. variable_by pointee-of answer-of ptr)

-- ---- chains

-- what is refused anyway may be refused first
refused_anyway : {A : Type 0} (ptr n : ℕ) (x : Result A) → (n ≤ ptr → x ≡ refused misread) → ((refuse misread unless ltb ptr n) >> x) ≡ x
unfolding refuse◌unless◌ ◌>>◌
refused_anyway {A} ptr n x h = by (ltb ptr n) refl
  where
    by : (b : Bool) → ltb ptr n ≡ b → ((refuse misread unless b) >> x) ≡ x
    by true e = refl
    by false e = sym (h (ltb-false ptr n e))

nothing_in_room : (room : ℕ) (cfg : LayoutConfig) (pointee-of : ℕ → Result ℕ) (answer-of : ℕ → Answer) (op : ChainOp) (ptr : ℕ) (is : List Index) → pointee-of ptr ≡ refused misread
    → in_room room length (chain_by cfg pointee-of answer-of op ptr is) ≡ refused misread
unfolding in_room chain_by ◌>>=◌
nothing_in_room room cfg pointee-of answer-of op ptr is h = rw h

pub chains_of_sheet : ChainsOfSheet
unfolding chain_over chain_in_room refuse◌when◌ ◌>>◌
chains_of_sheet s types members given offsets rest tables room op ptr chain few =
    let lowered : (ℕ → Result ℕ) → (ℕ → Answer) → Result (List QPtrOp) = λ p a. in_room room length (chain_by s.setting p a op ptr (indices_in chain)) in
    let p = pointees s types members given offsets rest tables in
    let a = answers s types members given offsets rest tables in
    rw (le-ltb 510 (length chain) few)
    (refused_anyway ptr (length s.types) (lowered p a) (λ h. nothing_in_room room s.setting p a op ptr (indices_in chain) (no_pointee s types members given offsets rest tables ptr h))
    ∙ of_sheet s types members given offsets rest tables lowered)
