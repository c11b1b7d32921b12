-- Document 01, "The sheet": the lines, by their first field.
use Rattle.std.specs.Prelude.{ℕ, Bool, cond, List, [], ◌∷◌, eqb, length}
use Prim.Native.Char.{code}
use Prim.Native.String.{String}
use Rattle.std.proofs.Math.Option.{Option, none, some}
use Rattle.decimal.specs.Text.{bytes, same, split}
use Rattle.spirv.specs.declared.SpvType.{SpvType}
use Rattle.spirv.specs.declared.SpvType.TheVariants as spv
use Rattle.spirv.specs.declared.MemberDecoration.{MemberDecoration}
use Rattle.spirv.specs.Decl.{Decl, plain}
use Rattle.spirv.specs.Questions.{Question}
use Rattle.shapes.specs.declared.LayoutConfig.{LayoutConfig}
use Rattle.sheet.specs.Fields.{Form, number, flag, type, number_or_s, number_or_dash, op, decoration_value, types, indices, end}

-- what a line says
pub data Line : Type 0 where
  Setting : LayoutConfig → Line
  Declared : Decl → Line
  Decorated : MemberDecoration → Line
  Asked : Question → Line

abbrev pub setting : Bool → (min bsize balign psize palign : ℕ) → Line
setting ignore min bsize balign psize palign = Setting record {
  ignore_legacy_align = ignore;
  min_aggregate_legacy_align = min;
  abstract_bool_size = bsize;
  abstract_bool_align = balign;
  logical_ptr_size = psize;
  logical_ptr_align = palign;
}

abbrev pub declare : SpvType → Line
declare t = Declared (plain t)

-- a struct of as many members as it says
abbrev pub declare_struct : Bool → ℕ → List ℕ → Option Line
declare_struct block n members =
    cond (eqb n (length members)) (some (Declared record { type = spv.Struct block; members = members; decorations = [] })) none

-- the lines below `above` types
unfoldable pub grammar : (above : ℕ) → List (String × Form Line)
grammar above =
    ("G", flag λ ignore. number λ min. number λ bsize. number λ balign. number λ psize. number λ palign. end (setting ignore min bsize balign psize palign))
    ∷ ("B", end (declare spv.Bool))
    ∷ ("I", number λ width. end (declare (spv.Int width)))
    ∷ ("F", number λ width. end (declare (spv.Float width)))
    ∷ ("V", type above λ elem. number λ len. end (declare (spv.Vector elem len)))
    ∷ ("M", type above λ column. number λ len. end (declare (spv.Matrix column len)))
    ∷ ("A", type above λ elem. number_or_s λ len. number_or_dash λ stride. end (declare (spv.Array elem len stride)))
    ∷ ("R", type above λ elem. number_or_dash λ stride. end (declare (spv.RuntimeArray elem stride)))
    ∷ ("S", flag λ block. number λ n. types above λ members. declare_struct block n members)
    ∷ ("P", number λ class. type above λ pointee. end (declare (spv.Pointer class pointee)))
    ∷ ("O", end (declare spv.Opaque))
    ∷ ("U", end (declare spv.Unsupported))
    ∷ ("D", number λ member. decoration_value λ d. end (Decorated record { member = member; decoration = d }))
    ∷ ("T", type above λ t. end (Asked (Question.T t)))
    ∷ ("E", type above λ first. type above λ second. end (Asked (Question.E first second)))
    ∷ ("Q", type above λ t. number λ start. number λ e. end (Asked (Question.Q t start e)))
    ∷ ("C", op λ o. type above λ ptr. indices λ is. some (Asked (Question.C o ptr is)))
    ∷ ("L", type above λ ptr. number λ member. end (Asked (Question.L ptr member)))
    ∷ ("X", type above λ ptr. end (Asked (Question.X ptr)))
    ∷ []

-- the form that a first field picks; any other has none
abbrev pub form_of : List (String × Form Line) → List ℕ → Form Line
form_of [] first = λ fields. none
form_of (row ∷ rows) first = cond (same first (bytes row.0)) row.1 (form_of rows first)

abbrev pub by_first : (above : ℕ) → List (List ℕ) → Option Line
by_first above [] = none
by_first above (first ∷ fields) = form_of (grammar above) first fields

-- what a line says, if it keeps its form
unfoldable pub read_line : (above : ℕ) → List ℕ → Option Line
read_line above line = by_first above (split (code ",") line)
