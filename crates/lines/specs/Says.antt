-- What the code says of a line, and what that means: a line of the grammar, where a struct's members and a chain's indices are told by where they stand.
use Rattle.std.specs.Prelude.{ℕ, ◌+◌, ◌≡◌, List, [], ◌∷◌, ◌++◌, length, Some, None}
use Rattle.std.specs.Prelude as code
use Prim.Native.String.{String}
use Rattle.std.proofs.Math.Option.{Option, none, some}
use Rattle.std.proofs.lemmas.List.Edits.{sets}
use Rattle.decimal.specs.Text.{bytes}
use Rattle.spirv.specs.declared.SpvType.{SpvType}
use Rattle.spirv.specs.declared.Index.{Index}
use Rattle.spirv.specs.Rows.{encode_index}
use Rattle.spirv.specs.Questions.{Question}
use Rattle.sheet.specs.Fields.{read_type, read_index, read_all}
use Rattle.sheet.specs.Grammar.{Line, Setting, Declared, Decorated, Asked, grammar, form_of}
use Rattle.fields.specs.Pieces.{behind}
use Rattle.lines.specs.declared.Ask.{Ask}
use Rattle.lines.specs.declared.Ask.TheVariants as ask
use Rattle.lines.specs.declared.SheetLine.{SheetLine}
use Rattle.lines.specs.declared.SheetLine.TheVariants as says

-- ---- questions

-- how many indices a question has, and the question with them
abbrev pub count_of : Ask → ℕ
count_of (ask.T t) = 0
count_of (ask.E a b) = 0
count_of (ask.Q t start end) = 0
count_of (ask.C op ptr n) = n
count_of (ask.L ptr member) = 0
count_of (ask.X ptr) = 0

abbrev pub question_of : Ask → List Index → Question
question_of (ask.T t) is = Question.T t
question_of (ask.E a b) is = Question.E a b
question_of (ask.Q t start end) is = Question.Q t start end
question_of (ask.C op ptr n) is = Question.C op ptr is
question_of (ask.L ptr member) is = Question.L ptr member
question_of (ask.X ptr) is = Question.X ptr

-- ---- lines

-- a declaration of this type, with this many members, which are the fields behind index `at`
pub record Declares (above : ℕ) (line : List ℕ) (t : SpvType) (n at : ℕ) (o : Option Line) : Type 0 where
  pub members : List ℕ
  pub read : read_all (read_type above) (behind line at) ≡ some members
  pub count : length members ≡ n
  pub told : o ≡ some (Declared record { type = t; members = members; decorations = [] })

-- a question whose indices are the fields behind index `at`
pub record Asks (line : List ℕ) (a : Ask) (at : ℕ) (o : Option Line) : Type 0 where
  pub indices : List Index
  pub read : read_all read_index (behind line at) ≡ some indices
  pub count : length indices ≡ count_of a
  pub told : o ≡ some (Asked (question_of a indices))

-- the answer for a line says what the grammar does, below `above` types
abbrev pub Says : (above : ℕ) → List ℕ → code.Option SheetLine → Option Line → Type 0
Says above line (Some (says.Setting g)) o = o ≡ some (Setting g)
Says above line (Some (says.Declared t n at)) o = Declares above line t n at o
Says above line (Some (says.Decorated d)) o = o ≡ some (Decorated d)
Says above line (Some (says.Asked a at)) o = Asks line a at o
Says above line None o = o ≡ none

-- the same of the form that a first field picks, for the fields behind it
abbrev pub SaysAs : (above : ℕ) → String → List ℕ → ℕ → code.Option SheetLine → Type 0
SaysAs above tag line e r = Says above line r (form_of (grammar above) (bytes tag) (behind line e))

-- ---- all fields that are left

-- n fields, and those that are read
unfoldable pub counted_from : {A : Type 0} → ℕ → Option (List A) → code.Option ℕ
counted_from n none = None
counted_from n (some read) = Some (n + length read)

-- the words of indices
abbrev pub index_words : List Index → List ℕ
index_words [] = []
index_words (i ∷ is) = encode_index i ++ index_words is

-- the indices that are read stand in front of what the list held
pub record Stored (o : Option (List Index)) (old new : List ℕ) : Type 0 where
  pub words : (is : List Index) → o ≡ some is → new ≡ sets old 0 (index_words is)
