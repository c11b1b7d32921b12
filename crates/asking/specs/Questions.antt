-- The questions of a sheet from a place on: those that the lines behind it ask, in their order.
use Rattle.std.specs.Prelude.{ℕ, ◌*◌, ◌≤◌, ◌<◌, ◌≡◌, List, [], ◌∷◌, ◌++◌, length, drop, Some, None, Ok, Err}
use Rattle.std.specs.Prelude as std
use Rattle.std.proofs.Math.Option.{Option, none, some}
use Rattle.arith.specs.Numbers.{max_u32}
use Rattle.arith.specs.Refusals.{ok, short_list}
use Rattle.arith.specs.InCode.{OrRefusal}
use Rattle.decimal.specs.Text.{split}
use Rattle.spirv.specs.declared.Index.{Index}
use Rattle.spirv.specs.Questions.{Question}
use Rattle.sheet.specs.Fields.{read_index, read_all}
use Rattle.sheet.specs.Grammar.{Line, Setting, Declared, Decorated, Asked, read_line}
use Rattle.sheet.specs.Sheet.{Sheet, read_sheet, index_count, max_indices}
use Rattle.sheet.specs.Statements.{All}
use Rattle.sheet.specs.Tables.{over}
use Rattle.fields.specs.Pieces.{behind}
use Rattle.lines.specs.declared.Ask.{Ask}
use Rattle.lines.specs.Says.{count_of, question_of, Asks, index_words}
use Rattle.asking.specs.declared.Question as code

-- ---- the questions from a place on

-- a number above those of all types: what a line of a sheet that was read refers to is there
abbrev pub any_type : ℕ
any_type = max_u32

abbrev pub question_in : Line → List Question
question_in (Setting g) = []
question_in (Declared d) = []
question_in (Decorated d) = []
question_in (Asked q) = q ∷ []

abbrev pub asked_in : Option Line → List Question
asked_in none = []
asked_in (some l) = question_in l

-- what the pieces between the LFs ask; what follows the last LF is no line
unfoldable pub questions_in : List (List ℕ) → List Question
questions_in [] = []
questions_in (last ∷ []) = []
questions_in (line ∷ more ∷ rest) = asked_in (read_line any_type line) ++ questions_in (more ∷ rest)

unfoldable pub questions_from : List ℕ → ℕ → List Question
questions_from sheet at = questions_in (split 10 (drop at sheet))

-- ---- one question

-- what a line is found to ask
abbrev pub Finds : List ℕ → std.Option (Ask × ℕ) → Option Line → Type 0
Finds line (Some found) o = Asks line found.0 found.1 o
Finds line None o = asked_in o ≡ []

-- a question's indices, read from the fields behind index `at` of a line and written, or a list that is too short for them
pub record Handed (line : List ℕ) (a : Ask) (at k : ℕ) (b : Ask) (n : ℕ) (old new : List ℕ) : Type 0 where
  pub question : b ≡ a
  pub place : n ≡ k
  pub list : (is : List Index) → read_all read_index (behind line at) ≡ some is → length is ≡ count_of a → new ≡ over (index_words is) old

abbrev pub Hands : List ℕ → Ask → ℕ → ℕ → OrRefusal code.Question → (old new : List ℕ) → Type 0
Hands line a at k (Ok q) old new = Handed line a at k q.ask q.next old new
Hands line a at k (Err e) old new = (e.number ≡ short_list) × (length old < 2 * count_of a) × (new ≡ old)

-- the question a is the first of those from `at` on, those behind it are those from n on, and its indices stand in the list
pub record Next (sheet : List ℕ) (at : ℕ) (a : Ask) (n : ℕ) (old new : List ℕ) : Type 0 where
  pub indices : List Index
  pub count : length indices ≡ count_of a
  pub first : questions_from sheet at ≡ question_of a indices ∷ questions_from sheet n
  pub list : new ≡ over (index_words indices) old
  pub later : at < n
  pub within : n ≤ length sheet

-- the list is too short for the indices of the first question, and as it was
pub record Short (sheet : List ℕ) (at : ℕ) (old new : List ℕ) : Type 0 where
  pub question : Question
  pub rest : List Question
  pub first : questions_from sheet at ≡ question ∷ rest
  pub longer : length old < 2 * index_count question
  pub list : new ≡ old

pub record Ended (sheet : List ℕ) (at : ℕ) (old new : List ℕ) : Type 0 where
  pub none : questions_from sheet at ≡ []
  pub list : new ≡ old

abbrev pub Steps : (sheet : List ℕ) (at : ℕ) → OrRefusal (std.Option code.Question) → (old new : List ℕ) → Type 0
Steps sheet at (Ok (Some q)) old new = Next sheet at q.ask q.next old new
Steps sheet at (Ok None) old new = Ended sheet at old new
Steps sheet at (Err e) old new = (e.number ≡ short_list) × Short sheet at old new

-- ---- of a sheet that is read, the questions from its start on are its questions, and a list of 510 words is never too short for one of them

pub record RunThrough (input : List ℕ) (s : Sheet) : Type 0 where
  pub questions : questions_from input 0 ≡ s.questions
  pub few : All (λ q. index_count q ≤ max_indices) s.questions

abbrev pub RunsThrough : Type 0
RunsThrough = (input : List ℕ) (s : Sheet) → read_sheet input ≡ ok s → RunThrough input s

abbrev pub AlwaysSuffices : Type 0
AlwaysSuffices = (sheet : List ℕ) (at : ℕ) (old new : List ℕ) → All (λ q. index_count q ≤ max_indices) (questions_from sheet at) → 510 ≤ length old → Short sheet at old new → ⊥
