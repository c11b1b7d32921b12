-- Document 01, "The sheet": program `lay` writes a line per question, or one refusal line for a bad sheet.
use Rattle.std.specs.Prelude.{ℕ, List, [], ◌∷◌, ◌++◌}
use Prim.Native.Char.{code}
use Rattle.arith.specs.Refusals.{Result, ok, refused}
use Rattle.spirv.specs.Questions.{Question}
use Rattle.sheet.specs.Sheet.{Sheet, read_sheet}
use Rattle.answers.specs.Lines.{AnswerLine, answer, result_line}

-- fields parted by commas, ended by LF
unfoldable pub printed : AnswerLine → List ℕ
printed [] = code "\n" ∷ []
printed (f ∷ []) = f ++ (code "\n" ∷ [])
printed (f ∷ g ∷ gs) = f ++ (code "," ∷ printed (g ∷ gs))

-- the text of a result
abbrev pub text_of : Result AnswerLine → List ℕ
text_of r = printed (result_line r)

-- a line per question
unfoldable pub lines_by : (answer-of : Question → Result AnswerLine) → List Question → List ℕ
lines_by answer-of [] = []
lines_by answer-of (q ∷ qs) = text_of (answer-of q) ++ lines_by answer-of qs

abbrev pub answer_lines : Sheet → List Question → List ℕ
answer_lines s qs = lines_by (answer s) qs

abbrev pub output_of : Result Sheet → List ℕ
output_of (ok s) = answer_lines s s.questions
output_of (refused n) = text_of (refused n)

-- what `lay` writes for the bytes that it reads
unfoldable pub lay_output : List ℕ → List ℕ
lay_output input = output_of (read_sheet input)
