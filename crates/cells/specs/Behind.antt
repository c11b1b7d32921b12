-- Document 01, program `lay`: the text of an answer line as it is printed, its first field, each further one behind a comma, then LF.
use Rattle.std.specs.Prelude.{ℕ, ◌≡◌, List, [], ◌∷◌, ◌++◌}
use Prim.Native.Char.{code}
use Rattle.answers.specs.Lines.{AnswerLine}
use Rattle.answers.specs.Output.{printed}

-- each field behind a comma
unfoldable pub behind : AnswerLine → List ℕ
behind [] = []
behind (f ∷ fs) = (code "," ∷ f) ++ behind fs

abbrev pub LineIs : Type 0
LineIs = (f : List ℕ) (fs : AnswerLine) → printed (f ∷ fs) ≡ f ++ (behind fs ++ (code "\n" ∷ []))
