-- The questions of a text from places in it, computed from the definitions. Assumes nothing.
use mathlib.Core.Path.{◌≡◌, refl}
use mathlib.Core.List.{[], ◌∷◌, map}
use Rattle.decimal.specs.Text.{bytes}
use Rattle.spirv.specs.declared.Index.TheVariants.{Known, Unknown}
use Rattle.spirv.specs.declared.ChainOp.TheVariants.{AccessChain}
use Rattle.spirv.specs.Questions.{Question}
use Rattle.sheet.proofs.Opened.{opened}
use Rattle.asking.specs.Questions.{questions_in, questions_from}

-- from the start, from the line behind the first question, behind the last LF, and past the end; the last line has no end
questions : map (questions_from (bytes "G,1,1,1,1,1,1\nF,32\nT,0\nP,12,0\nC,65,1,7,v9\nX,1")) (0 ∷ 23 ∷ 42 ∷ 99 ∷ [])
    ≡ (Question.T 0 ∷ Question.C AccessChain 1 (Known 7 ∷ Unknown 9 ∷ []) ∷ [])
    ∷ (Question.C AccessChain 1 (Known 7 ∷ Unknown 9 ∷ []) ∷ [])
    ∷ []
    ∷ []
    ∷ []
unfolding opened questions_from questions_in
questions = refl
