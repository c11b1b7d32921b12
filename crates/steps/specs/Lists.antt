-- The steps that five lists of words hold, one list for each word of a step.
use Rattle.std.specs.Prelude.{ℕ, zero, suc, ◌≡◌, Bool, true, ◌&&◌, List, [], ◌∷◌, ◌++◌, map, length, get_or}
use Rattle.lower.specs.declared.QPtrOp.{QPtrOp}
use Rattle.steps.specs.declared.StepWords.{StepWords}
use Rattle.steps.specs.Words.{encode, decode, offset_fits}

module _ (kinds bytes bounds marks indices : List ℕ) where
  unfoldable pub step_at : ℕ → QPtrOp
  step_at j = decode record {
    kind = get_or kinds j 0;
    bytes = get_or bytes j 0;
    bound = get_or bounds j 0;
    mark = get_or marks j 0;
    index = get_or indices j 0;
  }

  -- the first n
  unfoldable pub steps_in : ℕ → List QPtrOp
  steps_in zero = []
  steps_in (suc n) = steps_in n ++ (step_at n ∷ [])

-- ---- steps whose words stand in front of five lists are those that the lists hold

abbrev pub column : (StepWords → ℕ) → List QPtrOp → List ℕ
column word steps = map (λ s. word (encode s)) steps

abbrev pub offsets_fit : List QPtrOp → Bool
offsets_fit [] = true
offsets_fit (s ∷ ss) = offset_fits s && offsets_fit ss

abbrev pub ListsReadBack : Type 0
ListsReadBack = (steps : List QPtrOp) → offsets_fit steps ≡ true → (a b c d e : List ℕ)
    → steps_in (column (λ w. w.kind) steps ++ a) (column (λ w. w.bytes) steps ++ b) (column (λ w. w.bound) steps ++ c)
    (column (λ w. w.mark) steps ++ d) (column (λ w. w.index) steps ++ e) (length steps) ≡ steps
