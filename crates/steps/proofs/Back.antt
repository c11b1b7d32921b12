-- Steps are read back from their words, one and all. Assumes nothing.
use Prim.Native.Nat.{ℕ, zero, suc, ◌<◌, ◌≤◌}
use native.Mathlib.Omega.{arith}
use mathlib.Core.Path.{◌≡◌, refl, sym, ap, ◌∙◌}
use mathlib.Core.Bool.{true}
use mathlib.Core.List.{List, [], ◌∷◌, ◌++◌}
use lib.ListN.{length, take, get_or}
use lib.Seq.{take-suc, take-length}
use Rattle.spirv.specs.declared.Index.TheVariants.{Known, Unknown}
use Rattle.lower.specs.declared.QPtrOp.{QPtrOp}
use Rattle.lower.specs.declared.QPtrOp.TheVariants.{HandleArrayIndex, BufferData, Offset, DynOffset}
use Rattle.arith.proofs.Results.{first_true, second_true}
use Rattle.steps.specs.declared.StepWords.{StepWords}
use Rattle.steps.specs.Words.{encode, decode, offset_fits, ReadsBack}
use Rattle.steps.specs.Lists.{step_at, steps_in, column, offsets_fit, ListsReadBack}
use Rattle.steps.proofs.Signs.{reads_as}

pub reads_back : ReadsBack
unfolding encode decode
reads_back (HandleArrayIndex (Known w)) h = refl
reads_back (HandleArrayIndex (Unknown v)) h = refl
reads_back BufferData h = refl
reads_back (Offset z) h = ap Offset (reads_as z h)
reads_back (DynOffset stride bound (Known w)) h = refl
reads_back (DynOffset stride bound (Unknown v)) h = refl

-- ---- lists

fits_at : (steps : List QPtrOp) (j : ℕ) → offsets_fit steps ≡ true → offset_fits (get_or steps j BufferData) ≡ true
fits_at [] j h = refl
fits_at (s ∷ ss) zero h = first_true (offset_fits s) (offsets_fit ss) h
fits_at (s ∷ ss) (suc j) h = fits_at ss j (second_true (offset_fits s) (offsets_fit ss) h)

in_column : (word : StepWords → ℕ) (steps : List QPtrOp) (rest : List ℕ) (j : ℕ) → j < length steps
    → get_or (column word steps ++ rest) j 0 ≡ word (encode (get_or steps j BufferData))
in_column word [] rest j h = absurd (omega arith)
in_column word (s ∷ ss) rest zero h = refl
in_column word (s ∷ ss) rest (suc j) h = in_column word ss rest j (omega arith)

module _ (steps : List QPtrOp) (h : offsets_fit steps ≡ true) (a b c d e : List ℕ) where
  step_back : (j : ℕ) → j < length steps
      → step_at (column (λ w. w.kind) steps ++ a) (column (λ w. w.bytes) steps ++ b) (column (λ w. w.bound) steps ++ c)
      (column (λ w. w.mark) steps ++ d) (column (λ w. w.index) steps ++ e) j ≡ get_or steps j BufferData
  unfolding step_at
  step_back j g =
      rw (in_column (λ w. w.kind) steps a j g, in_column (λ w. w.bytes) steps b j g, in_column (λ w. w.bound) steps c j g, in_column (λ w. w.mark) steps d j g, in_column (λ w. w.index) steps e j g)
      (reads_back (get_or steps j BufferData) (fits_at steps j h))

  first_back : (n : ℕ) → n ≤ length steps
      → steps_in (column (λ w. w.kind) steps ++ a) (column (λ w. w.bytes) steps ++ b) (column (λ w. w.bound) steps ++ c)
      (column (λ w. w.mark) steps ++ d) (column (λ w. w.index) steps ++ e) n ≡ take n steps
  unfolding steps_in
  first_back zero g = refl
  first_back (suc n) g = rw (first_back n (omega arith), step_back n (omega arith)) (sym (take-suc steps n BufferData (omega arith)))

pub lists_read_back : ListsReadBack
lists_read_back steps h a b c d e = first_back steps h a b c d e (length steps) (omega arith) ∙ take-length steps
