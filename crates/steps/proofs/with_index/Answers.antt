-- `steps::with_index` meets its contract: the two words of an index. Assumes nothing.
use Rattle.spirv.specs.declared.Index.{Index}
use Rattle.spirv.specs.declared.Index.TheVariants.{Known, Unknown}
use Rattle.std.proofs.Common.{◌≡◌, ℕ, get_or, refl}
use Rattle.spirv.specs.Rows.{encode_index}
use Rattle.steps.specs.Words.{with_index}
use Rattle.steps.specs.declared.StepWords.{StepWords}
use Rattle.steps.proofs.with_index.Goals as goal

by_index : (kind bytes bound : ℕ) (i : Index) → ◌≡◌ {A = StepWords} record { kind = kind; bytes = bytes; bound = bound; mark = get_or (encode_index i) 1 0; index = get_or (encode_index i) 0 0 } (with_index kind bytes bound i)
unfolding encode_index
by_index kind bytes bound (Known w) = refl
by_index kind bytes bound (Unknown v) = refl

pub returns : goal.returns
returns c = rw c.encode_index.ensures (by_index _ _ _ _)
