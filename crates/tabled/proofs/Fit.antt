-- The words of a sheet's steps fit 32 bits. Assumes nothing.
use Prim.Native.Nat.{ℕ, ◌<◌}
use native.Mathlib.Omega.{arith}
use mathlib.Core.Path.{◌≡◌, refl}
use mathlib.Core.Bool.{true}
use mathlib.Core.List.{List, [], ◌∷◌}
use lib.IntN.{ℤ, pos, negsuc}
use borrow.Author.Tests.{leb-true}
use Rattle.arith.specs.Numbers.{max_i32, is_i32}
use Rattle.sheet.specs.Statements.{All, FitsIndex}
use Rattle.spirv.specs.declared.Index.{Index}
use Rattle.spirv.specs.declared.Index.TheVariants.{Known, Unknown}
use Rattle.lower.specs.declared.QPtrOp.{QPtrOp}
use Rattle.lower.specs.declared.QPtrOp.TheVariants.{HandleArrayIndex, BufferData, Offset, DynOffset}
use Rattle.lower.specs.Statements.{FitsStep, FitSteps}
use Rattle.steps.specs.Words.{word_of, with_index, encode}
use Rattle.wire.proofs.Back.{FitWords, FitsWords}
use Rattle.longest.proofs.Steps.{Numbers}

signed_word : (z : ℤ) → is_i32 z ≡ true → word_of z < 4294967296
unfolding is_i32
signed_word (pos n) h = omega (arith, leb-true n max_i32 h)
signed_word (negsuc n) h = omega arith

with_index_lem : (kind bytes bound : ℕ) (i : Index) → kind < 4294967296 → bytes < 4294967296 → bound < 4294967296 → FitsIndex i → FitWords (with_index kind bytes bound i)
with_index_lem kind bytes bound (Known w) a b c h = record { kind = a; bytes = b; bound = c; mark = omega arith; index = omega (arith, h) }
with_index_lem kind bytes bound (Unknown v) a b c h = record { kind = a; bytes = b; bound = c; mark = omega arith; index = omega (arith, h) }

fit_words : (s : QPtrOp) → Numbers s → FitsStep s → FitsWords s
unfolding encode
fit_words (HandleArrayIndex i) n f = (with_index_lem 1 0 0 i (omega arith) (omega arith) (omega arith) n, refl)
fit_words BufferData n f = (record { kind = omega arith; bytes = omega arith; bound = omega arith; mark = omega arith; index = omega arith }, refl)
fit_words (Offset z) n f = (record { kind = omega arith; bytes = signed_word z f; bound = omega arith; mark = omega arith; index = omega arith }, f)
fit_words (DynOffset stride bound i) n f = (with_index_lem 4 stride bound i (omega arith) (omega (arith, n.0)) (omega (arith, n.1)) n.2, refl)

pub all_fit : (steps : List QPtrOp) → All Numbers steps → FitSteps steps → All FitsWords steps
all_fit [] n f = tt
all_fit (s ∷ ss) n f = (fit_words s n.0 f.0, all_fit ss n.1 f.1)
