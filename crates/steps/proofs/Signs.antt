-- A signed number of 32 bits and the word that reads as it. Assumes nothing.
use Prim.Native.Nat.{◌-◌}
use native.Mathlib.Omega.{arith}
use mathlib.Core.Path.{◌≡◌, refl, ap}
use mathlib.Core.Bool.{true}
use lib.IntN.{ℤ, pos, negsuc}
use mir.Syntax.{w32}
use mir.Val.{of_z}
use borrow.Author.Tests.{leb-true, le-leb, lt-leb}
use Rattle.arith.specs.Numbers.{max_i32, signed, is_i32}
use Rattle.steps.specs.Words.{word_of}

pub reads_as : (z : ℤ) → is_i32 z ≡ true → signed (word_of z) ≡ z
unfolding signed is_i32
reads_as (pos n) h = rw (le-leb n max_i32 (leb-true n max_i32 h))
reads_as (negsuc n) h =
    let small = leb-true n max_i32 h in
    rw (lt-leb (4294967295 - n) max_i32 (omega arith)) (ap negsuc (omega arith))

-- as the library casts it
pub as_word : (z : ℤ) → of_z w32 z ≡ word_of z
as_word (pos n) = refl
as_word (negsuc n) = omega arith
