-- What C gets of an answer: one number.
use Rattle.std.specs.Prelude.{ℕ, ◌<◌, ℤ, pos, neg_ℤ, Ok, Err}
use Rattle.arith.specs.InCode.{OrRefusal}

-- a number of bytes, types, steps or words, or minus the number of the refusal
abbrev pub code_of : OrRefusal ℕ → ℤ
code_of (Ok n) = pos n
code_of (Err e) = neg_ℤ (pos e.number)

-- a number that some list can have
abbrev pub Small : OrRefusal ℕ → Type 0
Small (Ok n) = n < 9223372036854775808
Small (Err e) = Unit {0}
