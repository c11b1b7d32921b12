-- Document 01, "The sheet": numbers without leading zeros or sign. What that says of reading and printing: each number has one form.
use Rattle.std.specs.Prelude.{ℕ, ◌≤◌, ◌≡◌, List}
use Rattle.std.proofs.Math.Option.{some}
use Rattle.arith.specs.Numbers.{max_u32}
use Rattle.decimal.specs.Decimal.{read_number, decimal}

-- each 32-bit number reads back from its printed form
abbrev pub ReadsBack : Type 0
ReadsBack = (n : ℕ) → n ≤ max_u32 → read_number (decimal n) ≡ some n

-- what reads as a number is that number's printed form, and fits 32 bits
pub record Form (text : List ℕ) (n : ℕ) : Type 0 where
  pub printed : text ≡ decimal n
  pub fits : n ≤ max_u32

abbrev pub OneForm : Type 0
OneForm = (text : List ℕ) (n : ℕ) → read_number text ≡ some n → Form text n
