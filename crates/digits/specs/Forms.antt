-- Document 02, c: each 32-bit number, signed for a step's bytes, prints as its one decimal form without leading zeros, and unsigned ones read back
-- as themselves. The form is said by its digits alone, not by what prints or reads it.
use Rattle.std.specs.Prelude.{ℕ, suc, ◌≤◌, ◌≡◌, true, List, ◌∷◌, ◌↔◌, ℤ, pos, negsuc}
use Rattle.std.proofs.Math.Option.{some}
use Rattle.arith.specs.Numbers.{max_u32, is_i32}
use Rattle.decimal.specs.Decimal.{dash, all_digits, well_begun, spelled, read_number, decimal, signed_decimal}

-- the digits of n: at least one, the first `0` only where it is alone, and they spell n
pub record DigitsOf (text : List ℕ) (n : ℕ) : Type 0 where
  pub begun : well_begun text ≡ true
  pub digits : all_digits text ≡ true
  pub spell : spelled 0 text ≡ n

-- of a number below 0, −(n + 1), a sign and the digits of n + 1
abbrev pub SignedForm : List ℕ → ℤ → Type 0
SignedForm text (pos n) = DigitsOf text n
SignedForm text (negsuc n) = (digits : List ℕ) × (text ≡ dash ∷ digits) × DigitsOf digits (suc n)

-- for every 32-bit number the one text that has its form is the printed one, and that is the one text that reads as it
abbrev pub Unsigned : Type 0
Unsigned = (n : ℕ) → n ≤ max_u32 → (text : List ℕ) → (DigitsOf text n ↔ (text ≡ decimal n)) × ((read_number text ≡ some n) ↔ (text ≡ decimal n))

-- for every signed one
abbrev pub Signed : Type 0
Signed = (z : ℤ) → is_i32 z ≡ true → (text : List ℕ) → SignedForm text z ↔ (text ≡ signed_decimal z)
