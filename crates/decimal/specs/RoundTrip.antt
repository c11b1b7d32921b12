-- Document 01, "The sheet": numbers without leading zeros or sign. What the contracts of `read_number`, `print_unsigned` and `print_signed` say together.
use Rattle.std.specs.Prelude.{ℕ, ◌+◌, ◌<◌, ◌≤◌, ◌≡◌, true, List, ℤ, length, Some}
use Rattle.std.proofs.Math.Seq.{slice}
use Rattle.arith.specs.Numbers.{max_u32, is_i32}
use Rattle.arith.specs.InCode.{as_option}
use Rattle.text.specs.Printed.{Printed}
use Rattle.decimal.specs.Decimal.{read_number, decimal, signed_decimal}

-- what `print_unsigned` writes of n into a slice that it fits, `read_number` reads as n
abbrev pub PrintedReads : Type 0
PrintedReads = (n : ℕ) → n ≤ max_u32 → (old new : List ℕ) (at end : ℕ) → length old < 18446744073709551616 → at + length (decimal n) ≤ length old
    → Printed (decimal n) old at end new → as_option (read_number (slice at end new)) ≡ Some n

-- what `read_number` reads as n is what `print_unsigned` writes of n
abbrev pub ReadIsPrinted : Type 0
ReadIsPrinted = (f : List ℕ) (n : ℕ) → as_option (read_number f) ≡ Some n → f ≡ decimal n

-- no two 32-bit numbers print alike, unsigned or signed
abbrev pub UnsignedApart : Type 0
UnsignedApart = (m n : ℕ) → m ≤ max_u32 → n ≤ max_u32 → decimal m ≡ decimal n → m ≡ n

abbrev pub SignedApart : Type 0
SignedApart = (y z : ℤ) → is_i32 y ≡ true → is_i32 z ≡ true → signed_decimal y ≡ signed_decimal z → y ≡ z

-- and none takes more than ten digits
abbrev pub TenDigits : Type 0
TenDigits = (n : ℕ) → n ≤ max_u32 → length (decimal n) ≤ 10
