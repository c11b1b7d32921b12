-- Results as the code gives them: a value, or the refusal; and a number that fits signed 32 bits, or none.
use Rattle.std.specs.Prelude.{ℕ, cond, ℤ, Option, Some, None, Ok, Err}
use Rattle.std.specs.Prelude as std
use Rattle.std.proofs.Math.Option as option
use Rattle.arith.specs.Refusals.{Result, ok, refused}
use Rattle.arith.specs.Numbers.{is_i32}
use Rattle.arith.specs.declared.refusal.Refusal.{Refusal}

-- a value of the code's, or the refusal
abbrev pub OrRefusal : Type 0 → Type 0
OrRefusal A = std.Result A Refusal

abbrev pub err : {A : Type 0} → ℕ → OrRefusal A
err n = Err record { number = n }

abbrev pub in_code : {A : Type 0} → Result A → OrRefusal A
in_code (ok a) = Ok a
in_code (refused n) = err n

-- a value or none
abbrev pub as_option : {A : Type 0} → option.Option A → Option A
as_option option.none = None
as_option (option.some a) = Some a

-- z, where it fits signed 32 bits
unfoldable pub as_i32 : ℤ → Option ℤ
as_i32 z = cond (is_i32 z) (Some z) None
