-- A number that was read, and one digit more.
use Rattle.std.specs.Prelude.{ℕ, ◌+◌, ◌-◌, ◌*◌, cond, ◌&&◌, leb}
use Rattle.std.proofs.Math.Option.{Option, none, some}
use Rattle.arith.specs.Numbers.{max_u32}
use Rattle.decimal.specs.Decimal.{digit_0, digit_9}

-- v with the digit b behind it, where that fits 32 bits
unfoldable pub with_digit : ℕ → ℕ → Option ℕ
with_digit v b = cond (leb digit_0 b && (leb b digit_9 && leb (v * 10 + (b - digit_0)) max_u32)) (some (v * 10 + (b - digit_0))) none
