-- Document 01, "Rounding is up to an alignment, a power of two": what that says of the definitions.
use Rattle.std.specs.Prelude.{ℕ, ◌*◌, ◌^◌, ◌≤◌, ◌≡◌, true, ◌↔◌}
use Rattle.arith.specs.Numbers.{max_u32, round_up, is_power_of_two}

-- r is the least multiple of a that is at least n
pub record LeastMultiple (n a r : ℕ) : Type 0 where
  pub times : ℕ
  pub multiple : r ≡ a * times
  pub above : n ≤ r
  pub least : (k : ℕ) → n ≤ a * k → r ≤ a * k

abbrev pub RoundsUp : Type 0
RoundsUp = (n a : ℕ) → 1 ≤ a → LeastMultiple n a (round_up n a)

-- the test holds of the powers of two, and of no other 32-bit number
abbrev pub PowersOfTwo : Type 0
PowersOfTwo = (a : ℕ) → a ≤ max_u32 → (is_power_of_two a ≡ true) ↔ ((k : ℕ) × (a ≡ 2 ^ k))
