-- A number that was read, as C gets it: the number, or 4294967296, which is none of 32 bits.
use Rattle.std.specs.Prelude.{ℕ}
use Rattle.std.proofs.Math.Option.{Option, none, some}

unfoldable pub code_of : Option ℕ → ℕ
code_of (some n) = n
code_of none = 4294967296
