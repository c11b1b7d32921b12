-- `digits_read` meets its contract. Assumes nothing.
use Rattle.std.proofs.Common.{◌≡◌, ℕ, ◌⊎◌, inl, inr, refl, arith}
use Rattle.std.specs.Prelude.{Some, None}
use Rattle.std.proofs.Math.Option.{Option, some, none}
use Rattle.std.proofs.lemmas.Grind.{common_steps}
use Rattle.arith.specs.InCode.{as_option}
use Rattle.digits.specs.Code.{code_of}
use Rattle.digits.proofs.digits_read.Goals as goal

cases : (o : Option ℕ) → ((as_option o ≡ None) × (code_of o ≡ 4294967296)) ⊎ ((n : ℕ) × (as_option o ≡ Some n) × (code_of o ≡ n))
unfolding code_of
cases none = inl (refl, refl)
cases (some n) = inr (n, refl, refl)

pub returns : goal.returns
returns c = grind (arith, common_steps, cases)
