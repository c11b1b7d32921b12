-- Signed numbers of 32 bits: their signs. Assumes nothing.
use native.Mathlib.Omega.{arith}
use mathlib.Core.Path.{◌≡◌, refl, sym, ◌∙◌}
use mathlib.Core.Bool.{true, false, true≢false, false≢true}
use mathlib.Core.List.{[], ◌∷◌, ◌++◌}
use lib.IntN.{ℤ, pos, negsuc, nat_abs}
use lib.Signed.{lt_z}
use borrow.Author.Tests.{le-ltb}
use Rattle.decimal.specs.Decimal.{dash, decimal, signed_decimal}

-- the sign
pub minus : (z : ℤ) → lt_z z (pos 0) ≡ true → signed_decimal z ≡ (dash ∷ []) ++ decimal (nat_abs z)
unfolding signed_decimal
minus (pos n) e = absurd (false≢true (sym (le-ltb n 0 (omega arith)) ∙ e))
minus (negsuc n) e = refl

pub no_minus : (z : ℤ) → lt_z z (pos 0) ≡ false → signed_decimal z ≡ decimal (nat_abs z)
unfolding signed_decimal
no_minus (pos n) e = refl
no_minus (negsuc n) e = absurd (true≢false e)
