-- What the code on i32 asks of whole numbers: what fits, and how a word reads.
--     products_fit                 the product of a u32 and an i32 fits an i64
--     held_fits, fitting, some_i32 what fits signed 32 bits, and a checked operation's answer
--     read_signed                  a word as the definitions read it
-- `mag z` is n both for n and for −(n + 1), so a signed range is one bound on it. Assumes nothing.
use Prim.Native.Nat.{ℕ, zero, suc, ◌*◌, ◌-◌, ◌≤◌, ◌<◌}
use native.Mathlib.Nat.{mul-le-mul_left}
use native.Mathlib.Omega.{arith}
use mathlib.Core.Path.{◌≡◌, refl, ap, ◌∙◌}
use mathlib.Core.Bool.{Bool, true, false, cond}
use lib.Dec.{leb}
use lib.IntN.{ℤ, pos, negsuc, neg_ℤ, ◌*ℤ◌}
use lib.Signed.{mag}
use mir.Syntax.{w32, w64}
use mir.Val.{SFits, to_z, of_z}
use mir.ValLaws.{to_z-of_z}
use mir.ValLaws.{to_z_pos}
use borrow.Author.Tests.{le-ltb, le-leb, leb-true, leb-false}
use Rattle.std.specs.Prelude.{Option, Some, None, SomeIff, Ok, Err, OkIff}
use Rattle.std.specs.Prelude as std
use Rattle.std.specs.Result.{result_ok}
use Rattle.arith.specs.Numbers.{max_i32, is_i32, signed}
use Rattle.arith.specs.InCode.{as_i32}

-- ---- sizes

mag_product : (s : ℕ) (z : ℤ) → mag (pos s *ℤ z) ≤ s * suc (mag z)
mag_product s (pos n) = mul-le-mul_left s (omega arith)
mag_product s (negsuc n) = mag_neg (s * suc n)
  where
    mag_neg : (n : ℕ) → mag (neg_ℤ (pos n)) ≤ n
    mag_neg zero = omega arith
    mag_neg (suc n) = omega arith

-- ---- an i64 holds what the code computes

pub wider : {z : ℤ} → SFits w32 z → SFits w64 z
wider h = record { sfits = omega (arith, h.sfits) }

pub cast_back : (z : ℤ) → SFits w32 z → to_z w32 (of_z w32 z) ≡ z
cast_back z h = to_z-of_z w32 z h

pub widened : (z : ℤ) → SFits w32 z → to_z w64 (of_z w64 (to_z w32 (of_z w32 z))) ≡ z
widened z h = ap (λ (y : ℤ). to_z w64 (of_z w64 y)) (to_z-of_z w32 z h) ∙ to_z-of_z w64 z (wider h)

pub word_widened : (n : ℕ) → n < 4294967296 → to_z w64 (of_z w64 (pos n)) ≡ pos n
word_widened n h = to_z-of_z w64 (pos n) record { sfits = omega arith }

pub products_fit : (s : ℕ) (z : ℤ) → s < 4294967296 → SFits w32 z → SFits w64 (pos s *ℤ z)
products_fit s z hs hz =
    let small : suc (mag z) ≤ 2147483648 = hz.sfits in
    let up : s * suc (mag z) ≤ s * 2147483648 = mul-le-mul_left s small in
    record { sfits = omega (arith, mag_product s z) }

-- ---- what fits signed 32 bits

-- what an i32 holds fits signed 32 bits
pub held_fits : (z : ℤ) → SFits w32 z → is_i32 z ≡ true
unfolding is_i32
held_fits (pos n) h = le-leb n max_i32 (omega (arith, h.sfits))
held_fits (negsuc n) h = le-leb n max_i32 (omega (arith, h.sfits))

pub fitting : (z : ℤ) → is_i32 z ≡ true → SFits w32 z
unfolding is_i32
fitting (pos n) h = record { sfits = omega (arith, leb-true n max_i32 h) }
fitting (negsuc n) h = record { sfits = omega (arith, leb-true n max_i32 h) }

-- a number that a checked operation of signed 32 bits gives, or none
pub some_i32 : (z : ℤ) (o : Option ℤ) → SomeIff o (SFits w32 z) z → o ≡ as_i32 z
unfolding as_i32
some_i32 z None h = by (is_i32 z) refl
  where
    by : (t : Bool) → is_i32 z ≡ t → None ≡ cond t (Some z) None
    by true e = absurd (h (fitting z e))
    by false e = refl
some_i32 z (Some y) h = rw (held_fits z h.0) (rw h.1 refl)

-- a word reads as the number that the definitions say
pub read_signed : (w : ℕ) → to_z w32 w ≡ signed w
unfolding signed
read_signed w = by (leb w max_i32) refl
  where
    by : (t : Bool) → leb w max_i32 ≡ t → to_z w32 w ≡ cond t (pos w) (negsuc (4294967295 - w))
    by true e = to_z_pos w32 w (omega (arith, leb-true w max_i32 e))
    by false e = rw (le-ltb w 2147483648 (omega (arith, leb-false w max_i32 e))) (ap negsuc (omega arith))

-- a number that a conversion gives, or an error
pub ok_i32 : {E : Type 0} (z : ℤ) (r : std.Result ℤ E) → OkIff r (SFits w32 z) z → result_ok r ≡ as_i32 z
ok_i32 z (Ok y) h = some_i32 z (Some y) h
ok_i32 z (Err e) h = some_i32 z None h
