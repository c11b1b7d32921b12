-- Powers of two, and what rounding does to them. Assumes nothing.
use Prim.Native.Nat.{ℕ, zero, suc, ◌+◌, ◌-◌, ◌*◌, ◌/◌, ◌%◌, ◌^◌, ◌≤◌, max}
use native.Mathlib.Nat.{pow-succ', pow-le-pow_right}
use native.Mathlib.Omega.{arith}
use mathlib.Core.Path.{◌≡◌, refl, ap}
use mathlib.Core.Bool.{Bool, true, false, ◌||◌}
use lib.Dec.{eqb, leb}
use lib.Pow.{pow_pos}
use borrow.Author.Tests.{eqb-true, eqb-false, leb-true, leb-false}
use native.Mathlib.Decide.{dec_le}
use Rattle.arith.specs.Numbers.{max_u32, round_up, is_power_up_to, is_power_of_two}
use Rattle.arith.specs.Statements.{PowersOfTwo}

abbrev pub Pow2 : ℕ → Type 0
Pow2 p = (k : ℕ) × (p ≡ 2 ^ k)

pub pow_one : (p : ℕ) → Pow2 p → 1 ≤ p
pow_one p h = rw h.1 (pow_pos h.0)

-- rounding a power of two up to a multiple of 16 is taking the larger
pub pow_round : (p : ℕ) → Pow2 p → round_up p 16 ≡ max p 16
unfolding round_up
pow_round p (k, e) = rw e (by k)
  where
    by : (k : ℕ) → 2 ^ k + (16 - 2 ^ k % 16) % 16 ≡ max (2 ^ k) 16
    by zero = refl
    by (suc zero) = refl
    by (suc (suc zero)) = refl
    by (suc (suc (suc zero))) = refl
    by (suc (suc (suc (suc j)))) =
        let x = 2 ^ j in
        let e : 2 ^ suc (suc (suc (suc j))) ≡ 16 * 2 ^ j = rw (pow-succ', pow-succ', pow-succ', pow-succ') (omega arith) in
        let one : 1 ≤ 2 ^ j = pow_pos j in
        rw e (omega arith)

pub pow_max : (a b : ℕ) → Pow2 a → Pow2 b → Pow2 (max a b)
pow_max a b p q = by_test (leb a b) refl
  where
    by_test : (t : Bool) → leb a b ≡ t → Pow2 (max a b)
    by_test true e = (q.0, omega (arith, leb-true a b e, q.1))
    by_test false e = (p.0, omega (arith, leb-false a b e, p.1))

pub pow_twice : (n : ℕ) → Pow2 n → Pow2 (2 * n)
pow_twice n (k, e) = (suc k, rw (e, pow-succ'))

-- the test is right
power_up_to : (n a : ℕ) → is_power_up_to n a ≡ true → Pow2 a
power_up_to zero a h = (0, eqb-true a 1 h)
power_up_to (suc n) a h = by_test (power_up_to n a) (eqb a (2 ^ suc n)) refl h
  where
    by_test : (is_power_up_to n a ≡ true → Pow2 a) → (t : Bool) → eqb a (2 ^ suc n) ≡ t → t || is_power_up_to n a ≡ true → Pow2 a
    by_test ih true e g = (suc n, eqb-true a (2 ^ suc n) e)
    by_test ih false e g = ih g

pub power : (a : ℕ) → is_power_of_two a ≡ true → Pow2 a
unfolding is_power_of_two
power a h = power_up_to 31 a h

-- the bytes of a width that is a power of two from 8
pub pow_width : (w : ℕ) → 8 ≤ w → Pow2 w → Pow2 (w / 8)
pow_width v h (zero, q) = absurd (omega arith)
pow_width v h (suc zero, q) = absurd (omega arith)
pow_width v h (suc (suc zero), q) = absurd (omega arith)
pow_width v h (suc (suc (suc j)), q) =
    let f : 2 ^ suc (suc (suc j)) ≡ 8 * 2 ^ j = rw (pow-succ', pow-succ', pow-succ') (omega arith) in
    (j, omega (arith, f, q))

-- and every power of two up to 2 to the power of n passes it
up_to_power : (n k : ℕ) → k ≤ n → is_power_up_to n (2 ^ k) ≡ true
up_to_power zero k h = let z : k ≡ 0 = omega arith in rw z
up_to_power (suc n) k h = by_test (eqb (2 ^ k) (2 ^ suc n)) refl (up_to_power n)
  where
    by_test : (t : Bool) → eqb (2 ^ k) (2 ^ suc n) ≡ t → ((k : ℕ) → k ≤ n → is_power_up_to n (2 ^ k) ≡ true) → t || is_power_up_to n (2 ^ k) ≡ true
    by_test true e ih = refl
    by_test false e ih = ih k (le_of_ne (λ (z : k ≡ suc n). eqb-false (2 ^ k) (2 ^ suc n) e (ap (λ (i : ℕ). 2 ^ i) z)))
      where
        le_of_ne : (k ≡ suc n → ⊥) → k ≤ n
        le_of_ne f = by_order (dec_le k n)
          where
            by_order : Dec (k ≤ n) → k ≤ n
            by_order (yes l) = l
            by_order (no g) = absurd (f (omega arith))

-- a power of two that fits 32 bits is at most 2 to the power of 31
exponent : (k : ℕ) → 2 ^ k ≤ max_u32 → k ≤ 31
exponent k h = by_order (dec_le k 31)
  where
    by_order : Dec (k ≤ 31) → k ≤ 31
    by_order (yes l) = l
    by_order (no g) = let l : 32 ≤ k = omega arith in absurd (omega (arith, pow-le-pow_right {n = 2} (omega arith) l))

pub powers_of_two : PowersOfTwo
unfolding is_power_of_two
powers_of_two a h = (λ t. power a t, λ p. rw p.1 (up_to_power 31 p.0 (exponent p.0 (omega (arith, p.1)))))
