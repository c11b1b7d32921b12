-- Laws of `fit` and of signed 32 bits as the code gives them, of rounding up to 0, and the bound on a product. Assumes nothing.
use Prim.Native.Nat.{ℕ, ◌+◌, ◌-◌, ◌*◌, ◌%◌, ◌^◌, ◌<◌, ◌≤◌}
use mathlib.Core.Path.{◌≡◌, refl, ap, subst⁻¹}
use mathlib.Core.Bool.{Bool, true, false, cond}
use native.Mathlib.Nat.{mod-zero, lt_of_le_of_lt, mul-le-mul_left, mul-lt-mul_of_pos_right, le_of_lt}
use native.Mathlib.Omega.{arith}
use lib.IntN.{ℤ}
use lib.Pow.{pow_pos, pow-add}
use borrow.Author.Tests.{le-leb, lt-leb}
use Rattle.arith.specs.Refusals.{Result, ok, refused, overflow}
use Rattle.arith.specs.Numbers.{max_u32, fit, round_up, is_i32}
use Rattle.arith.specs.InCode.{OrRefusal, in_code, err, as_option, as_i32}
use Rattle.std.specs.Prelude.{Option, Some, None, Ok, Err, SomeIff, ok_or}
use Rattle.std.proofs.Math.Option as option

pub fit_fits : {n : ℕ} → n ≤ max_u32 → Ok n ≡ in_code (fit n)
unfolding fit
fit_fits {n} h = simp (le-leb n max_u32 h)

pub fit_over : {n : ℕ} → max_u32 < n → err overflow ≡ in_code (fit n)
unfolding fit
fit_over {n} h = simp (lt-leb n max_u32 h)

-- a number that a checked operation of 32 bits gives, refused where it gives none
pub fit_or : (n : ℕ) (o : Option ℕ) → SomeIff o (n < 2 ^ 32) n → ok_or o record { number = overflow } ≡ in_code (fit n)
fit_or n None h = fit_over (omega arith)
fit_or n (Some m) h = rw h.1 (fit_fits (omega (arith, h.0)))

-- a condition that is met falls away
pub met : (P Q : Type 0) (o : Option ℕ) (v : ℕ) → P → SomeIff o (P × Q) v → SomeIff o Q v
met P Q None v p h = λ q. h (p, q)
met P Q (Some x) v p h = (h.0.1, h.1)

pub round_zero : (n : ℕ) → round_up n 0 ≡ n
unfolding round_up
round_zero n = rw (mod-zero (0 - n % 0)) (omega arith)

-- a product of two numbers of k bits has at most k + k bits
pub product_below : (k : ℕ) {a b : ℕ} → a < 2 ^ k → b < 2 ^ k → a * b < 2 ^ (k + k)
product_below k {a} {b} ha hb =
    subst⁻¹ (λ (n : ℕ). a * b < n) (pow-add 2 k k)
    (lt_of_le_of_lt (mul-le-mul_left a (le_of_lt hb)) (mul-lt-mul_of_pos_right ha (pow_pos k)))

-- ---- what the code's answer says of the definitions

pub ok_is : {A : Type 0} (r : Result A) (a : A) → in_code r ≡ Ok a → r ≡ ok a
ok_is (ok b) a h = cc
ok_is (refused m) a h = let z : ◌≡◌ {A = ℕ} 0 1 = cc in absurd (omega arith)

pub err_is : {A : Type 0} (r : Result A) (n : ℕ) → in_code r ≡ err n → r ≡ refused n
err_is (ok b) n h = let z : ◌≡◌ {A = ℕ} 0 1 = cc in absurd (omega arith)
err_is (refused m) n h = ap refused (ap (number_in n) h)
  where
    number_in : {A : Type 0} → ℕ → OrRefusal A → ℕ
    number_in n (Ok a) = n
    number_in n (Err e) = e.number

pub some_of : {A : Type 0} (o : option.Option A) (a : A) → as_option o ≡ Some a → o ≡ option.some a
some_of (option.some b) a h = cc
some_of option.none a h = let z : ◌≡◌ {A = ℕ} 0 1 = cc in absurd (omega arith)

pub none_of : {A : Type 0} (o : option.Option A) → as_option o ≡ None → o ≡ option.none
none_of (option.some b) h = let z : ◌≡◌ {A = ℕ} 0 1 = cc in absurd (omega arith)
none_of option.none h = refl

pub record Narrow (z y : ℤ) : Type 0 where
  pub fits : is_i32 z ≡ true
  pub same : z ≡ y

pub narrow_is : (z y : ℤ) → as_i32 z ≡ Some y → Narrow z y
unfolding as_i32
narrow_is z y h = by_test (is_i32 z) refl h
  where
    by_test : (t : Bool) → is_i32 z ≡ t → cond t (Some z) None ≡ Some y → Narrow z y
    by_test true e g = record { fits = e; same = cc }
    by_test false e g = let x : ◌≡◌ {A = ℕ} 0 1 = cc in absurd (omega arith)

pub wide_is : (z : ℤ) → as_i32 z ≡ None → is_i32 z ≡ false
unfolding as_i32
wide_is z h = by_test (is_i32 z) h
  where
    by_test : (t : Bool) → cond t (Some z) None ≡ None → t ≡ false
    by_test true g = let x : ◌≡◌ {A = ℕ} 0 1 = cc in absurd (omega arith)
    by_test false g = refl
