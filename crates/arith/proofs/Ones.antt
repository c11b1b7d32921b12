-- A 32-bit number is a power of two where one of its bits is set. Assumes nothing.
use Prim.Native.Nat.{ℕ, zero, suc, ◌+◌, ◌*◌, ◌/◌, ◌%◌, ◌^◌, ◌<◌, ◌≤◌}
use native.Mathlib.Nat.{pow-succ'}
use native.Mathlib.Omega.{arith}
use mathlib.Core.Path.{◌≡◌, refl, sym, ap, ◌∙◌}
use mathlib.Core.Bool.{Bool, true, false}
use lib.Count.{ones, ones_step, ones_cat}
use lib.Dec.{eqb}
use lib.Pow.{pow_pos}
use borrow.Author.Tests.{eqb-true, eqb-false}
use Rattle.arith.specs.Numbers.{max_u32, is_power_of_two}
use Rattle.arith.proofs.Powers.{Pow2, powers_of_two}

ones_of_zero : ones 0 ≡ 0
unfolding ones
ones_of_zero = refl

ones_of_one : ones 1 ≡ 1
unfolding ones
ones_of_one = refl

-- no bit is set in 0 alone
none_set : (k n : ℕ) → n < 2 ^ k → ones n ≡ 0 → n ≡ 0
none_set zero n h e = omega arith
none_set (suc k) n h e =
    let p = pow-succ' 2 k in
    let s = ones_step n in
    let rest = none_set k (n / 2) (omega arith) (omega arith) in
    omega arith

one_set : (k n : ℕ) → n < 2 ^ k → ones n ≡ 1 → Pow2 n
one_set zero n h e = absurd (let z : n ≡ 0 = omega arith in omega (arith, ap ones z, ones_of_zero))
one_set (suc k) n h e = by (n % 2) refl (ones_step n) (one_set k (n / 2) (omega (arith, pow-succ' 2 k)))
  where
    by : (d : ℕ) → n % 2 ≡ d → ones n ≡ n % 2 + ones (n / 2) → (ones (n / 2) ≡ 1 → Pow2 (n / 2)) → Pow2 n
    by zero m s f =
        let p = f (omega arith) in
        (suc p.0, omega (arith, p.1, pow-succ' 2 p.0))
    by (suc d) m s f = (0, omega (arith, none_set k (n / 2) (omega (arith, pow-succ' 2 k)) (omega arith)))

power_set : (k : ℕ) → ones (2 ^ k) ≡ 1
power_set k =
    let e : 1 * 2 ^ k + 0 ≡ 2 ^ k = omega arith in
    ap ones (sym e) ∙ ones_cat k 1 0 (pow_pos k) ∙ (rw (ones_of_one, ones_of_zero) refl)

pub one_bit : (n : ℕ) → n ≤ max_u32 → eqb (ones n) 1 ≡ is_power_of_two n
one_bit n h = by (eqb (ones n) 1) refl (is_power_of_two n) refl (powers_of_two n h)
  where
    by : (s : Bool) → eqb (ones n) 1 ≡ s → (t : Bool) → is_power_of_two n ≡ t
        → (is_power_of_two n ≡ true → Pow2 n) × (Pow2 n → is_power_of_two n ≡ true) → s ≡ t
    by true e t g p = sym (p.1 (one_set 32 n (omega arith) (eqb-true (ones n) 1 e))) ∙ g
    by false e false g p = refl
    by false e true g p = absurd (let q = p.0 g in eqb-false (ones n) 1 e (ap ones q.1 ∙ power_set q.0))
