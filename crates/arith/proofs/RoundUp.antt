-- `round_up` is the least multiple of an alignment that is at least a number. Assumes nothing.
use Prim.Native.Nat.{ℕ, zero, suc, ◌+◌, ◌-◌, ◌*◌, ◌/◌, ◌%◌, ◌<◌, ◌≤◌}
use native.Mathlib.Nat.{div-add-mod, mod-lt, mod_self, mod-eq_of_lt, mul-le-mul_left, mul-suc, sub-zero}
use native.Mathlib.Decide.{dec_le}
use native.Mathlib.Omega.{arith}
use mathlib.Core.Path.{◌≡◌, refl, sym, ap, subst}
use Rattle.arith.specs.Numbers.{round_up}
use Rattle.arith.specs.Statements.{LeastMultiple, RoundsUp}

-- a multiple of a that is more than a × q is at least a × (q + 1)
above : (a q k : ℕ) → a * q < a * k → a * suc q ≤ a * k
above a q k h = by (dec_le (suc q) k)
  where
    by : Dec (suc q ≤ k) → a * suc q ≤ a * k
    by (yes l) = mul-le-mul_left a l
    by (no g) = let l : k ≤ q = omega arith in absurd (omega (arith, mul-le-mul_left a l))

pub rounds_up : RoundsUp
unfolding round_up
rounds_up n a h = by (n % a) refl (mod-lt n h) (div-add-mod n a)
  where
    by : (r : ℕ) → n % a ≡ r → n % a < a → a * (n / a) + n % a ≡ n → LeastMultiple n a (n + (a - n % a) % a)
    by zero e lt d =
        let same : n + (a - n % a) % a ≡ n = rw e (omega (arith, mod_self a, ap (λ (x : ℕ). x % a) (sub-zero a))) in
        subst (LeastMultiple n a) (sym same) record { times = n / a; multiple = omega arith; above = omega arith; least = λ k l. l }
    by (suc r) e lt d =
        let m : (a - n % a) % a ≡ a - n % a = mod-eq_of_lt (omega arith) in
        let s = mul-suc a (n / a) in
        let next : n + (a - n % a) % a ≡ a * suc (n / a) = omega arith in
        subst (LeastMultiple n a) (sym next) record {
          times = suc (n / a);
          multiple = refl;
          above = omega arith;
          least = λ k l. above a (n / a) k (omega arith);
        }
