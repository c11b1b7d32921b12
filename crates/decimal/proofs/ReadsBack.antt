-- Each 32-bit number reads back from its printed form as itself. Assumes nothing.
use Prim.Native.Nat.{ℕ, zero, suc, ◌+◌, ◌/◌, ◌%◌, ◌<◌, ◌≤◌}
use native.Mathlib.Omega.{arith}
use mathlib.Core.Path.{◌≡◌, refl, ap, ◌∙◌}
use mathlib.Core.Bool.{Bool, true, false, cond, not}
use mathlib.Core.List.{List, [], ◌∷◌}
use lib.Dec.{ltb, eqb}
use borrow.Author.Tests.{ltb-true, ltb-false, le-leb, eqb-true}
use Rattle.arith.specs.Numbers.{max_u32}
use Rattle.decimal.specs.Decimal.{digit_0, digit_9, all_digits, well_begun, spelled, read_number, digits_before, decimal}
use Rattle.decimal.specs.Statements.{ReadsBack}

-- one digit more, by whether it is the first
by_size : {A : Type 0} (f : List ℕ → A) (k n : ℕ) (behind : List ℕ) (r : A)
    → (n < 10 → f ((digit_0 + n % 10) ∷ behind) ≡ r)
    → (10 ≤ n → f (digits_before k (n / 10) ((digit_0 + n % 10) ∷ behind)) ≡ r)
    → f (digits_before (suc k) n behind) ≡ r
by_size f k n behind r small large = by_test (ltb n 10) refl
  where
    by_test : (t : Bool) → ltb n 10 ≡ t → f (cond t ((digit_0 + n % 10) ∷ behind) (digits_before k (n / 10) ((digit_0 + n % 10) ∷ behind))) ≡ r
    by_test true e = small (ltb-true n 10 e)
    by_test false e = large (ltb-false n 10 e)

pub spells : (k n : ℕ) (behind : List ℕ) → n < k → spelled 0 (digits_before k n behind) ≡ spelled n behind
spells zero n behind h = absurd (omega arith)
spells (suc k) n behind h =
    by_size (spelled 0) k n behind _
    (λ s. ap (λ (x : ℕ). spelled x behind) (omega arith))
    (λ l. spells k (n / 10) ((digit_0 + n % 10) ∷ behind) (omega arith) ∙ ap (λ (x : ℕ). spelled x behind) (omega arith))

digit : (n : ℕ) (behind : List ℕ) → all_digits behind ≡ true → all_digits ((digit_0 + n % 10) ∷ behind) ≡ true
digit n behind h = rw (le-leb digit_0 (digit_0 + n % 10) (omega arith), le-leb (digit_0 + n % 10) digit_9 (omega arith)) h

digits : (k n : ℕ) (behind : List ℕ) → all_digits behind ≡ true → all_digits (digits_before k n behind) ≡ true
digits zero n behind h = h
digits (suc k) n behind h =
    by_size all_digits k n behind _ (λ s. digit n behind h) (λ l. digits k (n / 10) ((digit_0 + n % 10) ∷ behind) (digit n behind h))

not_zero : (b : ℕ) → digit_0 < b → not (eqb b digit_0) ≡ true
not_zero b h = by_test (eqb b digit_0) refl
  where
    by_test : (t : Bool) → eqb b digit_0 ≡ t → not t ≡ true
    by_test true e = absurd (omega (arith, eqb-true b digit_0 e))
    by_test false e = refl

begins : (n : ℕ) (behind : List ℕ) → 0 < n % 10 → well_begun ((digit_0 + n % 10) ∷ behind) ≡ true
begins n [] h = refl
begins n (b ∷ bs) h = not_zero (digit_0 + n % 10) (omega arith)

begun : (k n : ℕ) (behind : List ℕ) → n < k → 0 < n → well_begun (digits_before k n behind) ≡ true
begun zero n behind h p = absurd (omega arith)
begun (suc k) n behind h p =
    by_size well_begun k n behind _ (λ s. begins n behind (omega arith)) (λ l. begun k (n / 10) ((digit_0 + n % 10) ∷ behind) (omega arith) (omega arith))

well : (n : ℕ) → well_begun (digits_before (suc n) n []) ≡ true
well zero = refl
well (suc n) = begun (suc (suc n)) (suc n) [] (omega arith) (omega arith)

pub reads_back : ReadsBack
unfolding read_number decimal
reads_back n h =
    let s = spells (suc n) n [] (omega arith) in
    rw (well n, digits (suc n) n [] refl, s, le-leb n max_u32 h)
