-- A text that reads as a number is that number's printed form: each number has one form. Assumes nothing.
use Prim.Native.Nat.{ℕ, zero, suc, ◌+◌, ◌-◌, ◌*◌, ◌/◌, ◌%◌, ◌<◌, ◌≤◌}
use native.Mathlib.Omega.{arith}
use mathlib.Core.Path.{◌≡◌, refl, sym, ap, ◌∙◌}
use mathlib.Core.Bool.{Bool, true, false, cond, ◌&&◌, not, false≢true}
use mathlib.Core.List.{List, [], ◌∷◌, ◌++◌, append-nil}
use lib.Dec.{leb, ltb, eqb}
use borrow.Author.Tests.{ltb-false, lt-ltb, le-ltb, leb-true, eqb-false}
use Rattle.arith.specs.Numbers.{max_u32}
use Rattle.decimal.specs.Decimal.{digit_0, digit_9, all_digits, well_begun, spelled, read_number, digits_before, decimal}
use Rattle.decimal.specs.Statements.{OneForm}
use Rattle.arith.proofs.Results.{first_true, second_true, let_through}

-- a bound that is large enough does not matter
pub bound : (k j n : ℕ) (behind : List ℕ) → n < k → n < j → digits_before k n behind ≡ digits_before j n behind
bound zero j n behind h i = absurd (omega arith)
bound (suc k) zero n behind h i = absurd (omega arith)
bound (suc k) (suc j) n behind h i = by_test (ltb n 10) refl (λ l. bound k j (n / 10) ((digit_0 + n % 10) ∷ behind) (omega arith) (omega arith))
  where
    by_test : (t : Bool) → ltb n 10 ≡ t → (10 ≤ n → digits_before k (n / 10) ((digit_0 + n % 10) ∷ behind) ≡ digits_before j (n / 10) ((digit_0 + n % 10) ∷ behind))
        → cond t ((digit_0 + n % 10) ∷ behind) (digits_before k (n / 10) ((digit_0 + n % 10) ∷ behind)) ≡ cond t ((digit_0 + n % 10) ∷ behind) (digits_before j (n / 10) ((digit_0 + n % 10) ∷ behind))
    by_test true e f = refl
    by_test false e f = f (ltb-false n 10 e)

-- the last digit of a number of two digits or more
last_digit : (k v b : ℕ) (behind : List ℕ) → 1 ≤ v → digit_0 ≤ b → b ≤ digit_9
    → digits_before (suc k) (v * 10 + (b - digit_0)) behind ≡ digits_before k v (b ∷ behind)
last_digit k v b behind p lo hi =
    let n = v * 10 + (b - digit_0) in
    let big : ltb n 10 ≡ false = le-ltb n 10 (omega arith) in
    let q : n / 10 ≡ v = omega arith in
    let r : digit_0 + n % 10 ≡ b = omega arith in
    ap (λ (t : Bool). cond t ((digit_0 + n % 10) ∷ behind) (digits_before k (n / 10) ((digit_0 + n % 10) ∷ behind))) big
    ∙ ap (λ (x : ℕ). digits_before k x ((digit_0 + n % 10) ∷ behind)) q
    ∙ ap (λ (x : ℕ). digits_before k v (x ∷ behind)) r

split_and : (a b : Bool) → a && b ≡ true → (a ≡ true) × (b ≡ true)
split_and true b h = (refl, h)
split_and false b h = absurd (false≢true h)

record Digit (b : ℕ) (bs : List ℕ) : Type 0 where
  low : digit_0 ≤ b
  high : b ≤ digit_9
  rest : all_digits bs ≡ true

is_digit : (b : ℕ) (bs : List ℕ) → all_digits (b ∷ bs) ≡ true → Digit b bs
is_digit b bs h =
    let x = split_and (leb digit_0 b) _ h in
    let y = split_and (leb b digit_9) _ x.1 in
    record { low = leb-true digit_0 b x.0; high = leb-true b digit_9 y.0; rest = y.1 }

-- the number that digits spell behind those of v prints as those of v, and the digits
appended : (bs : List ℕ) (v : ℕ) (behind : List ℕ) → 1 ≤ v → all_digits bs ≡ true
    → digits_before (suc (spelled v bs)) (spelled v bs) behind ≡ digits_before (suc v) v (bs ++ behind)
appended [] v behind p h = refl
appended (b ∷ bs) v behind p h =
    let d = is_digit b bs h in
    let w = v * 10 + (b - digit_0) in
    appended bs w behind (omega arith) d.rest
    ∙ last_digit w v b (bs ++ behind) p d.low d.high
    ∙ bound w (suc v) v (b ∷ (bs ++ behind)) (omega arith) (omega arith)

-- a number of one digit
single : (b : ℕ) (behind : List ℕ) → digit_0 ≤ b → b ≤ digit_9 → digits_before (suc (b - digit_0)) (b - digit_0) behind ≡ b ∷ behind
single b behind lo hi =
    let n = b - digit_0 in
    let small : ltb n 10 ≡ true = lt-ltb n 10 (omega arith) in
    let r : digit_0 + n % 10 ≡ b = omega arith in
    ap (λ (t : Bool). cond t ((digit_0 + n % 10) ∷ behind) (digits_before n (n / 10) ((digit_0 + n % 10) ∷ behind))) small
    ∙ ap (λ (x : ℕ). x ∷ behind) r

prints : (f : List ℕ) → well_begun f ≡ true → all_digits f ≡ true → decimal (spelled 0 f) ≡ f
unfolding decimal
prints [] w h = absurd (false≢true w)
prints (b ∷ []) w h =
    let d = is_digit b [] h in
    let e : 0 * 10 + (b - digit_0) ≡ b - digit_0 = omega arith in
    ap (λ (x : ℕ). digits_before (suc x) x []) e ∙ single b [] d.low d.high
prints (b ∷ c ∷ bs) w h =
    let d = is_digit b (c ∷ bs) h in
    let e : 0 * 10 + (b - digit_0) ≡ b - digit_0 = omega arith in
    let p : 1 ≤ b - digit_0 = not_first b d.low w in
    ap (λ (x : ℕ). digits_before (suc (spelled x (c ∷ bs))) (spelled x (c ∷ bs)) []) e
    ∙ appended (c ∷ bs) (b - digit_0) [] p d.rest
    ∙ single b ((c ∷ bs) ++ []) d.low d.high
    ∙ ap (λ (x : List ℕ). b ∷ x) (append-nil (c ∷ bs))
  where
    not_first : (b : ℕ) → digit_0 ≤ b → not (eqb b digit_0) ≡ true → 1 ≤ b - digit_0
    not_first b lo g = by_test (eqb b digit_0) refl g
      where
        by_test : (t : Bool) → eqb b digit_0 ≡ t → not t ≡ true → 1 ≤ b - digit_0
        by_test true e g = absurd (false≢true g)
        by_test false e g = omega (arith, eqb-false b digit_0 e)

pub one_form : OneForm
unfolding read_number
one_form f n h =
    let g = let_through (well_begun f && (all_digits f && leb (spelled 0 f) max_u32)) (spelled 0 f) n h in
    let rest = second_true (well_begun f) _ g.holds in
    record {
      printed = sym (ap decimal (sym g.value) ∙ prints f (first_true (well_begun f) _ g.holds) (first_true (all_digits f) _ rest));
      fits = omega (arith, leb-true (spelled 0 f) max_u32 (second_true (all_digits f) _ rest), g.value);
    }
