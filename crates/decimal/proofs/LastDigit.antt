-- A decimal form is that of all digits but the last, and the last: what printing goes by. Assumes nothing.
use Prim.Native.Nat.{ℕ, zero, suc, ◌+◌, ◌/◌, ◌%◌, ◌<◌, ◌≤◌}
use native.Mathlib.Omega.{arith}
use mathlib.Core.Path.{◌≡◌, refl, sym, ap, ◌∙◌}
use mathlib.Core.Bool.{Bool, true, false, cond}
use mathlib.Core.List.{List, [], ◌∷◌, ◌++◌, append_assoc}
use lib.Dec.{ltb}
use borrow.Author.Tests.{lt-ltb, le-ltb}
use Rattle.decimal.specs.Decimal.{digit_0, digits_before, decimal}
use Rattle.decimal.proofs.OneForm.{bound}

-- the digits in front of others are the digits, and then the others
in_front : (k n : ℕ) (behind : List ℕ) → digits_before k n behind ≡ digits_before k n [] ++ behind
in_front zero n behind = refl
in_front (suc k) n behind = by (ltb n 10) (digit_0 + n % 10) (λ l. in_front k (n / 10) l)
  where
    by : (t : Bool) (d : ℕ) → ((l : List ℕ) → digits_before k (n / 10) l ≡ digits_before k (n / 10) [] ++ l)
        → cond t (d ∷ behind) (digits_before k (n / 10) (d ∷ behind)) ≡ cond t (d ∷ []) (digits_before k (n / 10) (d ∷ [])) ++ behind
    by true d ih = refl
    by false d ih =
        ih (d ∷ behind)
        ∙ sym (append_assoc (digits_before k (n / 10) []) (d ∷ []) behind)
        ∙ ap (λ (l : List ℕ). l ++ behind) (sym (ih (d ∷ [])))

pub one_digit : (n : ℕ) → n < 10 → decimal n ≡ (digit_0 + n) ∷ []
unfolding decimal
one_digit n h = let e : n % 10 ≡ n = omega arith in rw (lt-ltb n 10 h, e)

pub more_digits : (n : ℕ) → 10 ≤ n → decimal n ≡ decimal (n / 10) ++ ((digit_0 + n % 10) ∷ [])
unfolding decimal
more_digits n h =
    let last = (digit_0 + n % 10) ∷ [] in
    ap (λ (t : Bool). cond t last (digits_before n (n / 10) last)) (le-ltb n 10 h)
    ∙ in_front n (n / 10) last
    ∙ ap (λ (l : List ℕ). l ++ last) (bound n (suc (n / 10)) (n / 10) [] (omega arith) (omega arith))
