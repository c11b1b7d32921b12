-- Laws of lists of words that are the same. Assumes nothing.
use Prim.Native.Nat.{min, ℕ, suc, ◌+◌, ◌-◌, ◌≤◌, ◌<◌}
use native.Mathlib.Omega.{arith}
use mathlib.Core.Path.{◌≡◌, refl, ap}
use mathlib.Core.Bool.{Bool, true, false, ◌&&◌}
use mathlib.Core.List.{List, [], ◌∷◌}
use borrow.Author.Tests.{eq-eqb, eqb-true}
use lib.Dec.{eqb}
use lib.Pointwise.{pointwise}
use lib.ListN.{length, take, drop, length-take, length-drop}
use mathlib.Core.Logic.{◌⊎◌, inl, inr}
use Rattle.arith.proofs.Results.{first_true, second_true}
use mir.Val.{bool_byte}
use Rattle.spirv.specs.Rows.{same_words, flag_word}

-- as `u32::from` gives it
pub flag_word-is : (b : Bool) → bool_byte b ≡ flag_word b
flag_word-is false = refl
flag_word-is true = refl

-- ---- the same words

-- as `==` compares
pub same_pointwise : (a b : List ℕ) → pointwise eqb a b ≡ same_words a b
unfolding same_words
same_pointwise [] [] = refl
same_pointwise [] (y ∷ b) = refl
same_pointwise (x ∷ a) [] = refl
same_pointwise (x ∷ a) (y ∷ b) = ap (λ t. eqb x y && t) (same_pointwise a b)

pub same_is : (a b : List ℕ) → same_words a b ≡ true → a ≡ b
unfolding same_words
same_is [] [] h = refl
same_is [] (y ∷ b) h = absurd (let z : ◌≡◌ {A = Bool} false true = h in let q : ◌≡◌ {A = ℕ} 0 1 = cc in omega arith)
same_is (x ∷ a) [] h = absurd (let z : ◌≡◌ {A = Bool} false true = h in let q : ◌≡◌ {A = ℕ} 0 1 = cc in omega arith)
same_is (x ∷ a) (y ∷ b) h =
    let p = eqb-true x y (first_true (eqb x y) (same_words a b) h) in
    let q = same_is a b (second_true (eqb x y) (same_words a b) h) in
    rw (p, q)

pub same_self : (a : List ℕ) → same_words a a ≡ true
unfolding same_words
same_self [] = refl
same_self (x ∷ a) = rw (eq-eqb x x refl) (same_self a)

pub other_length : (a b : List ℕ) → (length a ≡ length b → ⊥) → same_words a b ≡ false
unfolding same_words
other_length [] [] h = absurd (h refl)
other_length [] (y ∷ b) h = refl
other_length (x ∷ a) [] h = refl
other_length (x ∷ a) (y ∷ b) h = go (eqb x y) (other_length a b (λ e. h (ap suc e)))
  where
    go : (t : Bool) → same_words a b ≡ false → t && same_words a b ≡ false
    go true e = e
    go false e = refl

-- a part that runs past the end has another length
pub cut_short : (t : List ℕ) (at n : ℕ) → length t < at + n → 1 ≤ n → length (take n (drop at t)) ≡ n → ⊥
cut_short t at n h p e = go (length-take n (drop at t)) (length-drop at t)
  where
    go : length (take n (drop at t)) ≡ Prim.Native.Nat.min n (length (drop at t)) → length (drop at t) ≡ length t - at → ⊥
    go q r = omega arith

pub not_there : (t : List ℕ) (at n : ℕ) → (at + n < at) ⊎ (length t < at + n) → length t < at + n
not_there t at n (inl h) = omega arith
not_there t at n (inr h) = h

-- a part from `at` up to `at + n`
pub cut_two : (t : List ℕ) (at n : ℕ) → take (at + n - at) (drop at t) ≡ take n (drop at t)
cut_two t at n = let e : at + n - at ≡ n = omega arith in rw e
