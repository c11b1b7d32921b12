-- Reading digit by digit, as the code does, reads what `read_number` reads: the laws of its loop. Assumes nothing.
use Prim.Native.Nat.{ℕ, ◌+◌, ◌-◌, ◌*◌, ◌<◌, ◌≤◌}
use native.Mathlib.Numerals.{add-one}
use native.Mathlib.Omega.{arith}
use mathlib.Core.Path.{◌≡◌, refl, sym, ap, ◌∙◌}
use mathlib.Core.Bool.{Bool, true, false, cond, ◌&&◌}
use mathlib.Core.List.{List, [], ◌∷◌}
use mathlib.Core.Option.{Option, none, some}
use lib.Dec.{leb}
use lib.ListN.{length, get_or, drop, drop_of_length-le}
use lib.Seq.{drop-cons}
use borrow.Author.Tests.{leb-true, leb-false, le-leb, lt-leb}
use Rattle.arith.specs.Numbers.{max_u32}
use Rattle.arith.specs.Options.{◌>>=◌}
use Rattle.arith.specs.InCode.{as_option}
use Rattle.arith.proofs.Fitting.{some_of, none_of}
use Rattle.std.specs.Prelude.{Some, None}
use Rattle.decimal.specs.Decimal.{digit_0, digit_9, all_digits, well_begun, spelled, read_number}
use Rattle.decimal.specs.Reading.{with_digit}

-- ---- all digits

-- v with the digits of a list behind it
abbrev pub with_digits : ℕ → List ℕ → Option ℕ
with_digits v [] = some v
with_digits v (b ∷ bs) = with_digit v b >>= λ w. with_digits w bs

-- digits make a number no smaller
grows : (v : ℕ) (bs : List ℕ) → v ≤ spelled v bs
grows v [] = omega arith
grows v (b ∷ bs) = omega (arith, grows (v * 10 + (b - digit_0)) bs)

-- the digits of a list, all at once
abbrev at_once : ℕ → List ℕ → Option ℕ
at_once v bs = cond (all_digits bs && leb (spelled v bs) max_u32) (some (spelled v bs)) none

too_large : (v : ℕ) (bs : List ℕ) → max_u32 < v → at_once v bs ≡ none
too_large v bs h = rw (lt-leb (spelled v bs) max_u32 (omega (arith, grows v bs))) (by (all_digits bs))
  where
    by : (t : Bool) → cond (t && false) (some (spelled v bs)) none ≡ none
    by true = refl
    by false = refl

same : (v : ℕ) (bs : List ℕ) → v ≤ max_u32 → with_digits v bs ≡ at_once v bs
unfolding with_digit ◌>>=◌
same v [] h = rw (le-leb v max_u32 h)
same v (b ∷ bs) h = by (v * 10 + (b - digit_0)) (same (v * 10 + (b - digit_0)) bs) (leb digit_0 b) (leb b digit_9) (leb (v * 10 + (b - digit_0)) max_u32) refl
  where
    by : (w : ℕ) → (w ≤ max_u32 → with_digits w bs ≡ at_once w bs) → (x y t : Bool) → leb w max_u32 ≡ t
        → (cond (x && (y && t)) (some w) none >>= λ u. with_digits u bs) ≡ cond ((x && (y && all_digits bs)) && leb (spelled w bs) max_u32) (some (spelled w bs)) none
    by w ih false y t e = refl
    by w ih true false t e = refl
    by w ih true true true e = ih (leb-true w max_u32 e)
    by w ih true true false e = sym (too_large w bs (leb-false w max_u32 e))

-- ---- the first byte

pub unbegun : (f : List ℕ) → well_begun f ≡ false → read_number f ≡ none
unfolding read_number
unbegun f h = rw h

pub begun : (f : List ℕ) → well_begun f ≡ true → with_digits 0 f ≡ read_number f
unfolding read_number
begun f h = rw h (same 0 f (omega arith))

-- ---- the loop: v is the number so far, and the digit at i comes behind it

module _ (f : List ℕ) (i v : ℕ) (e : with_digits v (drop i f) ≡ read_number f) where
  at_digit : i < length f → (with_digit v (get_or f i 0) >>= λ w. with_digits w (drop (i + 1) f)) ≡ read_number f
  at_digit h = rw (add-one) (sym (ap (with_digits v) (drop-cons f i 0 h)) ∙ e)

  pub turn : {w : ℕ} → i < length f → Some w ≡ as_option (with_digit v (get_or f i 0)) → with_digits w (drop (i + 1) f) ≡ read_number f
  unfolding ◌>>=◌
  turn {w} h g = rw (some_of (with_digit v (get_or f i 0)) w (sym g)) at (at_digit h)

  pub stop : i < length f → None ≡ as_option (with_digit v (get_or f i 0)) → None ≡ as_option (read_number f)
  unfolding ◌>>=◌
  stop h g = ap as_option (rw (none_of (with_digit v (get_or f i 0)) (sym g)) at (at_digit h))

  pub done : length f ≤ i → Some v ≡ as_option (read_number f)
  done h = ap as_option (rw (drop_of_length-le f h) at e)
