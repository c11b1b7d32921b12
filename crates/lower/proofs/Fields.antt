-- A field by its place in two lists. Assumes nothing.
use Prim.Native.Nat.{ℕ, zero, suc, ◌<◌, ◌≤◌}
use native.Mathlib.Omega.{arith}
use mathlib.Core.Path.{◌≡◌, refl}
use mathlib.Core.List.{List, [], ◌∷◌}
use lib.ListN.{length, get_or}
use borrow.Author.Tests.{le-leb, lt-leb}
use Rattle.arith.specs.Refusals.{ok, refused, field_outside}
use Rattle.arith.specs.Numbers.{max_i32, signed}
use Rattle.lower.specs.Steps.{field_at, field_of}

pub field_there : (os ts : List ℕ) (n : ℕ) → n < length os → n < length ts → field_at os ts n ≡ ok record { offset = get_or os n 0; type = get_or ts n 0 }
unfolding field_at
field_there [] ts n h g = absurd (omega arith)
field_there (o ∷ os) [] n h g = absurd (omega arith)
field_there (o ∷ os) (t ∷ ts) zero h g = refl
field_there (o ∷ os) (t ∷ ts) (suc n) h g = field_there os ts n (omega arith) (omega arith)

pub no_offset : (os ts : List ℕ) (n : ℕ) → length os ≤ n → field_at os ts n ≡ refused field_outside
unfolding field_at
no_offset [] ts n h = refl
no_offset (o ∷ os) [] n h = refl
no_offset (o ∷ os) (t ∷ ts) zero h = absurd (omega arith)
no_offset (o ∷ os) (t ∷ ts) (suc n) h = no_offset os ts n (omega arith)

pub no_type : (os ts : List ℕ) (n : ℕ) → length ts ≤ n → field_at os ts n ≡ refused field_outside
unfolding field_at
no_type [] ts n h = refl
no_type (o ∷ os) [] n h = refl
no_type (o ∷ os) (t ∷ ts) zero h = absurd (omega arith)
no_type (o ∷ os) (t ∷ ts) (suc n) h = no_type os ts n (omega arith)

-- ---- by the word of an index

module _ (os ts : List ℕ) (w : ℕ) where
  pub word_negative : max_i32 < w → field_of os ts (signed w) ≡ refused field_outside
  unfolding field_of signed
  word_negative h = rw (lt-leb w max_i32 h)

  pub word_past_offsets : w ≤ max_i32 → length os ≤ w → field_of os ts (signed w) ≡ refused field_outside
  unfolding field_of signed
  word_past_offsets h g = rw (le-leb w max_i32 h) (no_offset os ts w g)

  pub word_past_types : w ≤ max_i32 → length ts ≤ w → field_of os ts (signed w) ≡ refused field_outside
  unfolding field_of signed
  word_past_types h g = rw (le-leb w max_i32 h) (no_type os ts w g)

  pub word_there : w ≤ max_i32 → w < length os → w < length ts → field_of os ts (signed w) ≡ ok record { offset = get_or os w 0; type = get_or ts w 0 }
  unfolding field_of signed
  word_there h g k = rw (le-leb w max_i32 h) (field_there os ts w g k)
