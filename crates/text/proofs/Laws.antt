-- Laws of `Printed`. Assumes nothing.
use Prim.Native.Nat.{ℕ, ◌+◌, ◌<◌, ◌≤◌}
use native.Mathlib.Omega.{arith}
use mathlib.Core.Path.{◌≡◌, refl, sym, ap, ◌∙◌}
use mathlib.Core.Bool.{Bool, true, false}
use mathlib.Core.List.{List, [], ◌++◌}
use lib.Dec.{leb}
use lib.ListN.{length, take, drop, length-append}
use lib.Seq.{sets, sets-eq, length-sets, slice, take_at, drop_at, length-take-le}
use borrow.Author.Tests.{leb-true, leb-false}
use Rattle.arith.proofs.Stores.{sets_append, sets_past}
use Rattle.text.specs.Printed.{Printed, after}

-- nothing printed
pub none : (l : List ℕ) (at : ℕ) → at < 18446744073709551616 → Printed [] l at at l
none l at h = record { place = omega arith; bytes = refl }

-- two texts, one behind the other
module _ (a b : List ℕ) {o m n : List ℕ} {at p q : ℕ} (small : length o < 18446744073709551616) where
  pub then : Printed a o at p m → Printed b m p q n → Printed (a ++ b) o at q n
  then x y = record {
    place = rw (y.place, x.place, length-append a b) (omega arith);
    bytes = y.bytes ∙ (rw (x.bytes, x.place) (sym (sets_append o at a b ∙ same (leb (at + length a) 18446744073709551615) refl)));
  }
    where
      same : (t : Bool) → leb (at + length a) 18446744073709551615 ≡ t → sets (sets o at a) (at + length a) b ≡ sets (sets o at a) (after at a) b
      same true e = let f : after at a ≡ at + length a = omega (arith, leb-true (at + length a) 18446744073709551615 e) in rw f
      same false e =
          let f : after at a ≡ 18446744073709551615 = omega (arith, leb-false (at + length a) 18446744073709551615 e) in
          let s = length-sets o at a in
          rw f (sets_past (sets o at a) _ b (omega (arith, leb-false (at + length a) 18446744073709551615 e)) ∙ sym (sets_past (sets o at a) _ b (omega arith)))

-- no length changes
pub kept : (text : List ℕ) {o n : List ℕ} {at p : ℕ} → Printed text o at p n → length n ≡ length o
kept text {o} {n} {at} x = ap length x.bytes ∙ length-sets o at text

-- a text that fits leaves what stands before it and behind it
pub fitted : (text : List ℕ) {o n : List ℕ} {at p : ℕ} → Printed text o at p n → at + length text ≤ length o → n ≡ take at o ++ text ++ drop (at + length text) o
fitted text {o} {n} {at} x h = x.bytes ∙ sets-eq text o at h

-- and stands between the two places
pub in_place : (text : List ℕ) {o n : List ℕ} {at p : ℕ} → Printed text o at p n → at + length text ≤ length o → length o < 18446744073709551616 → slice at p n ≡ text
in_place text {o} {n} {at} {p} x h small =
    let e : p ≡ at + length text = omega (arith, x.place) in
    let front : length (take at o) ≡ at = length-take-le at o (omega arith) in
    let size : length (take at o ++ text) ≡ at + length text = omega (arith, length-append (take at o) text) in
    rw (e, fitted text x h)
    (ap (drop at) (take_at (take at o ++ text) (drop (at + length text) o) (at + length text) size)
    ∙ drop_at (take at o) text at front)

-- no room holds nothing
pub nothing : (text : List ℕ) {m : List ℕ} {n : ℕ} → Printed text [] 0 n m → m ≡ []
nothing text x = x.bytes ∙ sets_past [] 0 text (omega arith)
