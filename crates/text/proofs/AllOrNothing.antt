-- Laws of `Whole`: how a text that is measured first and then printed, or a refusal, meets it. Assumes nothing.
use Prim.Native.Nat.{ℕ, ◌+◌, ◌<◌, ◌≤◌}
use native.Mathlib.Omega.{arith}
use mathlib.Core.Path.{◌≡◌, refl, ap, ◌∙◌}
use mathlib.Core.Bool.{Bool}
use mathlib.Core.List.{List, [], ◌++◌}
use lib.ListN.{length, drop}
use borrow.Author.Tests.{lt-ltb, le-ltb}
use Rattle.arith.specs.Refusals.{ok, refused, ◌>>=◌, ◌>>◌, refuse◌when◌, in_room, short_list}
use Rattle.text.specs.Printed.{Printed}
use Rattle.text.specs.Whole.{Whole, held, written, answered}
use Rattle.arith.specs.InCode.{err}
use Rattle.std.specs.Prelude.{Ok}
use Rattle.text.proofs.Laws.{fitted, nothing}

pub held_too_long : (room : ℕ) (text : List ℕ) → room < length text → held room (ok text) ≡ refused short_list
unfolding in_room ◌>>=◌ ◌>>◌ refuse◌when◌
held_too_long room text h = ap (λ (t : Bool). refuse short_list when t >> ok text) (lt-ltb room (length text) h)

pub held_whole : (room : ℕ) (text : List ℕ) → length text ≤ room → held room (ok text) ≡ ok text
unfolding in_room ◌>>=◌ ◌>>◌ refuse◌when◌
held_whole room text h = ap (λ (t : Bool). refuse short_list when t >> ok text) (le-ltb room (length text) h)

-- a refusal leaves the list as it was
pub refused_whole : (n : ℕ) (old : List ℕ) → Whole (refused n) old (err n) old
unfolding in_room ◌>>=◌ written answered
refused_whole n old = record { says = refl; holds = refl }

-- the text was measured first, on no room: `m`, which has nothing, stands in front of the list from then on
module _ (text : List ℕ) {old m : List ℕ} {n : ℕ} (small : length old < 9223372036854775808) (measured : Printed text [] 0 n m) where
  pub too_long : length (m ++ old) < n → Whole (ok text) old (err short_list) (m ++ old)
  unfolding written answered
  too_long g =
      let h : length old < n = rw (nothing text measured) at g in
      let e = held_too_long (length old) text (omega (arith, measured.place)) in
      record { says = rw e; holds = rw (nothing text measured, e) }

  pub all_written : {p : ℕ} {new : List ℕ} → n ≤ length (m ++ old) → Printed text (m ++ old) 0 p new → Whole (ok text) old (Ok n) new
  unfolding written answered
  all_written {p} {new} g y =
      let h : n ≤ length old = rw (nothing text measured) at g in
      let x : Printed text old 0 p new = rw (nothing text measured) at y in
      let size : n ≡ length text = omega (arith, measured.place) in
      let e = held_whole (length old) text (omega arith) in
      let all : 0 + length text ≡ length text = omega arith in
      record {
        says = rw (e, size);
        holds = rw e (fitted text x (omega arith) ∙ ap (λ (k : ℕ). text ++ drop k old) all);
      }
