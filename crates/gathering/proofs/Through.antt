-- A text printed into one list, and from there into another: all or nothing. Assumes nothing.
use Prim.Native.Nat.{ℕ, ◌<◌, ◌≤◌}
use native.Mathlib.Omega.{arith}
use mathlib.Core.Path.{sym, subst}
use mathlib.Core.List.{List, []}
use lib.ListN.{length, take}
use Rattle.arith.specs.Refusals.{ok, short_list}
use Rattle.text.specs.Printed.{Printed}
use Rattle.text.specs.Whole.{Whole}
use Rattle.std.specs.Prelude.{Ok}
use Rattle.arith.specs.InCode.{err}
use Rattle.arith.proofs.Stores.{sets_past}
use Rattle.text.proofs.Laws.{in_place}
use Rattle.text.proofs.AllOrNothing.{too_long, all_written}

measured : (text : List ℕ) {own m : List ℕ} {n : ℕ} → Printed text own 0 n m → Printed text [] 0 n []
measured text x = record { place = x.place; bytes = sym (sets_past [] 0 text (omega arith)) }

module _ (text : List ℕ) {old own m : List ℕ} {n : ℕ} (small : length old < 9223372036854775808) (x : Printed text own 0 n m) where
  pub no_room : length old < n → Whole (ok text) old (err short_list) old
  no_room h = too_long text {old = old} {m = []} small (measured text x) h

  pub printed_again : {p : ℕ} {new : List ℕ} → n ≤ length old → Printed text old 0 p new → Whole (ok text) old (Ok n) new
  printed_again h y = all_written text {old = old} {m = []} small (measured text x) h y

  pub copied : {p : ℕ} {new : List ℕ} → length own < 9223372036854775808 → n ≤ length own → n ≤ length old → Printed (take n m) old 0 p new
      → Whole (ok text) old (Ok n) new
  copied {p} {new} few g h y =
      printed_again h (subst (λ (t : List ℕ). Printed t old 0 p new) (in_place text x (omega (arith, x.place)) (omega arith)) y)
