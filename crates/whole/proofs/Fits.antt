-- What was written all or nothing has room. Assumes nothing.
use Prim.Native.Nat.{ℕ, ◌≤◌}
use mathlib.Core.Path.{◌≡◌, refl, sym, ◌∙◌, subst}
use mathlib.Core.Bool.{Bool, true, false}
use mathlib.Core.List.{List}
use lib.Dec.{ltb}
use lib.ListN.{length}
use borrow.Author.Tests.{ltb-false}
use Rattle.arith.specs.Refusals.{Result, ok, refused, ◌>>=◌, ◌>>◌, refuse◌when◌, in_room, short_list}
use Rattle.text.specs.Whole.{Whole, held, answered}
use Rattle.std.specs.Prelude.{Ok, Err}
use Rattle.arith.specs.InCode.{OrRefusal}

abbrev Room : ℕ → OrRefusal ℕ → Type 0
Room room (Ok n) = n ≤ room
Room room (Err e) = Unit

room_of : (room : ℕ) (result : Result (List ℕ)) → Room room (answered (held room result))
unfolding in_room ◌>>=◌ ◌>>◌ refuse◌when◌ answered
room_of room (refused n) = tt
room_of room (ok text) = by (ltb room (length text)) refl
  where
    by : (t : Bool) → ltb room (length text) ≡ t → Room room (answered (refuse short_list when t >> ok text))
    by true e = tt
    by false e = ltb-false room (length text) e

pub bytes_fit : {result : Result (List ℕ)} {old new : List ℕ} {r : OrRefusal ℕ} {n : ℕ} → Whole result old r new → r ≡ Ok n → n ≤ length old
bytes_fit {result} {old} w e = subst (Room (length old)) (sym w.says ∙ e) (room_of (length old) result)
