-- The definitions at some texts, computed.
use Prim.Native.Nat.{ℕ}
use mathlib.Core.Path.{◌≡◌, refl}
use mathlib.Core.List.{[], ◌∷◌}
use lib.Seq.{sets}
use Rattle.arith.specs.Refusals.{ok, ◌>>=◌, ◌>>◌, refuse◌when◌, in_room}
use Rattle.text.specs.Printed.{after}
use Rattle.text.specs.Whole.{over, held, written, answered}
use Rattle.arith.specs.InCode.{err}

-- what lies past the end is left out, and the place after the text is the same
cut : sets {A = ℕ} (0 ∷ 0 ∷ 0 ∷ []) 1 (44 ∷ 68 ∷ 44 ∷ []) ≡ 0 ∷ 44 ∷ 68 ∷ []
cut = refl

cut_place : after 1 (44 ∷ 68 ∷ 44 ∷ []) ≡ 4
cut_place = refl

-- a text of three bytes in three places, and in two
whole_text : over (written (held 3 (ok (7 ∷ 8 ∷ 9 ∷ [])))) (0 ∷ 0 ∷ 0 ∷ []) ≡ 7 ∷ 8 ∷ 9 ∷ []
unfolding in_room ◌>>=◌ ◌>>◌ refuse◌when◌ written
whole_text = refl

no_text : over (written (held 2 (ok (7 ∷ 8 ∷ 9 ∷ [])))) (0 ∷ 0 ∷ []) ≡ 0 ∷ 0 ∷ []
unfolding in_room ◌>>=◌ ◌>>◌ refuse◌when◌ written
no_text = refl

no_text_said : answered (held 2 (ok (7 ∷ 8 ∷ 9 ∷ []))) ≡ err 24
unfolding in_room ◌>>=◌ ◌>>◌ refuse◌when◌ answered
no_text_said = refl
