-- What a caller says of a function that prints at the front of a list.
use Rattle.std.specs.Prelude.{ℕ, List}
use Rattle.std.specs.Fn.{Shared}
use denote.Ref.{MutBor}
use Rattle.text.specs.Printed.{Printed}

-- each call of f prints the text
abbrev pub Prints : {F : Type 0} → Shared F (MutBor (List ℕ) × Unit {0}) (ℕ × (MutBor (List ℕ) × Unit {0})) → F → List ℕ → Type 0
Prints g f text = (room left : MutBor (List ℕ)) (r : ℕ) → g.post f (room, tt) (r, (left, tt)) → Printed text room.now 0 r left.now
