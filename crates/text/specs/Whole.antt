-- Document 01, "The refusals", 24: a result goes into a lent list whole, or the list stays as it was.
use Rattle.std.specs.Prelude.{ℕ, ◌≡◌, List, [], ◌++◌, Ok, length, drop}
use Rattle.arith.specs.Refusals.{Result, ok, refused, in_room}
use Rattle.arith.specs.InCode.{OrRefusal, err}

-- a list whose front is a text, and whose rest is as it was
abbrev pub over : List ℕ → List ℕ → List ℕ
over text old = text ++ drop (length text) old

-- a text that is held in a lent list of so many places
abbrev pub held : ℕ → Result (List ℕ) → Result (List ℕ)
held room r = in_room room length r

-- what is written of a result: nothing where it is refused
unfoldable pub written : Result (List ℕ) → List ℕ
written (ok text) = text
written (refused n) = []

-- how many bytes of it stand in the list, or the refusal
unfoldable pub answered : Result (List ℕ) → OrRefusal ℕ
answered (ok text) = Ok (length text)
answered (refused n) = err n

-- the answer r for a result, and what `old` became
pub record Whole (result : Result (List ℕ)) (old : List ℕ) (r : OrRefusal ℕ) (new : List ℕ) : Type 0 where
  pub says : r ≡ answered (held (length old) result)
  pub holds : new ≡ over (written (held (length old) result)) old
