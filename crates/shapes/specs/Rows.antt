-- A table of layouts: a row of ten words a type, one behind the other.
use Rattle.std.specs.Prelude.{ℕ, ◌*◌, cond, List, [], ◌∷◌, ◌++◌, ltb, take, drop}
use Rattle.arith.specs.Refusals.{misread}
use Rattle.shapes.specs.Words.{encode, decode}
use Rattle.shapes.specs.declared.TypeLayout.{TypeLayout}
use Rattle.arith.specs.InCode.{OrRefusal, err}

unfoldable pub row_at : List ℕ → ℕ → OrRefusal TypeLayout
row_at table i = decode (take 10 (drop (10 * i) table))

-- of the first n types; a number that is not below n is refused with 1
unfoldable pub answer_at : List ℕ → (n t : ℕ) → OrRefusal TypeLayout
answer_at table n t = cond (ltb t n) (row_at table t) (err misread)

-- the words of a table's rows
unfoldable pub flat : List (OrRefusal TypeLayout) → List ℕ
flat [] = []
flat (a ∷ rest) = encode a ++ flat rest
