-- The lines of a text, which LFs end: the one from an index on.
use Rattle.std.specs.Prelude.{ℕ, ◌+◌, ◌<◌, ◌≡◌, List, [], ◌∷◌, length, drop, Option, Some, None}
use Rattle.std.specs.Borrow.{Bor}
use Rattle.decimal.specs.Text.{split}

-- a line with an LF behind it, and the pieces behind that
pub record Ahead (s : List ℕ) (at : ℕ) (line : List ℕ) : Type 0 where
  pub within : at + length line < length s
  pub pieces : split 10 (drop at s) ≡ line ∷ split 10 (drop (at + (length line + 1)) s)

-- what is left where there is none is one piece
abbrev pub LineAt : List ℕ → ℕ → Option (Bor (List ℕ)) → Type 0
LineAt s at None = split 10 (drop at s) ≡ drop at s ∷ []
LineAt s at (Some line) = Ahead s at line.now
