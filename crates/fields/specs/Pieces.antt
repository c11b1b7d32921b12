-- Where the pieces of a list of bytes start and end: lines between LFs, and the fields of a line between commas.
use Rattle.std.specs.Prelude.{ℕ, ◌+◌, ◌-◌, ◌≤◌, ◌<◌, ◌≡◌, cond, List, [], ◌∷◌, ltb, length, take, drop}
use Prim.Native.Char.{code}
use Rattle.decimal.specs.Text.{split}

-- the part of a list from index a up to, not including, index e
abbrev pub part : ℕ → ℕ → List ℕ → List ℕ
part a e s = take (e - a) (drop a s)

-- a piece starts at index a and ends at index e: what follows index a is that piece, and the pieces behind the byte c at e, if there is one
pub record Piece (c : ℕ) (s : List ℕ) (a e : ℕ) : Type 0 where
  pub from : a ≤ e
  pub within : e ≤ length s
  pub more : e < length s → split c (drop a s) ≡ part a e s ∷ split c (drop (e + 1) s)
  pub last : length s ≤ e → split c (drop a s) ≡ part a e s ∷ []

-- the fields of a line behind the one that ends at index e
unfoldable pub behind : List ℕ → ℕ → List (List ℕ)
behind line e = cond (ltb e (length line)) (split (code ",") (drop (e + 1) line)) []
