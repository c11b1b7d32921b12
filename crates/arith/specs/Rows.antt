-- Rows of a table, n items each, one behind the other, as document 01 lays out the words of types, indices and layouts.
use Rattle.std.specs.Prelude.{ℕ, ◌+◌, ◌*◌, ◌≤◌, ◌≡◌, List, length, take, drop}

-- what row i of a table is, which has it whole
pub record IsRow {A : Type 0} (n : ℕ) (table : List A) (i : ℕ) (row : List A) : Type 0 where
  pub whole : n * i + n ≤ length table
  pub items : row ≡ take n (drop (n * i) table)
