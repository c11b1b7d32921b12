-- A value or none: `do` goes on with the value, and ends where there is none.
use Rattle.std.proofs.Math.Option.{Option, none, some}

infixl 10 ◌>>=◌
unfoldable pub ◌>>=◌ : {A B : Type 0} → Option A → (A → Option B) → Option B
◌>>=◌ none next = none
◌>>=◌ (some a) next = next a
