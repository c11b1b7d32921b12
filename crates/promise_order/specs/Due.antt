-- Document 01, "The refusals": tests in the paper's order, each with its number; where several hold, the first is the refusal that comes.
use Rattle.std.specs.Prelude.{ℕ, ◌≡◌, Bool, true, false, not, cond, List, [], ◌∷◌, leb}
use Rattle.std.proofs.Math.Option.{Option, none, some}
use Rattle.arith.specs.Refusals.{Result, ok, refused}
use Rattle.arith.specs.Numbers.{max_u32}

infix 70 ◌due-where◌
pub record Test : Type 0 where
  pub number : ℕ
  pub holds : Bool

abbrev pub ◌due-where◌ : ℕ → Bool → Test
◌due-where◌ n t = record { number = n; holds = t }

-- the first test that holds
unfoldable pub first : List Test → Option ℕ
first [] = none
first (t ∷ ts) = cond t.holds (some t.number) (first ts)

unfoldable pub refusal_of : {A : Type 0} → Result A → Option ℕ
refusal_of (ok a) = none
refusal_of (refused n) = some n

-- a result that has these tests, in this order, and no others
pub record InOrder {A : Type 0} (r : Result A) (tests : List Test) : Type 0 where
  pub comes : refusal_of r ≡ first tests

-- ---- tests that lean on another result

-- its own refusal
abbrev pub own : {A : Type 0} → Result A → Test
own (ok a) = 0 due-where false
own (refused n) = n due-where true

-- what is tested of its value; behind `own` nothing else is asked
abbrev pub behind : {A : Type 0} → Result A → (A → List Test) → List Test
behind (ok a) tests = tests a
behind (refused n) tests = []

-- above 32 bits
abbrev pub large : ℕ → Bool
large n = not (leb n max_u32)
