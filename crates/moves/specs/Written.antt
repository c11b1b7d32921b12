-- What the walk of a chain answers, and what it leaves in the five lent lists.
use Rattle.std.specs.Prelude.{ℕ, ◌+◌, ◌≡◌, List, [], ◌∷◌, ◌++◌, length, None, Some, Ok, Err}
use Rattle.arith.specs.Refusals.{Result, ok, refused, in_room}
use Rattle.arith.specs.InCode.{OrRefusal, err}
use Rattle.lower.specs.declared.QPtrOp.{QPtrOp}
use Rattle.lower.specs.Steps.{Pending, flush}
use Rattle.steps.specs.Stored.{StoredAt}

-- the answer of a walk that began behind n steps
abbrev pub walk_of : ℕ → Result (List QPtrOp) → OrRefusal ℕ
walk_of n (ok steps) = Ok (n + length steps)
walk_of n (refused e) = err e

-- a refused chain leaves no step
abbrev pub steps_of : Result (List QPtrOp) → List QPtrOp
steps_of (ok steps) = steps
steps_of (refused e) = []

-- a result with steps in front
abbrev pub before : List QPtrOp → Result (List QPtrOp) → Result (List QPtrOp)
before steps (ok rest) = ok (steps ++ rest)
before steps (refused e) = refused e

-- 24, with n steps in front
unfoldable pub in_room_behind : (room n : ℕ) → Result (List QPtrOp) → Result (List QPtrOp)
in_room_behind room n r = in_room room (λ steps. n + length steps) r

-- the result, with n steps in front: the answer, and each list afterwards
pub record Wrote (n : ℕ) (result : Result (List QPtrOp)) (r : OrRefusal ℕ) (ks bs ls ms is ks' bs' ls' ms' is' : List ℕ) : Type 0 where
  pub says : r ≡ walk_of n result
  pub stored : StoredAt n (steps_of result) ks bs ls ms is ks' bs' ls' ms' is'

-- steps stored in front of those of a walk, unless it is refused
abbrev pub in_front_of : OrRefusal ℕ → List QPtrOp → List QPtrOp
in_front_of (Ok m) steps = steps
in_front_of (Err e) steps = []

-- what waits and the step s, stored in front of the steps of a walk r
pub record Prefixed (r : OrRefusal ℕ) (p : Pending) (s : QPtrOp) (n : ℕ) (x : OrRefusal ℕ) (ks bs ls ms is ks' bs' ls' ms' is' : List ℕ) : Type 0 where
  pub says : x ≡ r
  pub stored : StoredAt n (in_front_of r (flush p (s ∷ []))) ks bs ls ms is ks' bs' ls' ms' is'

-- how many steps there are once what waits is one
abbrev pub after_of : Pending → ℕ → ℕ
after_of None n = n
after_of (Some z) n = n + 1
