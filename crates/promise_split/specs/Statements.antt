-- Document 02, n: what is promised of a chain that is split after its first index or later, as statements.
use Rattle.std.specs.Prelude.{ℕ, ◌≡◌, List, ◌∷◌, ◌++◌, ◌⊎◌}
use Rattle.std.proofs.Math.Option.{some}
use Rattle.arith.specs.Refusals.{Result, ok, refused, step_overflow}
use Rattle.spirv.specs.declared.ChainOp.{ChainOp}
use Rattle.spirv.specs.declared.ChainOp.TheVariants.{AccessChain}
use Rattle.spirv.specs.declared.Index.{Index}
use Rattle.sheet.specs.Sheet.{Sheet, pointee_in}
use Rattle.lower.specs.declared.QPtrOp.{QPtrOp}
use Rattle.lower.specs.Chain.{lower_chain}
use Rattle.lower.specs.Statements.{Accepted}
use Rattle.promise.specs.Meaning.{Values, run}
use Rattle.promise.specs.Walk.{type_no, Place, walk, start}
use Rattle.promise.specs.Statements.{Walks}
use Rattle.promise_split.specs.Parts.{lower_from_type, start_at, joined}

-- ---- the type reached

-- the walk of a chain ends at this type of the sheet, whatever the unknowns stand for
abbrev pub Reaches : Sheet → ChainOp → (ptr : ℕ) → List Index → (type : ℕ) → Type 0
Reaches s op ptr is t = (v : Values) → (w : Walks s op ptr is v) × (w.reached.type ≡ type_no t)

-- a chain with an index, of any op, reaches one: so it can be split after its first index or later
abbrev pub TypeReached : Type 0
TypeReached =
    (s : Sheet) (op : ChainOp) (ptr : ℕ) (i : Index) (is : List Index) (steps : List QPtrOp) → Accepted s op ptr (i ∷ is) steps
    → (t : ℕ) × Reaches s op ptr (i ∷ is) t

-- ---- where the whole and both parts are accepted

pub record Split (s : Sheet) (op : ChainOp) (ptr : ℕ) (is js : List Index) (whole first : List QPtrOp) (t : ℕ) (second : List QPtrOp) : Type 0 where
  pub whole_accepted : Accepted s op ptr (is ++ js) whole
  pub first_accepted : Accepted s op ptr is first
  pub type_reached : Reaches s op ptr is t
  pub second_accepted : lower_from_type s t js ≡ ok second

-- for these values of the unknowns: the whole's walk, the first part's, and the second part's from where the first ended
pub record Agreement (s : Sheet) (op : ChainOp) (ptr : ℕ) (is js : List Index) (whole first : List QPtrOp) (t : ℕ) (second : List QPtrOp) (v : Values) : Type 0 where
  pub whole_walk : Walks s op ptr (is ++ js) v
  pub first_walk : Walks s op ptr is v
  pub second_end : Place
  pub second_walk : walk s v js (start_at s t first_walk.reached.spot) ≡ some second_end
  -- handle, exact byte and last type
  pub same_handle : second_end.spot.handle ≡ whole_walk.reached.spot.handle
  pub same_byte : second_end.spot.byte ≡ whole_walk.reached.spot.byte
  pub same_type : second_end.type ≡ whole_walk.reached.type
  -- the steps of the first part and then those of the second do what the whole's do
  pub same_steps : run v second (run v first (start s op whole_walk.pointee).spot) ≡ run v whole (start s op whole_walk.pointee).spot
  pub steps_reach : run v whole (start s op whole_walk.pointee).spot ≡ whole_walk.reached.spot

abbrev pub SplitChains : Type 0
SplitChains =
    (s : Sheet) (op : ChainOp) (ptr : ℕ) (is js : List Index) (whole first : List QPtrOp) (t : ℕ) (second : List QPtrOp) → Split s op ptr is js whole first t second
    → (v : Values) → Agreement s op ptr is js whole first t second v

-- and where the second part is walked from a start of its own, as a host does that lowers it through a pointer to the type reached
pub record OwnStart (s : Sheet) (op : ChainOp) (ptr : ℕ) (is js : List Index) (t : ℕ) (v : Values) : Type 0 where
  pub whole_walk : Walks s op ptr (is ++ js) v
  pub first_walk : Walks s op ptr is v
  pub second_end : Place
  pub second_walk : walk s v js (start s AccessChain t) ≡ some second_end
  pub same_spot : joined first_walk.reached.spot second_end.spot ≡ whole_walk.reached.spot
  pub same_type : second_end.type ≡ whole_walk.reached.type

abbrev pub SplitApart : Type 0
SplitApart =
    (s : Sheet) (op : ChainOp) (ptr : ℕ) (is js : List Index) (whole first : List QPtrOp) (t : ℕ) (second : List QPtrOp) → Split s op ptr is js whole first t second
    → (v : Values) → OwnStart s op ptr is js t v

-- a pointer to the type reached does for the second part
abbrev pub ThroughPointer : Type 0
ThroughPointer = (s : Sheet) (ptr t : ℕ) (is : List Index) → pointee_in s ptr ≡ ok t → lower_from_type s t is ≡ lower_chain s AccessChain ptr is

-- ---- the refusals

-- two results are refused alike but for 23: where neither is refused by 23, both have steps, or both have the same number
abbrev pub AlikeBut23 : Result (List QPtrOp) → Result (List QPtrOp) → Type 0
AlikeBut23 (ok xs) (ok ys) = Unit {0}
AlikeBut23 (ok xs) (refused n) = n ≡ step_overflow
AlikeBut23 (refused m) (ok ys) = m ≡ step_overflow
AlikeBut23 (refused m) (refused n) = (m ≡ step_overflow) ⊎ (n ≡ step_overflow) ⊎ (m ≡ n)

-- the whole and the second part of a chain whose first part is accepted
abbrev pub SplitRefusals : Type 0
SplitRefusals =
    (s : Sheet) (op : ChainOp) (ptr : ℕ) (is js : List Index) (first : List QPtrOp) (t : ℕ) → Accepted s op ptr is first → Reaches s op ptr is t
    → AlikeBut23 (lower_chain s op ptr (is ++ js)) (lower_from_type s t js)

-- so where both parts are accepted, the whole is accepted or refused by 23 and nothing else
abbrev pub AcceptedOr23 : Result (List QPtrOp) → Type 0
AcceptedOr23 r = ((steps : List QPtrOp) × (r ≡ ok steps)) ⊎ (r ≡ refused step_overflow)

abbrev pub WholeOr23 : Type 0
WholeOr23 =
    (s : Sheet) (op : ChainOp) (ptr : ℕ) (is js : List Index) (first : List QPtrOp) (t : ℕ) (second : List QPtrOp)
    → Accepted s op ptr is first → Reaches s op ptr is t → lower_from_type s t js ≡ ok second
    → AcceptedOr23 (lower_chain s op ptr (is ++ js))

-- where the whole is accepted, so is its first part; and its second part is accepted or refused by 23 and nothing else
abbrev pub PartsOr23 : Type 0
PartsOr23 =
    (s : Sheet) (op : ChainOp) (ptr : ℕ) (is js : List Index) (whole : List QPtrOp) → Accepted s op ptr (is ++ js) whole
    → (first : List QPtrOp) × Accepted s op ptr is first × ((t : ℕ) → Reaches s op ptr is t → AcceptedOr23 (lower_from_type s t js))

-- a refused first part is a refused whole, by the same number
abbrev pub FirstRefused : Type 0
FirstRefused = (s : Sheet) (op : ChainOp) (ptr : ℕ) (is js : List Index) (n : ℕ) → lower_chain s op ptr is ≡ refused n → lower_chain s op ptr (is ++ js) ≡ refused n
