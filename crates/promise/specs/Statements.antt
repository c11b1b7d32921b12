-- Document 01, "The typed walk", and the third demand: what is promised of chains, as statements. (That no two neighbours are both constant offsets is lower's NoNeighbours.)
use Rattle.std.specs.Prelude.{ℕ, ◌+◌, ◌≤◌, ◌<◌, ◌≡◌, List, [], ◌∷◌, ℤ, pos}
use Rattle.std.proofs.Math.Option.{Option, none, some}
use Rattle.arith.specs.Refusals.{ok}
use Rattle.spirv.specs.declared.ChainOp.{ChainOp}
use Rattle.spirv.specs.declared.Index.{Index}
use Rattle.shapes.specs.Shapes.{MemTypeLayout, Concrete, size_of, dyn_of}
use Rattle.sheet.specs.Sheet.{Sheet, pointee_in}
use Rattle.lower.specs.declared.QPtrOp.{QPtrOp}
use Rattle.lower.specs.Statements.{Accepted}
use Rattle.promise.specs.Meaning.{Values, value, run}
use Rattle.promise.specs.Walk.{Walked, type_no, Kind, handle_array, buffer, opaque, struct, array, scalar, unlaid, kind_of, layout_at, memory_at, stride_at, Place, step, walk, start}

-- the walk of a chain from its start, to its end: each index finds its part
pub record Walks (s : Sheet) (op : ChainOp) (ptr : ℕ) (is : List Index) (v : Values) : Type 0 where
  pub pointee : ℕ
  pub points : pointee_in s ptr ≡ ok pointee
  pub reached : Place
  pub walked : walk s v is (start s op pointee) ≡ some reached

-- ---- same byte: for every value of the unknowns the walk is defined, and steps from the same start end at the same handle and byte

pub record Same (s : Sheet) (op : ChainOp) (ptr : ℕ) (is : List Index) (steps : List QPtrOp) (v : Values) : Type 0 where
  pub by_walk : Walks s op ptr is v
  pub by_steps : run v steps (start s op by_walk.pointee).spot ≡ by_walk.reached.spot

abbrev pub SameByte : Type 0
SameByte =
    (s : Sheet) (op : ChainOp) (ptr : ℕ) (is : List Index) (steps : List QPtrOp) → Accepted s op ptr is steps
    → (v : Values) → Same s op ptr is steps v

-- ---- inside: in range, the part reached lies wholly inside the memory walked

-- a whole number from 0 to below a length
pub record Below (len : ℕ) (z : ℤ) : Type 0 where
  pub number : ℕ
  pub is : z ≡ pos number
  pub below : number < len

-- an array index is in range; an array without length asks nothing
abbrev pub InLength : Option ℕ → ℤ → Type 0
InLength none z = Unit {0}
InLength (some len) z = Below len z

-- the stride passed isn't below the element's size
abbrev pub Spaced : Sheet → Walked → (elem : ℕ) → Type 0
Spaced s w elem = (stride : ℕ) (e : MemTypeLayout) → stride_at s w ≡ some stride → memory_at s (type_no elem) ≡ some e → size_of e ≤ stride

-- at an array in memory; elsewhere nothing is asked
abbrev pub InRangeBy : Sheet → Kind → Walked → ℤ → Type 0
InRangeBy s (handle_array elem) w z = Unit {0}
InRangeBy s (buffer ms) w z = Unit {0}
InRangeBy s opaque w z = Unit {0}
InRangeBy s (struct ms) w z = Unit {0}
InRangeBy s (array elem len) w z = InLength len z × Spaced s w elem
InRangeBy s scalar w z = Unit {0}
InRangeBy s unlaid w z = Unit {0}

-- of the place that a step leads to
abbrev pub Then : Option Place → (Place → Type 0) → Type 0
Then none next = Unit {0}
Then (some p) next = next p

-- at each index of the walk
abbrev pub InRange : Sheet → Values → List Index → Place → Type 0
InRange s v [] p = Unit {0}
InRange s v (i ∷ is) p = InRangeBy s (kind_of s p.type) p.type (value v i) × Then (step s v i p) (InRange s v is)

-- the part at a place lies inside m: it is memory, at a byte from 0 on, and ends within m's size
pub record InsideOf (s : Sheet) (p : Place) (m : MemTypeLayout) : Type 0 where
  pub byte : ℕ
  pub at_byte : p.spot.byte ≡ some (pos byte)
  pub part : MemTypeLayout
  pub is_part : layout_at s p.type ≡ ok (Concrete part)
  pub ends : byte + size_of part ≤ size_of m

-- where the memory walked, w, has the layout m of a fixed size
abbrev pub Inside : Type 0
Inside =
    (s : Sheet) (op : ChainOp) (ptr : ℕ) (is : List Index) (steps : List QPtrOp) → Accepted s op ptr is steps
    → (v : Values) (walks : Walks s op ptr is v) (w : Walked) (m : MemTypeLayout)
    → walks.reached.memory ≡ some w → memory_at s w ≡ some m → dyn_of m ≡ 0
    → InRange s v is (start s op walks.pointee)
    → InsideOf s walks.reached m
