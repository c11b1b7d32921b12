-- What the walk of a chain comes to over tables, and the measures of its two parts.
use Rattle.std.specs.Prelude.{ℕ, ◌+◌, ◌-◌, ◌*◌, ◌≤◌, min, ◌≡◌, List, [], ◌∷◌, ltb, length, drop, None, Ok, Err}
use Rattle.arith.specs.Refusals.{Result, ok, refused, ◌>>◌, refuse◌when◌, oversize}
use Rattle.arith.specs.InCode.{OrRefusal}
use Rattle.spirv.specs.declared.Index.{Index}
use Rattle.shapes.specs.declared.TypeLayout.{TypeLayout}
use Rattle.places.specs.declared.Place.{Place}
use Rattle.places.specs.declared.Place.TheVariants.{Memory, Buffer, Buffers, Opaque, Opaques}
use Rattle.places.specs.Places.{layout_at}
use Rattle.lower.specs.declared.QPtrOp.{QPtrOp}
use Rattle.shapes.specs.Rows.{answer_at}
use Rattle.shapes.specs.Spans.{spans_of, layout_by, answer_by}
use Rattle.lower.specs.Steps.{Pending, flush, lower_from}
use Rattle.moves.specs.Moves.{indices_in}
use Rattle.moves.specs.Written.{before, in_room_behind}
use Rattle.chain.specs.declared.Run.{Run}
use Rattle.chain.specs.declared.Run.TheVariants.{Ended, Gives}

-- ---- measures

-- a handle may bring a step of its own before an index is used
abbrev pub weight : Place → ℕ
weight (Memory c) = 0
weight (Buffer c) = 2
weight (Buffers c) = 2
weight Opaque = 2
weight Opaques = 2

-- a place among the words of at most 255 indices
abbrev pub Within : (at words : ℕ) → Type 0
Within at words = (at ≤ words) × (words ≤ 510)

-- what is left of a walk: two for each word, and two for a buffer that is entered
abbrev pub left : (words at : ℕ) → Place → ℕ
left words at l = 2 * (words - at) + weight l

-- the steps stay few
abbrev pub Few : (n words at : ℕ) → Place → Type 0
Few n words at l = n + left words at l ≤ 4096

-- ---- chains over tables

-- the steps of indices from a layout on, by the layouts of the first `types` types, whose structs are spans of two lists
unfoldable pub chain_from : (layouts offsets members : List ℕ) (types : ℕ) → TypeLayout → Pending → List Index → Result (List QPtrOp)
chain_from layouts offsets members types l p is = lower_from (λ t. answer_by (spans_of offsets members) (answer_at layouts types t)) (layout_by (spans_of offsets members) l) p is

-- the steps from a place on, of the indices whose words stand behind the first `at` words of a chain
unfoldable pub on_from : (layouts offsets members : List ℕ) (types : ℕ) (chain : List ℕ) (at : ℕ) → Place → Pending → Result (List QPtrOp)
on_from layouts offsets members types chain at l p = chain_from layouts offsets members types (layout_at l) p (indices_in (drop at chain))

-- from a place on; more than 255 indices are 2, before all else
unfoldable pub chain_of : (room : ℕ) (layouts offsets members : List ℕ) (types : ℕ) → Place → (chain : List ℕ) → Result (List QPtrOp)
chain_of room layouts offsets members types l chain = do
  refuse oversize when ltb 510 (length chain)
  in_room_behind room 0 (on_from layouts offsets members types chain 0 l None)

-- the places that all five lists have
abbrev pub room_of : (ks bs ls ms is : List ℕ) → ℕ
room_of ks bs ls ms is = min (length ks) (min (length bs) (min (length ls) (min (length ms) (length is))))

-- ---- how far a walk gets without a step

module _ (layouts offsets members : List ℕ) (types : ℕ) (chain : List ℕ) where
  abbrev pub ran_on : OrRefusal Run → Result (List QPtrOp)
  ran_on (Err e) = refused e.number
  ran_on (Ok (Ended q)) = ok (flush q [])
  ran_on (Ok (Gives q u s at)) = before (flush q (s ∷ [])) (on_from layouts offsets members types chain at u None)

  -- a step takes an index, or enters a buffer
  abbrev pub Falls : (from : ℕ) → Place → OrRefusal Run → Type 0
  Falls from l (Err e) = Unit {0}
  Falls from l (Ok (Ended q)) = Unit {0}
  Falls from l (Ok (Gives q u s at)) = (at ≤ length chain) × (left (length chain) at u + 2 ≤ left (length chain) from l)

  pub record Ran (from : ℕ) (l : Place) (p : Pending) (r : OrRefusal Run) : Type 0 where
    pub goes : on_from layouts offsets members types chain from l p ≡ ran_on r
    pub falls : Falls from l r
