-- What the code hands from function to function before it writes, here and in `recorded`: a chain in the room of its own lists. None of it is document 01's.
use Rattle.std.specs.Prelude.{ℕ, ◌≡◌, List, length, Ok, Err}
use Rattle.std.specs.Fn.{Shared}
use denote.Ref.{Bor, MutBor}
use Rattle.arith.specs.Refusals.{Result, ok, refused, ◌>>=◌, in_room}
use Rattle.arith.specs.InCode.{OrRefusal}
use Rattle.spirv.specs.declared.ChainOp.{ChainOp}
use Rattle.lower.specs.declared.QPtrOp.{QPtrOp}
use Rattle.steps.specs.declared.Steps.{Steps}
use Rattle.steps.specs.Lists.{steps_in}
use Rattle.words.specs.Little.{words_of}
use Rattle.pointers.specs.OverTables.{chain_over}
use Rattle.flat.specs.Table.{count_in, setting_in, types_in, members_in, places_in, layouts_in}
use Rattle.tabled.specs.Chains.{asked_in, chain_in}

-- ---- in the room of the code's lists

-- by the words of the indices
abbrev pub chain_of : (room : ℕ) → (table : List ℕ) → ChainOp → (ptr : ℕ) → (words : List ℕ) → Result (List QPtrOp)
chain_of room table o ptr words = chain_over room (setting_in table) (count_in table) (types_in table) (layouts_in table) (places_in table) (members_in table) o ptr words

-- what is asked
unfoldable pub walk_in : (room : ℕ) → (table : List ℕ) → (op ptr : ℕ) → (bytes : List ℕ) → Result (List QPtrOp)
walk_in room table op ptr bytes = do
  o ← asked_in table op ptr bytes
  chain_of room table o ptr (words_of bytes)

-- the steps that a walk left in five lists
abbrev pub held_by : OrRefusal ℕ → (ks bs ls ms is : List ℕ) → Result (List QPtrOp)
held_by (Ok n) ks bs ls ms is = ok (steps_in ks bs ls ms is n)
held_by (Err e) ks bs ls ms is = refused e.number

-- ---- into any list

-- what a walk left in five lists was put into a list by a call of f, which gave this answer and left the list so
pub record PutBy {F T : Type 0} (g : Shared F (OrRefusal ℕ × (Bor Steps × (MutBor (List T) × Unit {0}))) (OrRefusal ℕ × (MutBor (List T) × Unit {0}))) (f : F) (walk : Result (List QPtrOp)) (old : List T) (r : OrRefusal ℕ) (new : List T) : Type 0 where
  pub left : OrRefusal ℕ
  pub steps : Bor Steps
  pub before : MutBor (List T)
  pub after : MutBor (List T)
  pub called : g.post f (left, (steps, (before, tt))) (r, (after, tt))
  pub held : held_by left steps.now.kinds.now steps.now.bytes.now steps.now.bounds.now steps.now.marks.now steps.now.indices.now ≡ walk
  pub old_is : before.now ≡ old
  pub new_is : after.now ≡ new

-- said of the steps or the refusal that are, in any room, the chain's
pub record Walked (table : List ℕ) (op ptr : ℕ) (chain : List ℕ) (Says : Result (List QPtrOp) → Type 0) : Type 0 where
  pub walk : Result (List QPtrOp)
  pub is : (room : ℕ) → chain_in room table op ptr chain ≡ in_room room length walk
  pub says : Says walk
