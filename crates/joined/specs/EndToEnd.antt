-- Document 01, the third demand, from a sheet's bytes to the words in the caller's lists: `end_to_end`.
use Rattle.std.specs.Prelude.{ℕ, ◌≤◌, ◌≡◌, false, List, length, Ok}
use Rattle.std.proofs.Math.Option.{some}
use Rattle.arith.specs.Refusals.{ok}
use Rattle.arith.specs.InCode.{OrRefusal}
use Rattle.arith.specs.Pairs.{both}
use Rattle.spirv.specs.declared.ChainOp.{ChainOp}
use Rattle.spirv.specs.declared.Index.{Index}
use Rattle.shapes.specs.Shapes.{MemTypeLayout, dyn_of}
use Rattle.shapes.specs.Settings.{setting_of}
use Rattle.sheet.specs.Sheet.{Sheet, read_sheet}
use Rattle.reading.specs.Reads.{ReadsInto}
use Rattle.records.specs.Records.{filling}
use Rattle.lower.specs.declared.QPtrOp.{QPtrOp}
use Rattle.lower.specs.Chain.{chain_in_room}
use Rattle.lower.specs.Statements.{Accepted, neighbours}
use Rattle.steps.specs.Lists.{steps_in}
use Rattle.moves.specs.Moves.{indices_in}
use Rattle.moves.specs.Written.{Wrote}
use Rattle.chain.specs.Chains.{room_of}
use Rattle.pointers.specs.OverTables.{chain_over}
use Rattle.promise.specs.Meaning.{Values}
use Rattle.promise.specs.Walk.{Walked, memory_at, start}
use Rattle.promise.specs.Statements.{Walks, Same, InRange, InsideOf}

-- ---- what the caller did

-- the lists that three calls were lent, and what they held afterwards, as the contracts of these calls say
pub record Calls (input : List ℕ) (op : ChainOp) (ptr : ℕ) (chain : List ℕ) : Type 0 where
  -- `read_sheet` read the bytes and answered n types
  pub setting₀ : List ℕ
  pub types₀ : List ℕ
  pub members₀ : List ℕ
  pub given₀ : List ℕ
  pub setting : List ℕ
  pub types : List ℕ
  pub members : List ℕ
  pub given : List ℕ
  pub n : ℕ
  pub read : ReadsInto input (Ok n) setting₀ types₀ members₀ given₀ setting types members given
  -- `layouts` laid them out; the list of offsets is as long as that of members
  pub offsets₀ : List ℕ
  pub layouts₀ : List ℕ
  pub offsets : List ℕ
  pub layouts : List ℕ
  pub filled : both (Ok tt) (both offsets layouts) ≡ filling (setting_of setting) types members given offsets₀ layouts₀ n
  pub places : length members₀ ≤ length offsets₀
  -- `lower_access_chain` gave this answer
  pub kinds₀ : List ℕ
  pub bytes₀ : List ℕ
  pub bounds₀ : List ℕ
  pub marks₀ : List ℕ
  pub indices₀ : List ℕ
  pub kinds : List ℕ
  pub bytes : List ℕ
  pub bounds : List ℕ
  pub marks : List ℕ
  pub indices : List ℕ
  pub answer : OrRefusal ℕ
  pub lowered : Wrote 0 (chain_over (room_of kinds₀ bytes₀ bounds₀ marks₀ indices₀) (setting_of setting) n types layouts offsets members op ptr chain) answer kinds₀ bytes₀ bounds₀ marks₀ indices₀ kinds bytes bounds marks indices

module _ {input : List ℕ} {op : ChainOp} {ptr : ℕ} {chain : List ℕ} (c : Calls input op ptr chain) where
  -- how many steps the five lists hold
  abbrev pub room_in : ℕ
  room_in = room_of c.kinds₀ c.bytes₀ c.bounds₀ c.marks₀ c.indices₀

  -- the first steps that stand in them afterwards
  abbrev pub steps_held : (count : ℕ) → List QPtrOp
  steps_held count = steps_in c.kinds c.bytes c.bounds c.marks c.indices count

-- ---- what then holds

-- demand 3, of steps
pub record Kept (s : Sheet) (op : ChainOp) (ptr : ℕ) (is : List Index) (steps : List QPtrOp) : Type 0 where
  pub accepted : Accepted s op ptr is steps
  pub same_byte : (v : Values) → Same s op ptr is steps v
  pub inside : (v : Values) (walks : Walks s op ptr is v) (w : Walked) (m : MemTypeLayout)
      → walks.reached.memory ≡ some w → memory_at s w ≡ some m → dyn_of m ≡ 0
      → InRange s v is (start s op walks.pointee) → InsideOf s walks.reached m
  pub no_neighbours : neighbours steps ≡ false

-- the answer and the lists are those of document 01's C for the sheet that the bytes are; and where the answer is a count, that many steps
-- stand in the lists, and they keep demand 3
pub record Carried (input : List ℕ) (op : ChainOp) (ptr : ℕ) (chain : List ℕ) (c : Calls input op ptr chain) : Type 0 where
  pub sheet : Sheet
  pub is_sheet : read_sheet input ≡ ok sheet
  pub types : c.n ≡ length sheet.types
  pub answered : length chain ≤ 510
      → Wrote 0 (chain_in_room (room_in c) sheet op ptr (indices_in chain)) c.answer c.kinds₀ c.bytes₀ c.bounds₀ c.marks₀ c.indices₀ c.kinds c.bytes c.bounds c.marks c.indices
  pub count_is : (count : ℕ) → c.answer ≡ Ok count → length (steps_held c count) ≡ count
  pub kept : (count : ℕ) → c.answer ≡ Ok count → Kept sheet op ptr (indices_in chain) (steps_held c count)

abbrev pub EndToEnd : Type 0
EndToEnd = (input : List ℕ) (op : ChainOp) (ptr : ℕ) (chain : List ℕ) (c : Calls input op ptr chain) → Carried input op ptr chain c
