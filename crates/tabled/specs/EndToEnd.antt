-- Document 01, the third demand, from a sheet's bytes to the bytes of the steps, through one table: `end_to_end`.
use Rattle.std.specs.Prelude.{ℕ, ◌*◌, ◌≤◌, ◌≡◌, List, Some, Ok, length, take}
use Rattle.std.proofs.Math.Option.{some}
use Rattle.std.proofs.Math.ListN.{get_elem?}
use Rattle.arith.specs.Refusals.{ok}
use Rattle.arith.specs.InCode.{OrRefusal}
use Rattle.spirv.specs.declared.ChainOp.{ChainOp}
use Rattle.spirv.specs.declared.Index.{Index}
use Rattle.sheet.specs.Sheet.{Sheet, max_indices, read_sheet}
use Rattle.sheet.specs.Statements.{All}
use Rattle.lower.specs.declared.QPtrOp.{QPtrOp}
use Rattle.lower.specs.Chain.{chain_in_room}
use Rattle.wire.specs.Wire.{Byte, indices_of, steps_bytes, step_no}
use Rattle.joined.specs.EndToEnd.{Kept}
use Rattle.flat.specs.Reads.{ReadsTable}
use Rattle.tabled.specs.Chains.{op_of, chain_in, room_in, Lowered}

-- the lists that two calls were lent, and what they held afterwards, as the contracts of these calls say
pub record Calls (input : List ℕ) (op ptr : ℕ) (chain : List ℕ) : Type 0 where
  -- `read_table` read the bytes and answered n types
  pub table₀ : List ℕ
  pub table : List ℕ
  pub n : ℕ
  pub read : ReadsTable input (Ok n) table₀ table
  -- `lower_chain` gave this answer
  pub out₀ : List ℕ
  pub out : List ℕ
  pub answer : OrRefusal ℕ
  pub lowered : Lowered (chain_in (room_in out₀) table op ptr chain) answer out₀ out

-- steps that keep demand 3 for the op and the indices that were asked
pub record KeptSteps (s : Sheet) (op ptr : ℕ) (chain : List ℕ) (steps : List QPtrOp) : Type 0 where
  pub asked : ChainOp
  pub by_number : op_of op ≡ Some asked
  pub indices : List Index
  pub by_bytes : indices_of chain ≡ ok indices
  pub kept : Kept s asked ptr indices steps

-- the first `count` steps of `out`, 20 bytes each, keep it
pub record KeptBytes (s : Sheet) (op ptr : ℕ) (chain out : List ℕ) (count : ℕ) : Type 0 where
  pub steps : List QPtrOp
  pub many : length steps ≡ count
  pub bytes : take (20 * count) out ≡ steps_bytes steps
  -- and these are the steps that a host reads in the bytes
  pub each : All Byte chain → (j : ℕ) (step : QPtrOp) → get_elem? steps j ≡ some step → step_no out j ≡ step
  pub kept : KeptSteps s op ptr chain steps

-- the answer and the bytes are those of document 01's C for the sheet that the bytes are, in the room that the caller lends; and where the answer
-- is a count, that many steps stand there, and they keep demand 3
pub record Carried (input : List ℕ) (op ptr : ℕ) (chain : List ℕ) (c : Calls input op ptr chain) : Type 0 where
  pub sheet : Sheet
  pub is_sheet : read_sheet input ≡ ok sheet
  pub types : c.n ≡ length sheet.types
  pub answered : (o : ChainOp) (is : List Index) → op_of op ≡ Some o → indices_of chain ≡ ok is → length is ≤ max_indices
      → Lowered (chain_in_room (room_in c.out₀) sheet o ptr is) c.answer c.out₀ c.out
  pub kept : (count : ℕ) → c.answer ≡ Ok count → KeptBytes sheet op ptr chain c.out count

abbrev pub EndToEnd : Type 0
EndToEnd = (input : List ℕ) (op ptr : ℕ) (chain : List ℕ) (c : Calls input op ptr chain) → Carried input op ptr chain c
