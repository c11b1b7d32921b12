-- `chain::lower_from` meets its contract: 2 before all else, and then the struct part from the place on. Assumes nothing.
use Rattle.std.proofs.Common.{◌≡◌, arith}
use Rattle.chain.specs.Chains.{room_of}
use Rattle.moves.proofs.Writes.{refused_wrote}
use Rattle.chain.proofs.Chains.{too_many, few_enough}
use Rattle.chain.proofs.lower_from.Goals as goal

pub returns-then-chain-gt-MAX_WORDS : goal.returns-then-chain-gt-MAX_WORDS
returns-then-chain-gt-MAX_WORDS c = let a = c.args in
    refused_wrote _ _ _ _ _ _ _ _ (too_many _ a.layouts.now.rows.now a.layouts.now.offsets.now a.layouts.now.members.now a.layouts.now.count a.l a.chain.now (omega (arith, c.if-chain-gt-MAX_WORDS.true)))

pub returns : goal.returns
returns c = let a = c.args in
    let room : room_of a.kinds.now a.bytes.now a.bounds.now a.marks.now a.indices.now ≡ c.min-room.result = omega (arith, c.min.ensures, c.min-2.ensures, c.min-3.ensures, c.min-room.ensures) in
    rw (room, few_enough c.min-room.result a.layouts.now.rows.now a.layouts.now.offsets.now a.layouts.now.members.now a.layouts.now.count a.l a.chain.now (omega (arith, c.if-chain-gt-MAX_WORDS.false))) c.struct_part.ensures
