-- `lowering::lower_access_chain` meets its contract: 1 and 2 before all else, then the start, and the walk from it. Assumes nothing.
use Rattle.std.proofs.Common.{rules, ◌≡◌, Err}
use Rattle.chain.specs.Chains.{room_of}
use Rattle.moves.proofs.Writes.{refused_wrote}
use Rattle.lowering.proofs.Chains.{no_such, too_long, no_start, from_start}
use Rattle.lowering.proofs.lower_access_chain.Goals as goal

pub returns-then-n-ptr : goal.returns-then-n-ptr
returns-then-n-ptr c = let a = c.args in
    refused_wrote _ _ _ _ _ _ _ _ (no_such _ a.tables.now.cfg a.tables.now.layouts.count a.tables.now.types.now a.tables.now.layouts.rows.now a.tables.now.layouts.offsets.now a.tables.now.layouts.members.now a.op a.ptr a.chain.now c.if-n-ptr.true)

pub returns-then-chain-gt-MAX_WORDS : goal.returns-then-chain-gt-MAX_WORDS
returns-then-chain-gt-MAX_WORDS c = let a = c.args in
    refused_wrote _ _ _ _ _ _ _ _ (too_long _ a.tables.now.cfg a.tables.now.layouts.count a.tables.now.types.now a.tables.now.layouts.rows.now a.tables.now.layouts.offsets.now a.tables.now.layouts.members.now a.op a.ptr a.chain.now c.if-n-ptr.false c.if-chain-gt-MAX_WORDS.true)

pub returns-in_err-l : goal.returns-in_err-l
returns-in_err-l c = let a = c.args in
    let e : c.from_residual.result ≡ Err c.in_err-l.field-0.0 = search rules in
    rw e (refused_wrote _ _ _ _ _ _ _ _ (no_start _ a.tables.now.cfg a.tables.now.layouts.count a.tables.now.types.now a.tables.now.layouts.rows.now a.tables.now.layouts.offsets.now a.tables.now.layouts.members.now a.op a.ptr a.chain.now c.if-n-ptr.false c.if-chain-gt-MAX_WORDS.false _ c.start_at.ensures _ c.in_err-l.was))

pub returns : goal.returns
returns c = let a = c.args in
    rw (from_start (room_of a.kinds.now a.bytes.now a.bounds.now a.marks.now a.indices.now) a.tables.now.cfg a.tables.now.layouts.count a.tables.now.types.now a.tables.now.layouts.rows.now a.tables.now.layouts.offsets.now a.tables.now.layouts.members.now a.op a.ptr a.chain.now c.if-n-ptr.false c.if-chain-gt-MAX_WORDS.false _ c.start_at.ensures _ c.in_ok-l.was)
    c.lower_from.ensures
