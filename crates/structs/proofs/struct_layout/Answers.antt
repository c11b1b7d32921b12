-- `structs::struct_layout` meets its contract: the walk leaves the offsets that the memory has. Assumes nothing.
use Rattle.std.proofs.Common.{sym, ◌∙◌}
use Rattle.arith.specs.Refusals.{◌>>◌, refuse◌unless◌}
use Rattle.structs.specs.Rows.{below_in, memory_alone, memory_of, struct_of_row, struct_both}
use Rattle.structs.proofs.Inversions.{mapped_ok}
use Rattle.structs.proofs.Memory.{of_offsets}
use Rattle.structs.proofs.struct_layout.Goals as goal

pub returns : goal.returns
unfolding struct_both struct_of_row ◌>>◌ refuse◌unless◌
returns c =
    let a = c.args in
    let b = below_in a.all.now.layouts.now a.all.now.n in
    let s = mapped_ok memory_alone (memory_of a.all.now.cfg b c.span-types.result.now c.span-given.result.now a.r) _ c.in_ok-mem.ensures in
    let o = of_offsets a.all.now.cfg b c.span-types.result.now c.span-given.result.now a.r s.value s.here in
    rw (sym c.within.ensures ∙ c.if-not-within.false, ← c.span-types.ensures, ← c.span-given.ensures, s.here, s.same, ← o, c.block_or.ensures, c.write_offsets.ensures)
