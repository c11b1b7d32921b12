-- All that a theorem by computation unfolds of this crate and those below it, under one name. Made by tools/opened.
use Rattle.arith.proofs.Opened as of-arith
use Rattle.spirv.proofs.Opened as of-spirv
use Rattle.shapes.proofs.Opened as of-shapes
use Rattle.sheet.proofs.Opened as of_sheet
use Rattle.layout.proofs.Opened as of-layout
use Rattle.lower.specs.Chain as chain
use Rattle.lower.specs.Other as other
use Rattle.lower.specs.Steps as steps

unfoldable pub opened : Unit {0}
unfolding of-arith.opened of-spirv.opened of-shapes.opened of_sheet.opened of-layout.opened chain.start_layout chain.chain_by chain.chain_in_room other.buffer_of other.member_of other.runtime_stride other.stride_of_part other.length_in other.length_by other.fixed_memory other.variable_by steps.added steps.merged steps.field_at steps.field_of steps.to_field steps.bound_of steps.in_bound steps.constant_offset steps.by_constant steps.to_element steps.to_part steps.move steps.lower_from
opened = tt
