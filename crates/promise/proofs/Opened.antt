-- All that a theorem by computation unfolds of this crate and those below it, under one name. Made by tools/opened.
use Rattle.arith.proofs.Opened as of-arith
use Rattle.decimal.proofs.Opened as of-decimal
use Rattle.spirv.proofs.Opened as of-spirv
use Rattle.shapes.proofs.Opened as of-shapes
use Rattle.sheet.proofs.Opened as of_sheet
use Rattle.layout.proofs.Opened as of-layout
use Rattle.lower.proofs.Opened as of-lower
use Rattle.answers.proofs.Opened as of-answers
use Rattle.promise.specs.Edges as edges
use Rattle.promise.specs.Vulkan as vulkan
use Rattle.promise.specs.Walk as walk

unfoldable pub opened : Unit {0}
unfolding of-arith.opened of-decimal.opened of-spirv.opened of-shapes.opened of_sheet.opened of-layout.opened of-lower.opened of-answers.opened edges.starred vulkan.vk_of vulkan.covered vulkan.scalar_alignment vulkan.largest_scalar vulkan.base_alignment vulkan.largest_base vulkan.extended_alignment vulkan.largest_extended walk.array_by walk.kind_of walk.layout_at walk.memory_at walk.offset_at walk.stride_at walk.into_field walk.into_element walk.step_by walk.step walk.walk walk.start_type walk.start
opened = tt
