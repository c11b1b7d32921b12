-- All that a theorem by computation unfolds of this crate and those below it, under one name. Made by tools/opened.
use Rattle.arith.proofs.Opened as of-arith
use Rattle.spirv.proofs.Opened as of-spirv
use Rattle.shapes.proofs.Opened as of-shapes
use Rattle.sheet.proofs.Opened as of_sheet
use Rattle.layout.specs.Arrays as arrays
use Rattle.layout.specs.Layouts as layouts
use Rattle.layout.specs.Lookup as lookup
use Rattle.layout.specs.Structs as structs

unfoldable pub opened : Unit {0}
unfolding of-arith.opened of-spirv.opened of-shapes.opened of_sheet.opened arrays.number_layout arrays.rounded arrays.stride_of arrays.by_element arrays.array_layout arrays.vector_params arrays.fixed_params arrays.runtime_params layouts.rule_of layouts.by_rule layouts.layout_of layouts.layouts layouts.answer_in layouts.runtime_array_by layouts.offset_count layouts.layout_in_room lookup.size_at_index lookup.element_holding lookup.field_holds lookup.memory_passes lookup.fields_holding lookup.size_of_part lookup.components_containing lookup.in_memory_only lookup.lookup_by lookup.lookup_in_room structs.member_layouts structs.given_offset structs.given_offsets structs.place_given structs.place_in_turn structs.place structs.final_size structs.struct_layout
opened = tt
