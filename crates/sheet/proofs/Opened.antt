-- All that a theorem by computation unfolds of this crate and those below it, under one name. Made by tools/opened.
use Rattle.arith.proofs.Opened as of-arith
use Rattle.decimal.proofs.Opened as of-decimal
use Rattle.spirv.proofs.Opened as of-spirv
use Rattle.shapes.proofs.Opened as of-shapes
use Rattle.sheet.specs.Fields as fields
use Rattle.sheet.specs.Grammar as grammar
use Rattle.sheet.specs.Sheet as sheet
use Rattle.sheet.specs.Tables as tables

unfoldable pub opened : Unit {0}
unfolding of-arith.opened of-decimal.opened of-spirv.opened of-shapes.opened fields.read_flag fields.read_type fields.read_length fields.read_stride fields.read_op fields.read_index fields.read_decoration grammar.grammar grammar.read_line sheet.decorate_last sheet.first_line sheet.next_line sheet.read_lines sheet.read_pieces sheet.read_sheet sheet.decl_in sheet.pointee_in tables.room_for tables.held
opened = tt
