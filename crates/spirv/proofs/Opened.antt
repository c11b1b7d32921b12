-- All that a theorem by computation unfolds of this crate and those below it, under one name. Made by tools/opened.
use Rattle.arith.proofs.Opened as of-arith
use Rattle.spirv.specs.Decl as decl
use Rattle.spirv.specs.Reduced as reduced
use Rattle.spirv.specs.Rows as rows

unfoldable pub opened : Unit {0}
unfolding of-arith.opened decl.pointee_of decl.before decl.filled_after decl.filled reduced.taken_in reduced.reduced_by reduced.reduced reduced.decl_row reduced.given_words rows.same_words rows.encode_row rows.type_of rows.row_of rows.row_of_words rows.decode_row rows.row_at rows.encode_index rows.decode_index rows.index_at
opened = tt
