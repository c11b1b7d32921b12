-- All that a theorem by computation unfolds of this crate and those below it, under one name. Made by tools/opened.
use Rattle.arith.proofs.Opened as of-arith
use Rattle.spirv.proofs.Opened as of-spirv
use Rattle.shapes.specs.Rows as rows
use Rattle.shapes.specs.Settings as settings
use Rattle.shapes.specs.Words as words

unfoldable pub opened : Unit {0}
unfolding of-arith.opened of-spirv.opened rows.row_at rows.answer_at rows.flat settings.setting_of words.memory_words words.handle_words words.encode words.memory_of words.answer_of words.decode
opened = tt
