-- `lines::c_line` counts indices.
use Rattle.sheet.specs.Fields.{read_index}
use Rattle.lines.proofs.c_line.Given as goal

abbrev pub ghost-count : goal.ghost-count
ghost-count a = read_index
