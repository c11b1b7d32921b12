-- `lines::struct_line` counts types above.
use Rattle.sheet.specs.Fields.{read_type}
use Rattle.lines.proofs.struct_line.Given as goal

abbrev pub ghost-count : goal.ghost-count
ghost-count a = read_type a.next.0.now.above
