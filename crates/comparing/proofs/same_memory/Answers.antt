-- `comparing::same_memory` meets its contract: each number that is compared is one that is printed. Assumes nothing.
use Rattle.std.proofs.Common.{◌∙◌}
use Rattle.printing.specs.Layouts.{memory_in}
use Rattle.comparing.proofs.SameLines.{sizes_differ, then_parts}
use Rattle.comparing.proofs.same_memory.Goals as goal

pub returns-then-eq : goal.returns-then-eq
returns-then-eq c =
    let l = c.args.offsets.now in
    c.eq-then-eq.ensures ∙ then_parts (memory_in l c.args.m) (memory_in l c.args.n) _ _ c.if-eq.ensures c.last_numbers.ensures c.last_numbers-then-eq.ensures

pub returns-else-eq : goal.returns-else-eq
returns-else-eq c =
    let l = c.args.offsets.now in
    c.if-eq.false ∙ sizes_differ (memory_in l c.args.m) (memory_in l c.args.n) c.if-eq.ensures
