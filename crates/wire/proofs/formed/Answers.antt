-- `wire::formed` meets its contract. Assumes nothing.
use Rattle.std.proofs.Common.{rules, tests, ◌∙◌}
use Rattle.std.proofs.lemmas.Iterator.Search.{all_from_yields_List}
use Rattle.wire.proofs.Laws.{kind_good, whole_pairs, odd_bytes, YieldsList-from_eights}
use Rattle.wire.proofs.formed.Goals as goal

pub returns-then-s-eq0 : goal.returns-then-s-eq0
returns-then-s-eq0 c =
    let s = c.args.s.now in
    let eights = YieldsList-from_eights s c.chunks_exact.ensures.rest c.chunks_exact.ensures.size in
    all_from_yields_List kind_good _ _ _ c.all.ensures.ran eights (λ x b q k. search (rules, tests)) ∙ whole_pairs s c.if-s-eq0.true

pub returns-else-s-eq0 : goal.returns-else-s-eq0
returns-else-s-eq0 c = search (rules, tests, odd_bytes)
