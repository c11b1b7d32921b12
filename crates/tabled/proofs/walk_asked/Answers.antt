-- `tabled::walk_asked` meets its contract: what is asked, its words read and walked. Assumes nothing.
use Rattle.std.proofs.Common.{sym, arith}
use Rattle.std.proofs.lemmas.Result.{err_from_is_err_and}
use Rattle.tabled.proofs.Laws.{words_read, at_most, is_refused, is_chain, wrote_refused, walked_chain, wrote_over}
use Rattle.tabled.proofs.walk_asked.Goals as goal

pub shared_whole_as_front-lower_access_chain : goal.shared_whole_as_front-lower_access_chain
shared_whole_as_front-lower_access_chain g c =
    let few = at_most _ _ _ c.args.chain.now (is_chain (sym c.in_ok-asked.ensures)) in
    (omega (arith, few), omega arith)

pub returns-in_err-asked : goal.returns-in_err-asked
returns-in_err-asked g c =
    let p = err_from_is_err_and c.from_residual.result c.from_residual.ensures.1 in
    rw (p.1, p.2) (wrote_refused _ _ _ c.args.chain.now _ _ (is_refused (sym c.in_err-asked.ensures)) _ _ _ _ _)

pub returns : goal.returns
returns g c =
    let o = is_chain (sym c.in_ok-asked.ensures) in
    let t = c.tables_in.ensures in
    walked_chain _ _ _ c.args.chain.now _ o (words_read g.row.WORDS c.args.chain.now (omega (arith, at_most _ _ _ c.args.chain.now o)) c.read_words.ensures)
    (wrote_over c.args.table.now _ _ _ _ t.count t.cfg t.types t.rows t.offsets t.members c.lower_access_chain.ensures)
