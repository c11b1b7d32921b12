-- `lines::put_indices` meets its contract. Assumes nothing.
use Rattle.std.proofs.Common.{arith, ◌∙◌}
use Rattle.spirv.proofs.Rows.{index_length}
use Rattle.lines.proofs.Left.{filled_more, filled_end, index_words_lem}
use Rattle.lines.proofs.put_indices.Goals as goal

pub loop-f-preserved : goal.loop-f-preserved
loop-f-preserved c =
    (omega (arith, c.in-Some.ensures.later), filled_more c.loop-f.invariant.1 {k = c.loop-f.n} c.in-Some.ensures (omega arith) (omega (arith, index_length c.in-Some.f.value)) (rw (← c.encode_index-words.ensures) c.put_words.ensures))

pub returns : goal.returns
returns c = record { words = λ is q. filled_end c.loop-f.invariant.1 c.in_default.ensures is q ∙ (rw index_words_lem) }
