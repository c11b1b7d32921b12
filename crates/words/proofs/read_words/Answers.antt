-- `words::read_words` meets its contract. Assumes nothing.
use Rattle.std.proofs.Common.{arith, ◌∙◌}
use Rattle.words.proofs.Words.{next_word, all_words}
use Rattle.words.proofs.read_words.Goals as goal

pub loop-i-preserved : goal.loop-i-preserved
loop-i-preserved c = rw (c.loop-i.invariant, c.read_word.ensures) (next_word _ c.args.s.now c.loop-i.i (omega arith))

pub returns : goal.returns
returns c = c.loop-i.invariant ∙ all_words _ c.args.s.now c.loop-i.i (omega arith)
