-- `words::read_word` meets its contract. Assumes nothing.
use Rattle.std.proofs.Common.{◌∙◌}
use Rattle.words.specs.Little.{word_at}
use Rattle.words.proofs.Words.{joined_is}
use Rattle.words.proofs.read_word.Goals as goal

pub returns : goal.returns
unfolding word_at
returns c = c.from_le_bytes.ensures ∙ joined_is _ _ _ _
