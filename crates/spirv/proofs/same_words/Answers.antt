-- `spirv::same_words` meets its contract. Assumes nothing.
use Rattle.std.proofs.Common.{rules}
use Rattle.spirv.proofs.Words.{same_pointwise}
use Rattle.spirv.proofs.same_words.Goals as goal

pub returns : goal.returns
returns c = search (rules, same_pointwise)
