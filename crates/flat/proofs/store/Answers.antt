-- `flat::store` meets its contract: the parts, stored one behind the other. Assumes nothing.
use Rattle.flat.proofs.Laws.{parts_stored}
use Rattle.flat.proofs.store.Goals as goal

pub returns : goal.returns
returns c = parts_stored _ _ _ _ _ _ c.requires c.layouts.ensures c.put_word.ensures c.put_words.ensures c.put_words-2.ensures c.put_words-3.ensures c.put_words-4.ensures c.put_words-5.ensures c.put_words-6.ensures
