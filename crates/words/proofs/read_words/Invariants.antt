-- `words::read_words` meets its contract. The loop's invariant: the first i words are stored. Assumes nothing.
use Rattle.std.proofs.Common.{◌≡◌, take}
use lib.Seq.{sets}
use Rattle.words.specs.Little.{words_of}
use Rattle.words.proofs.read_words.Given as goal

abbrev pub invariant-loop-i : goal.invariant-loop-i
invariant-loop-i l = l.words ≡ sets l.initial.words 0 (take l.i (words_of l.s))
