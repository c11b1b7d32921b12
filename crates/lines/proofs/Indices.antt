-- How many indices a question has, and how many words hold them. Assumes nothing.
use Prim.Native.Nat.{◌*◌}
use native.Mathlib.Omega.{arith}
use mathlib.Core.Path.{◌≡◌, refl}
use mathlib.Core.List.{List, [], ◌∷◌}
use lib.ListN.{length, length-append}
use Rattle.spirv.specs.declared.Index.{Index}
use Rattle.spirv.specs.Rows.{encode_index}
use Rattle.spirv.proofs.Rows.{index_length}
use Rattle.sheet.specs.Sheet.{index_count}
use Rattle.lines.specs.declared.Ask.{Ask}
use Rattle.lines.specs.declared.Ask.TheVariants as ask
use Rattle.lines.specs.Says.{count_of, question_of, index_words}

pub question_count : (a : Ask) (is : List Index) → length is ≡ count_of a → index_count (question_of a is) ≡ count_of a
question_count (ask.T t) is e = refl
question_count (ask.E a b) is e = refl
question_count (ask.Q t start end) is e = refl
question_count (ask.C op ptr n) is e = e
question_count (ask.L ptr member) is e = refl
question_count (ask.X ptr) is e = refl

pub index_words_length : (is : List Index) → length (index_words is) ≡ 2 * length is
index_words_length [] = refl
index_words_length (i ∷ is) = omega (arith, length-append (encode_index i) (index_words is), index_length i, index_words_length is)
