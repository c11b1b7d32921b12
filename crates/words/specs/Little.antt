-- A word of 32 bits as four bytes, the least first.
use Rattle.std.specs.Prelude.{ℕ, zero, suc, ◌+◌, ◌*◌, ◌/◌, ◌%◌, List, [], ◌∷◌, length, get_or, drop}

unfoldable pub little : ℕ → List ℕ
little w = (w % 256) ∷ (w / 256 % 256) ∷ (w / 256 / 256 % 256) ∷ (w / 256 / 256 / 256 % 256) ∷ []

abbrev pub joined : ℕ → ℕ → ℕ → ℕ → ℕ
joined a b c d = a + 256 * (b + 256 * (c + 256 * d))

unfoldable pub word_at : List ℕ → ℕ → ℕ
word_at s at = joined (get_or s at 0) (get_or s (at + 1) 0) (get_or s (at + 2) 0) (get_or s (at + 3) 0)

-- the first n words that bytes spell, four bytes each
unfoldable pub words_from : (n : ℕ) → List ℕ → List ℕ
words_from zero s = []
words_from (suc n) s = word_at s 0 ∷ words_from n (drop 4 s)

-- all of them; up to three bytes behind spell none
abbrev pub words_of : List ℕ → List ℕ
words_of s = words_from (length s / 4) s
