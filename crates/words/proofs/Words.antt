-- The words that bytes spell, one by one. Assumes nothing.
use Prim.Native.Nat.{min, ℕ, zero, suc, ◌+◌, ◌*◌, ◌/◌, ◌<◌, ◌≤◌}
use native.Mathlib.Omega.{arith}
use mathlib.Core.Path.{◌≡◌, refl, sym, ap, ◌∙◌}
use mathlib.Core.List.{List, [], ◌∷◌}
use mathlib.Core.Logic.{◌⊎◌, inl, inr}
use lib.ListN.{length, get_or, set, take, drop}
use lib.Seq.{sets, get_or-drop, take_all}
use mir.Syntax.{w32}
use Rattle.std.specs.Int.{to_le_bytes, from_le_bytes}
use Rattle.std.proofs.lemmas.Bool.{cases_lt}
use Rattle.arith.proofs.Stores.{one_more, rest_out}
use Rattle.words.specs.Little.{little, joined, word_at, words_from, words_of}

pub words_length : (n : ℕ) (s : List ℕ) → length (words_from n s) ≡ n
unfolding words_from
words_length zero s = refl
words_length (suc n) s = ap suc (words_length n (drop 4 s))

-- a word behind others
pub word_behind : (k : ℕ) (s : List ℕ) (at : ℕ) → word_at (drop k s) at ≡ word_at s (k + at)
unfolding word_at
word_behind k s at =
    let a : (i : ℕ) → k + (at + i) ≡ k + at + i = λ i. omega arith in
    rw (get_or-drop k s at 0, get_or-drop k s (at + 1) 0, get_or-drop k s (at + 2) 0, get_or-drop k s (at + 3) 0, a 1, a 2, a 3)

pub word_is : (n : ℕ) (s : List ℕ) (i : ℕ) → i < n → get_or (words_from n s) i 0 ≡ word_at s (4 * i)
unfolding words_from
word_is zero s i h = absurd (omega arith)
word_is (suc n) s zero h = refl
word_is (suc n) s (suc i) h = let e : 4 + 4 * i ≡ 4 * suc i = omega arith in word_is n (drop 4 s) i (omega arith) ∙ word_behind 4 s (4 * i) ∙ ap (word_at s) e

-- ---- stored one behind the other

pub next_word : (l s : List ℕ) (i : ℕ) → i < length s / 4 → set (sets l 0 (take i (words_of s))) i (word_at s (4 * i)) ≡ sets l 0 (take (i + 1) (words_of s))
next_word l s i h =
    let place : i ≡ 0 + i = omega arith in
    ap (λ (w : ℕ). set (sets l 0 (take i (words_of s))) i w) (sym (word_is (length s / 4) s i h))
    ∙ ap (λ (k : ℕ). set (sets l 0 (take i (words_of s))) k (get_or (words_of s) i 0)) place
    ∙ one_more l 0 (words_of s) i 0 (omega (arith, words_length (length s / 4) s))

pub all_words : (l s : List ℕ) (i : ℕ) → i ≡ min (length l) (length s / 4) → sets l 0 (take i (words_of s)) ≡ sets l 0 (words_of s)
all_words l s i h = by (cases_lt i (length (words_of s)))
  where
    by : (i < length (words_of s)) ⊎ (length (words_of s) ≤ i) → sets l 0 (take i (words_of s)) ≡ sets l 0 (words_of s)
    by (inl few) = rest_out l 0 (words_of s) i (omega arith) (omega (arith, h, words_length (length s / 4) s))
    by (inr all) = rw (take_all i (words_of s) all)

-- ---- as the library has the bytes of a word

pub little_is : (w : ℕ) → to_le_bytes w32 w ≡ little w
unfolding little
little_is w =
    let two : w / 65536 ≡ w / 256 / 256 = omega arith in
    let three : w / 16777216 ≡ w / 256 / 256 / 256 = omega arith in
    rw (two, three)

pub joined_is : (a b c d : ℕ) → from_le_bytes w32 (a ∷ b ∷ c ∷ d ∷ []) ≡ joined a b c d
joined_is a b c d = omega arith
