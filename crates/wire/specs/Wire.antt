-- Document 01, "as C functions on numbers and bytes": indices and steps as a host hands them over and takes them. An index is 8 bytes, its word and
-- then 0 where it is known or 1 where it is not; a step is 20 bytes, the five words that hold it; every word little-endian.
use Rattle.std.specs.Prelude.{ℕ, ◌+◌, ◌*◌, ◌%◌, ◌<◌, Bool, true, false, ◌&&◌, List, [], ◌∷◌, ◌++◌, eqb, leb, length}
use Rattle.arith.specs.Refusals.{Result, ok, ◌>>◌, refuse◌unless◌, misread}
use Rattle.spirv.specs.declared.Index.{Index}
use Rattle.words.specs.Little.{little, word_at, words_of}
use Rattle.lower.specs.declared.QPtrOp.{QPtrOp}
use Rattle.steps.specs.declared.StepWords.{StepWords}
use Rattle.steps.specs.Words.{encode, decode}
use Rattle.moves.specs.Moves.{indices_in}

-- ---- indices

abbrev pub Byte : ℕ → Type 0
Byte b = b < 256

-- each second word is 0 or 1
unfoldable pub kinds_good : List ℕ → Bool
kinds_good [] = true
kinds_good (w ∷ []) = false
kinds_good (w ∷ k ∷ rest) = leb k 1 && kinds_good rest

unfoldable pub formed_bytes : List ℕ → Bool
formed_bytes s = eqb (length s % 8) 0 && kinds_good (words_of s)

-- the indices that bytes are; 1 where they are none
unfoldable pub indices_of : List ℕ → Result (List Index)
indices_of s = do
  refuse misread unless formed_bytes s
  ok (indices_in (words_of s))

-- ---- steps

abbrev pub words_bytes : StepWords → List ℕ
words_bytes w = (((little w.kind ++ little w.bytes) ++ little w.bound) ++ little w.mark) ++ little w.index

abbrev pub step_bytes : QPtrOp → List ℕ
step_bytes s = words_bytes (encode s)

abbrev pub steps_bytes : List QPtrOp → List ℕ
steps_bytes [] = []
steps_bytes (s ∷ ss) = step_bytes s ++ steps_bytes ss

-- ---- and back: the step whose five words stand at a place, and step j of bytes

abbrev pub step_from : List ℕ → (at : ℕ) → QPtrOp
step_from s at = decode (record {
  kind = word_at s at;
  bytes = word_at s (at + 4);
  bound = word_at s (at + 8);
  mark = word_at s (at + 12);
  index = word_at s (at + 16);
})

abbrev pub step_no : List ℕ → (j : ℕ) → QPtrOp
step_no s j = step_from s (20 * j)
