-- Steps are read back from their bytes, and indices that bytes spell fit 32 bits. Assumes nothing.
use Prim.Native.Nat.{ℕ, zero, suc, ◌+◌, ◌*◌, ◌/◌, ◌<◌}
use native.Mathlib.Omega.{arith}
use mathlib.Core.Path.{◌≡◌, refl, sym, ap, ◌∙◌, subst}
use mathlib.Core.Bool.{Bool, true, false, cond}
use mathlib.Core.List.{List, [], ◌∷◌, ◌++◌, append_assoc}
use mathlib.Core.Option.{some}
use lib.Dec.{eqb}
use lib.ListN.{length, drop, get_or, get_elem?, length-append}
use Rattle.arith.specs.Refusals.{ok}
use Rattle.arith.proofs.Results.{passed, value_is}
use Rattle.spirv.specs.declared.Index.{Index}
use Rattle.spirv.specs.Rows.{index_by}
use Rattle.sheet.specs.Statements.{Fits, All, FitsIndex}
use Rattle.words.specs.Little.{little, word_at, words_from, words_of}
use Rattle.words.proofs.RoundTrip.{read_back}
use Rattle.lower.specs.declared.QPtrOp.{QPtrOp}
use Rattle.steps.specs.declared.StepWords.{StepWords}
use Rattle.steps.specs.Words.{encode, decode, offset_fits}
use Rattle.steps.proofs.Back.{reads_back}
use Rattle.moves.specs.Moves.{indices_in}
use Rattle.wire.specs.Wire.{Byte, indices_of, words_bytes, step_bytes, steps_bytes, step_from, step_no}

-- ---- steps

pub record FitWords (w : StepWords) : Type 0 where
  pub kind : w.kind < 4294967296
  pub bytes : w.bytes < 4294967296
  pub bound : w.bound < 4294967296
  pub mark : w.mark < 4294967296
  pub index : w.index < 4294967296

word_back : (p q : List ℕ) (w : ℕ) (rest : List ℕ) (n : ℕ) → length q ≡ n → w < 4294967296 → word_at (p ++ (q ++ (little w ++ rest))) (length p + n) ≡ w
word_back p q w rest n e h =
    ap (λ (k : ℕ). word_at (p ++ (q ++ (little w ++ rest))) k) (omega (arith, length-append p q))
    ∙ ap (λ (l : List ℕ). word_at l (length (p ++ q))) (sym (append_assoc p q (little w ++ rest)))
    ∙ read_back (p ++ q) w rest h

step_words : (p : List ℕ) (w : StepWords) (rest : List ℕ) → FitWords w → (s : QPtrOp) → decode w ≡ s → step_from (p ++ (words_bytes w ++ rest)) (length p) ≡ s
unfolding little
step_words p w rest f s e =
    let k = little w.kind in
    let b = little w.bytes in
    let l = little w.bound in
    let m = little w.mark in
    let i = little w.index in
    let at : length p ≡ length p + 0 = omega arith in
    rw (
      ap (λ (j : ℕ). word_at (p ++ (words_bytes w ++ rest)) j) at ∙ word_back p [] w.kind (b ++ (l ++ (m ++ (i ++ rest)))) 0 refl f.kind,
      word_back p k w.bytes (l ++ (m ++ (i ++ rest))) 4 refl f.bytes,
      word_back p (k ++ b) w.bound (m ++ (i ++ rest)) 8 refl f.bound,
      word_back p ((k ++ b) ++ l) w.mark (i ++ rest) 12 refl f.mark,
      word_back p (((k ++ b) ++ l) ++ m) w.index rest 16 refl f.index,
    ) e

-- a step's words fit, and so do its bytes
abbrev pub FitsWords : QPtrOp → Type 0
FitsWords s = FitWords (encode s) × (offset_fits s ≡ true)

pub step_size : (s : QPtrOp) → length (step_bytes s) ≡ 20
unfolding little
step_size s = refl

steps_from : (p : List ℕ) (steps : List QPtrOp) (rest : List ℕ) → All FitsWords steps → (j : ℕ) (s : QPtrOp) → get_elem? steps j ≡ some s
    → step_from (p ++ (steps_bytes steps ++ rest)) (length p + 20 * j) ≡ s
steps_from p [] rest f j s h = absurd (let z : ◌≡◌ {A = ℕ} 0 1 = cc in omega arith)
steps_from p (x ∷ xs) rest f zero s h =
    let same : x ≡ s = cc in
    ap (λ (l : List ℕ). step_from (p ++ l) (length p + 0)) (append_assoc (step_bytes x) (steps_bytes xs) rest)
    ∙ ap (λ (k : ℕ). step_from (p ++ (step_bytes x ++ (steps_bytes xs ++ rest))) k) (omega arith)
    ∙ step_words p (encode x) (steps_bytes xs ++ rest) f.0.0 s (reads_back x f.0.1 ∙ same)
steps_from p (x ∷ xs) rest f (suc j) s h =
    ap (λ (l : List ℕ). step_from (p ++ l) (length p + 20 * suc j)) (append_assoc (step_bytes x) (steps_bytes xs) rest)
    ∙ ap (λ (l : List ℕ). step_from l (length p + 20 * suc j)) (sym (append_assoc p (step_bytes x) (steps_bytes xs ++ rest)))
    ∙ ap (λ (k : ℕ). step_from ((p ++ step_bytes x) ++ (steps_bytes xs ++ rest)) k) (omega (arith, length-append p (step_bytes x), step_size x))
    ∙ steps_from (p ++ step_bytes x) xs rest f.1 j s h

-- step j of bytes whose front is the bytes of steps
pub step_back : (steps : List QPtrOp) (rest : List ℕ) → All FitsWords steps → (j : ℕ) (s : QPtrOp) → get_elem? steps j ≡ some s → step_no (steps_bytes steps ++ rest) j ≡ s
step_back steps rest f j s h = ap (step_from (steps_bytes steps ++ rest)) (omega arith) ∙ steps_from [] steps rest f j s h

-- ---- indices

byte_at : (s : List ℕ) → All Byte s → (i : ℕ) → get_or s i 0 < 256
byte_at [] h i = omega arith
byte_at (b ∷ s) h zero = h.0
byte_at (b ∷ s) h (suc i) = byte_at s h.1 i

dropped : (s : List ℕ) → All Byte s → (k : ℕ) → All Byte (drop k s)
dropped s h zero = h
dropped [] h (suc k) = tt
dropped (b ∷ s) h (suc k) = dropped s h.1 k

word_fits : (s : List ℕ) → All Byte s → Fits (word_at s 0)
unfolding word_at
word_fits s h = omega (arith, byte_at s h 0, byte_at s h (0 + 1), byte_at s h (0 + 2), byte_at s h (0 + 3))

words_fit : (n : ℕ) (s : List ℕ) → All Byte s → All Fits (words_from n s)
unfolding words_from
words_fit zero s h = tt
words_fit (suc n) s h = (word_fits s h, words_fit n (drop 4 s) (dropped s h 4))

index_fits : (w k : ℕ) → Fits w → FitsIndex (index_by w k)
index_fits w k h = by (eqb k 0)
  where
    by : (b : Bool) → FitsIndex (cond b (Index.Known w) (Index.Unknown w))
    by true = h
    by false = h

in_words : (ws : List ℕ) → All Fits ws → All FitsIndex (indices_in ws)
unfolding indices_in
in_words [] h = tt
in_words (w ∷ []) h = tt
in_words (w ∷ k ∷ rest) h = (index_fits w k h.0, in_words rest h.1.1)

-- indices that bytes spell
pub indices_fit : (s : List ℕ) (is : List Index) → All Byte s → indices_of s ≡ ok is → All FitsIndex is
unfolding indices_of
indices_fit s is h e = subst (All FitsIndex) (value_is (passed _ _ e)) (in_words (words_of s) (words_fit (length s / 4) s h))
