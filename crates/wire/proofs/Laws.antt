-- Laws of indices and steps as bytes. Assumes nothing.
use Prim.Native.Nat.{ℕ, zero, suc, ◌+◌, ◌*◌, ◌/◌, ◌%◌, ◌<◌}
use native.Mathlib.Omega.{arith}
use native.Mathlib.Numerals.{add-one}
use mathlib.Core.Path.{◌≡◌, refl, sym, ap, ◌∙◌}
use mathlib.Core.Bool.{Bool, false, ◌&&◌}
use mathlib.Core.List.{List, [], ◌∷◌, ◌++◌, append_assoc, append-nil}
use lib.Dec.{leb}
use lib.ListN.{length, get_or, take, drop, length-append}
use lib.Seq.{drop-drop, get_or-take, take_at, drop_at}
use denote.Ref.{Bor}
use Rattle.std.specs.Iterator.{AlwaysYields}
use Rattle.std.specs.List.{list_all}
use Rattle.std.specs.Slice.Iter.{chunks_exact_size, chunks_exact_rest, chunks_exact_steps}
use Rattle.std.specs.declared.slice.ChunksExact.{ChunksExact}
use Rattle.std.proofs.lemmas.Iterator.{YieldsList}
use borrow.Author.Tests.{eq-eqb, ne_eqb}
use Rattle.text.specs.Printed.{Printed}
use Rattle.text.proofs.Laws.{then}
use Rattle.words.specs.Little.{word_at, words_from}
use Rattle.words.proofs.Words.{word_behind}
use Rattle.lower.specs.declared.QPtrOp.{QPtrOp}
use Rattle.steps.specs.Lists.{step_at, steps_in}
use Rattle.wire.specs.Wire.{kinds_good, formed_bytes, step_bytes, steps_bytes}

-- ---- kinds, by eight bytes

abbrev pub eights : (n : ℕ) → List ℕ → List (List ℕ)
eights zero s = []
eights (suc n) s = take 8 s ∷ eights n (drop 8 s)

-- the second word of eight bytes is 0 or 1
abbrev pub kind_good : List ℕ → Bool
kind_good s = leb (word_at s 4) 1

front_kind : (s : List ℕ) → kind_good (take 8 s) ≡ leb (word_at s 4) 1
unfolding word_at
front_kind s = let at : (i : ℕ) → i < 8 → get_or (take 8 s) i 0 ≡ get_or s i 0 = λ i h. get_or-take 8 s i 0 h in rw (at 4 (omega arith), at (4 + 1) (omega arith), at (4 + 2) (omega arith), at (4 + 3) (omega arith))

pairs : (n : ℕ) (s : List ℕ) → list_all kind_good (eights n s) ≡ kinds_good (words_from (2 * n) s)
unfolding kinds_good words_from
pairs zero s = refl
pairs (suc n) s =
    let two : 2 * suc n ≡ suc (suc (2 * n)) = omega arith in
    rw (two, word_behind 4 s 0, drop-drop 4 4 s, front_kind s) (ap (λ (b : Bool). leb (word_at s 4) 1 && b) (pairs n (drop 8 s)))

pub whole_pairs : (s : List ℕ) → length s % 8 ≡ 0 → list_all kind_good (eights (length s / 8) s) ≡ formed_bytes s
unfolding formed_bytes
whole_pairs s h =
    let words : length s / 4 ≡ 2 * (length s / 8) = omega arith in
    rw (eq-eqb _ _ h, words) (pairs (length s / 8) s)

pub odd_bytes : (s : List ℕ) → (length s % 8 ≡ 0 → ⊥) → formed_bytes s ≡ false
unfolding formed_bytes
odd_bytes s h = rw (ne_eqb _ _ h)

-- what `chunks_exact(8)` gives
eights_come : (n : ℕ) (l : ChunksExact ℕ) → chunks_exact_size l ≡ 8 → length (chunks_exact_rest l) / 8 ≡ n
    → AlwaysYields chunks_exact_steps (λ (x : Bor (List ℕ)). x.now) l (eights n (chunks_exact_rest l))
eights_come zero l e h = λ x j p. absurd (omega (arith, e, h, p.1.1, ap length p.1.0, length-append x.now (chunks_exact_rest j)))
eights_come (suc n) l e h = (
  λ j p. absurd (omega (arith, e, h, p.1.0)),
  λ x j p.
      let front : length x.now ≡ 8 = p.1.1 ∙ e in
      let whole = p.1.0 in
      let size = length-append x.now (chunks_exact_rest j) in (
        rw whole (sym (take_at x.now (chunks_exact_rest j) 8 front)),
        rw (whole, drop_at x.now (chunks_exact_rest j) 8 front) (eights_come n j (p.0 ∙ e) (omega (arith, h, ap length whole, size, front))),
      ),
)

pub YieldsList-from_eights : {l : ChunksExact ℕ} (s : List ℕ) → chunks_exact_rest l ≡ s → chunks_exact_size l ≡ 8 → YieldsList chunks_exact_steps (λ (x : Bor (List ℕ)). x.now) l (eights (length s / 8) s)
YieldsList-from_eights {l} s e h = rw (← e) (record { runs = eights_come (length (chunks_exact_rest l) / 8) l h refl })

-- ---- steps that five lists hold

steps_append : (a b : List QPtrOp) → steps_bytes (a ++ b) ≡ steps_bytes a ++ steps_bytes b
steps_append [] b = refl
steps_append (s ∷ a) b = ap (λ (l : List ℕ). step_bytes s ++ l) (steps_append a b) ∙ sym (append_assoc (step_bytes s) (steps_bytes a) (steps_bytes b))

module _ (kinds sizes bounds marks indices : List ℕ) where
  pub no_steps : steps_bytes (steps_in kinds sizes bounds marks indices 0) ≡ []
  unfolding steps_in
  no_steps = refl

  -- the first j + 1
  pub one_step_more : (j : ℕ) {o m n : List ℕ} {at p q : ℕ} → length o < 18446744073709551616
      → Printed (steps_bytes (steps_in kinds sizes bounds marks indices j)) o at p m
      → Printed (step_bytes (step_at kinds sizes bounds marks indices j)) m p q n
      → Printed (steps_bytes (steps_in kinds sizes bounds marks indices (j + 1))) o at q n
  unfolding steps_in
  one_step_more j small x y =
      rw (add-one, steps_append (steps_in kinds sizes bounds marks indices j) (step_at kinds sizes bounds marks indices j ∷ []), append-nil (step_bytes (step_at kinds sizes bounds marks indices j)))
      (then _ _ small x y)
