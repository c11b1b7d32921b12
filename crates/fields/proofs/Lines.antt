-- The line from an index on is what is ahead of the first LF there. Assumes nothing.
use Rattle.std.proofs.Common.{ℕ, suc, ◌+◌, ◌-◌, ◌<◌, ◌≤◌, ◌≡◌, ◌∙◌, ap, refl, List, [], ◌∷◌, length, take, drop, cond, Bool, true, false, arith, length-drop, Some, None}
use Rattle.std.specs.List.{position, position_or_len, slice_range}
use borrow.Author.Tests.{ltb-true, ltb-false}
use lib.Dec.{eqb, ltb}
use lib.ListN.{drop_of_length-le}
use lib.Seq.{drop-drop, length-take-le, take_all}
use Rattle.decimal.specs.Text.{split}
use Rattle.fields.specs.Lines.{Ahead}
use Rattle.fields.proofs.Pieces.{First, first}

-- past the end there is one piece
pub past_end : (s : List ℕ) (at : ℕ) → length s < at → split 10 (drop at s) ≡ drop at s ∷ []
unfolding split
past_end s at h = let z : length s ≤ at = omega arith in rw (drop_of_length-le s z)

-- what is left from an index on, as the code takes it
rest_is : (s rest : List ℕ) (at : ℕ) → rest ≡ slice_range s at (length s) → rest ≡ drop at s
rest_is s rest at e = e ∙ take_all (length s - at) (drop at s) (omega (arith, length-drop at s))

pub no_line : (s rest : List ℕ) (at : ℕ) → rest ≡ slice_range s at (length s) → None ≡ position (λ b. eqb b 10) rest → split 10 (drop at s) ≡ drop at s ∷ []
no_line s rest at k e = rw (← rest_is s rest at k) (by (position_or_len (λ b. eqb b 10) rest) (ltb (position_or_len (λ b. eqb b 10) rest) (length rest)) refl (first 10 rest) e)
  where
    by : (n : ℕ) (t : Bool) → ltb n (length rest) ≡ t → First 10 rest n → None ≡ cond t (Some n) None → split 10 rest ≡ rest ∷ []
    by n true t f e = cc
    by n false t f e =
        let z : length rest ≤ n = ltb-false n (length rest) t in
        f.last z ∙ ap (λ (x : List ℕ). x ∷ []) (take_all n rest z)

pub a_line : (s rest : List ℕ) (at n : ℕ) → rest ≡ slice_range s at (length s) → Some n ≡ position (λ b. eqb b 10) rest → Ahead s at (take n rest)
a_line s rest at n k e = by (position_or_len (λ b. eqb b 10) rest) (ltb (position_or_len (λ b. eqb b 10) rest) (length rest)) refl (first 10 rest) e
  where
    d : rest ≡ drop at s
    d = rest_is s rest at k

    by : (m : ℕ) (t : Bool) → ltb m (length rest) ≡ t → First 10 rest m → Some n ≡ cond t (Some m) None → Ahead s at (take n rest)
    by m true t f e =
        let q : m ≡ n = cc in
        let z : m < length rest = ltb-true m (length rest) t in
        let l : length rest ≡ length s - at = ap length d ∙ length-drop at s in
        let k : length (take n rest) ≡ n = length-take-le n rest (omega arith) in
        let b : at + suc m ≡ at + (length (take n rest) + 1) = omega arith in
        let r : drop (suc m) rest ≡ drop (at + (length (take n rest) + 1)) s = ap (drop (suc m)) d ∙ drop-drop (suc m) at s ∙ ap (λ (i : ℕ). drop i s) b in
        record { within = omega arith; pieces = rw (← d) (f.more z ∙ (rw (r, q))) }
    by m false t f e = let x : ◌≡◌ {A = ℕ} 0 1 = cc in absurd (omega arith)
