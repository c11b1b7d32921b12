-- Laws of words stored into lists. Assumes nothing.
use Prim.Native.Nat.{ℕ, zero, suc, ◌+◌, ◌-◌, ◌<◌, ◌≤◌, min}
use borrow.Rule.Slice.PartMut.{put_mid}
use Rattle.std.proofs.lemmas.Bool.{cases_lt}
use Rattle.std.proofs.lemmas.List.{take-replicate}
use native.Mathlib.Omega.{arith}
use mathlib.Core.Logic.{◌⊎◌, inl, inr}
use mathlib.Core.Path.{◌≡◌, refl, sym, ap, ◌∙◌}
use mathlib.Core.List.{List, [], ◌∷◌, ◌++◌}
use lib.ListN.{length, set, take, replicate, length-replicate}
use lib.Seq.{sets, set-set}
use Rattle.arith.proofs.Stores.{sets_append, set_before, all_put, part_put}

-- the same places again
pub sets_again : (vs ws l : List ℕ) (i : ℕ) → length vs ≡ length ws → sets (sets l i vs) i ws ≡ sets l i ws
sets_again [] [] l i h = refl
sets_again [] (w ∷ ws) l i h = absurd (omega arith)
sets_again (v ∷ vs) [] l i h = absurd (omega arith)
sets_again (v ∷ vs) (w ∷ ws) l i h =
    rw (set_before vs (set l i v) i (suc i) w (omega arith), set-set l i v w) (sets_again vs ws (set l i w) (suc i) (omega arith))

-- one of them
pub set_in : (vs l : List ℕ) (i k v : ℕ) → k < length vs → set (sets l i vs) (i + k) v ≡ sets l i (set vs k v)
set_in [] l i k v h = absurd (omega arith)
set_in (w ∷ vs) l i zero v h =
    let z : i + 0 ≡ i = omega arith in
    rw (z, set_before vs (set l i w) i (suc i) v (omega arith), set-set l i w v)
set_in (w ∷ vs) l i (suc k) v h = let z : i + suc k ≡ suc i + k = omega arith in rw z (set_in vs (set l i w) (suc i) k v (omega arith))

-- the words behind the first anew
pub last_again : (l a b c : List ℕ) (n : ℕ) → length a ≡ n → length b ≡ length c → sets (sets l 0 (a ++ b)) n c ≡ sets l 0 (a ++ c)
last_again l a b c n e h =
    let z : 0 + length a ≡ n = omega arith in
    rw (sets_append l 0 a b, sets_append l 0 a c, z) (sets_again b c (sets l 0 a) n h)

-- one of the words behind the first
pub last_in : (l a b : List ℕ) (n k v : ℕ) → length a ≡ n → k < length b → set (sets l 0 (a ++ b)) (n + k) v ≡ sets l 0 (a ++ set b k v)
last_in l a b n k v e h =
    let z : 0 + length a ≡ n = omega arith in
    rw (sets_append l 0 a b, sets_append l 0 a (set b k v), z) (set_in b (sets l 0 a) n k v h)

-- words behind others
pub words_more : (l a b : List ℕ) (n : ℕ) → length a ≡ n → sets (sets l 0 a) n b ≡ sets l 0 (a ++ b)
words_more l a b n e = let z : 0 + length a ≡ n = omega arith in rw (sets_append l 0 a b, z)

-- as many zeros as there is room for are stored, and so all
pub zeros_put : (l z : List ℕ) (at n k m : ℕ) → k ≡ m → m ≡ min n (length l - at) → at < length l → z ≡ replicate m 0 → put_mid at k l z ≡ sets l at (replicate n 0)
zeros_put l z at n k m e q h r = by (cases_lt m n)
  where
    s : length (replicate {A = ℕ} n 0) ≡ n
    s = length-replicate {A = ℕ} n 0

    by : (m < n) ⊎ (n ≤ m) → put_mid at k l z ≡ sets l at (replicate n 0)
    by (inl a) =
        let t : take m (replicate n 0) ≡ z = take-replicate m n 0 (omega arith) ∙ sym r in
        rw (← t) (part_put l at k m (replicate n 0) e (omega arith) (omega (arith, s)))
    by (inr a) =
        let t : z ≡ replicate n 0 = r ∙ ap (λ (i : ℕ). replicate i 0) (omega arith) in
        rw t (all_put l at k (replicate n 0) (omega (arith, s)) (omega (arith, s)))
