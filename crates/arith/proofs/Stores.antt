-- Laws of elements stored in a list one behind the other. Assumes nothing.
use Prim.Native.Nat.{min, ℕ, suc, ◌+◌, ◌-◌, ◌≤◌, ◌<◌}
use native.Mathlib.Omega.{arith}
use native.Mathlib.Numerals.{add-one}
use mathlib.Core.Path.{◌≡◌, refl, sym, ap, ◌∙◌}
use mathlib.Core.List.{List, [], ◌∷◌, ◌++◌, append_assoc}
use lib.ListN.{length, get_or, take, set, length-set}
use lib.Seq.{sets, sets-eq, set_out, set_comm, take-suc, length-take-le, drop-drop}
use borrow.Rule.Slice.PartMut.{put_mid}

module _ {A : Type 0} where
  pub sets_append : (l : List A) (i : ℕ) (a b : List A) → sets l i (a ++ b) ≡ sets (sets l i a) (i + length a) b
  sets_append l i [] b = let e : i + 0 ≡ i = omega arith in rw e
  sets_append l i (v ∷ a) b =
      let e : i + suc (length a) ≡ suc i + length a = omega arith in
      rw e (sets_append (set l i v) (suc i) a b)

  -- past the end nothing is stored
  pub sets_past : (l : List A) (i : ℕ) (vs : List A) → length l ≤ i → sets l i vs ≡ l
  sets_past l i [] h = refl
  sets_past l i (v ∷ vs) h = rw (set_out l i v h) (sets_past l (suc i) vs (omega arith))

  -- one more in front of what is stored
  pub set_before : (vs l : List A) (i j : ℕ) (v : A) → i < j → set (sets l j vs) i v ≡ sets (set l i v) j vs
  set_before [] l i j v h = refl
  set_before (w ∷ vs) l i j v h =
      set_before vs (set l j w) i (suc j) v (omega arith) ∙ ap (λ (x : List A). sets x (suc j) vs) (set_comm l j i w v (λ e. omega arith))

  -- one more store, of the element that stands at i
  pub one_more : (l : List A) (at : ℕ) (w : List A) (i : ℕ) (d : A) → i < length w → set (sets l at (take i w)) (at + i) (get_or w i d) ≡ sets l at (take (i + 1) w)
  one_more l at w i d h =
      rw (add-one, take-suc w i d h, sets_append l at (take i w) (get_or w i d ∷ []), length-take-le i w (omega arith))

  -- where i elements reach the end, the rest is left out
  pub rest_out : (l : List A) (at : ℕ) (w : List A) (i : ℕ) → i ≤ length w → length l ≤ at + i → sets l at (take i w) ≡ sets l at w
  rest_out l at [] i h k = let e : i ≡ 0 = omega arith in rw e
  rest_out l at (v ∷ w) Prim.Native.Nat.zero h k = sym (sets_past l at (v ∷ w) (omega arith))
  rest_out l at (v ∷ w) (suc i) h k = rest_out (set l at v) (suc at) w i (omega arith) (rw (length-set l at v) (omega arith))

  -- in the place of those that stood there
  pub all_put : (l : List A) (at k : ℕ) (w : List A) → k ≡ length w → at + length w ≤ length l → put_mid at k l w ≡ sets l at w
  all_put l at k w e h = rw (e, drop-drop (length w) at l) (rw (sets-eq w l at h, append_assoc))

  -- as many as there is room for are stored, and so all
  pub part_put : (l : List A) (at k n : ℕ) (w : List A) → k ≡ n → at + n ≡ length l → n ≤ length w → put_mid at k l (take n w) ≡ sets l at w
  part_put l at k n w e r h =
      let t : length (take n w) ≡ n = length-take-le n w h in
      all_put l at k (take n w) (e ∙ sym t) (rw t (omega arith)) ∙ rest_out l at w n h (omega arith)
