-- The offsets that D lines give, with one D line more. Assumes nothing.
use Prim.Native.Nat.{ℕ, zero, suc, ◌+◌, ◌-◌, ◌≤◌, ◌<◌}
use native.Mathlib.Omega.{arith}
use mathlib.Core.Path.{◌≡◌, refl, sym, ap, ◌∙◌}
use mathlib.Core.Bool.{Bool, true, false, cond}
use mathlib.Core.List.{List, [], ◌∷◌, ◌++◌, append_assoc}
use borrow.Author.Tests.{eq-eqb, ne_eqb, ltb-true, ltb-false}
use lib.Dec.{eqb, ltb}
use lib.ListN.{length, set, take, replicate, length-append, length-replicate}
use lib.Seq.{sets, take-append-add, take-append-le, set-append_seam, length-take-le}
use Rattle.spirv.specs.declared.Decoration.{Decoration}
use Rattle.spirv.specs.declared.Decoration.TheVariants.{RowMajor, Offset}
use Rattle.spirv.specs.declared.MemberDecoration.{MemberDecoration}
use Rattle.spirv.specs.Decl.{Decl, is_struct}
use Rattle.spirv.specs.Reduced.{Reduction, taken_in, reduced_by, reduced, decl_row, given_words}
use Rattle.tally.proofs.Decorated.{decorated, reduced_last}
use Rattle.puts.specs.Puts.{offset_in, offset_words}
use Rattle.puts.proofs.Stores.{last_in}

-- so many words: offsets, then zeros
abbrev cut : ℕ → List ℕ → List ℕ
cut n offsets = take n (offsets ++ replicate n 0)

take_zeros : (j a : ℕ) → j ≤ a → take j (replicate {A = ℕ} a 0) ≡ replicate j 0
take_zeros zero a h = refl
take_zeros (suc j) zero h = absurd (omega arith)
take_zeros (suc j) (suc a) h = ap (λ (x : List ℕ). 0 ∷ x) (take_zeros j a (omega arith))

-- as far as they go, the offsets are in front
cut_is : (offsets : List ℕ) (j : ℕ) → cut (length offsets + j) offsets ≡ offsets ++ replicate j 0
cut_is offsets j = rw (take-append-add offsets (replicate (length offsets + j) 0) j, take_zeros j (length offsets + j) (omega arith))

snoc_cut : (offsets : List ℕ) (v j : ℕ) → cut (length offsets + suc j) (offsets ++ (v ∷ [])) ≡ offsets ++ (v ∷ replicate j 0)
snoc_cut offsets v j =
    let e : length offsets + suc j ≡ length (offsets ++ (v ∷ [])) + j = omega (arith, length-append offsets (v ∷ [])) in
    rw e (cut_is (offsets ++ (v ∷ [])) j ∙ append_assoc offsets (v ∷ []) (replicate j 0))

cut_taken : (offsets : List ℕ) (v j : ℕ) → set (cut (length offsets + suc j) offsets) (length offsets) v ≡ cut (length offsets + suc j) (offsets ++ (v ∷ []))
cut_taken offsets v j = rw (cut_is offsets (suc j), snoc_cut offsets v j) (set-append_seam offsets 0 (replicate j 0) v)

pub taken_words : (n : ℕ) (offsets : List ℕ) (v : ℕ) → length offsets < n → set (cut n offsets) (length offsets) v ≡ cut n (offsets ++ (v ∷ []))
taken_words n offsets v h = let e : n ≡ length offsets + suc (n - length offsets - 1) = omega arith in rw e (cut_taken offsets v (n - length offsets - 1))

pub past_words : (n : ℕ) (offsets : List ℕ) (v : ℕ) → n ≤ length offsets → cut n offsets ≡ cut n (offsets ++ (v ∷ []))
past_words n offsets v h =
    let z : List ℕ = replicate n 0 in
    let k : n ≤ length (offsets ++ (v ∷ [])) = omega (arith, length-append offsets (v ∷ [])) in
    take-append-le n offsets z h ∙ sym (take-append-le n offsets (v ∷ []) h) ∙ sym (take-append-le n (offsets ++ (v ∷ [])) z k)

pub cut_length : (n : ℕ) (offsets : List ℕ) → length (cut n offsets) ≡ n
cut_length n offsets = let z : List ℕ = replicate n 0 in length-take-le n (offsets ++ z) (omega (arith, length-append offsets z, length-replicate {A = ℕ} n 0))

-- ---- one D line more

module _ (l a : List ℕ) (start n : ℕ) (same : length a ≡ start) (r : Reduction) where
  -- the words that a D line gives, stored
  abbrev offered : (refusal member : ℕ) → Decoration → List ℕ
  offered refusal member c = cond (eqb refusal 0) (cond (eqb member (length r.offsets)) (cond (ltb (length r.offsets) n) (offset_in c) []) []) []

  row_major : (x y z : Bool) → ◌≡◌ {A = List ℕ} (cond x (cond y (cond z [] []) []) []) []
  row_major true true true = refl
  row_major true true false = refl
  row_major true false z = refl
  row_major false y z = refl

  offset_taken : (v member : ℕ) → sets (sets l 0 (a ++ cut n r.offsets)) (start + length r.offsets) (cond (eqb member (length r.offsets)) (cond (ltb (length r.offsets) n) (v ∷ []) []) [])
      ≡ sets l 0 (a ++ cut n (taken_in r.offsets member (Offset v)).offsets)
  unfolding taken_in
  offset_taken v member = go (ltb member (length r.offsets)) refl (ltb (length r.offsets) member) refl
    where
      here : (b : Bool) → ltb (length r.offsets) n ≡ b → sets (sets l 0 (a ++ cut n r.offsets)) (start + length r.offsets) (cond b (v ∷ []) []) ≡ sets l 0 (a ++ cut n (r.offsets ++ (v ∷ [])))
      here true e =
          let h : length r.offsets < n = ltb-true (length r.offsets) n e in
          let k : length r.offsets < length (cut n r.offsets) = omega (arith, cut_length n r.offsets) in
          last_in l a (cut n r.offsets) start (length r.offsets) v same k ∙ ap (λ (w : List ℕ). sets l 0 (a ++ w)) (taken_words n r.offsets v h)
      here false e = ap (λ (w : List ℕ). sets l 0 (a ++ w)) (past_words n r.offsets v (ltb-false (length r.offsets) n e))

      go : (x : Bool) → ltb member (length r.offsets) ≡ x → (y : Bool) → ltb (length r.offsets) member ≡ y
          → sets (sets l 0 (a ++ cut n r.offsets)) (start + length r.offsets) (cond (eqb member (length r.offsets)) (cond (ltb (length r.offsets) n) (v ∷ []) []) [])
          ≡ sets l 0 (a ++ cut n (cond {A = Reduction} x (record { refusal = 13; offsets = r.offsets }) (cond y (record { refusal = 14; offsets = r.offsets }) (record { refusal = 0; offsets = r.offsets ++ (v ∷ []) }))).offsets)
      go true p y q = rw (ne_eqb member (length r.offsets) (λ e. absurd (omega (arith, ltb-true member (length r.offsets) p))))
      go false p true q = rw (ne_eqb member (length r.offsets) (λ e. absurd (omega (arith, ltb-true (length r.offsets) member q))))
      go false p false q =
          let e : member ≡ length r.offsets = omega (arith, ltb-false member (length r.offsets) p, ltb-false (length r.offsets) member q) in
          rw (eq-eqb member (length r.offsets) e) (here (ltb (length r.offsets) n) refl)

  offered_stored : (d : MemberDecoration) → sets (sets l 0 (a ++ cut n r.offsets)) (start + length r.offsets) (offered r.refusal d.member d.decoration) ≡ sets l 0 (a ++ cut n (reduced_by r d).offsets)
  unfolding reduced_by taken_in
  offered_stored d = go (eqb r.refusal 0) d.decoration
    where
      go : (x : Bool) (c : Decoration)
          → sets (sets l 0 (a ++ cut n r.offsets)) (start + length r.offsets) (cond x (cond (eqb d.member (length r.offsets)) (cond (ltb (length r.offsets) n) (offset_in c) []) []) [])
          ≡ sets l 0 (a ++ cut n (cond {A = Reduction} x (taken_in r.offsets d.member c) r).offsets)
      go true RowMajor = rw (row_major true (eqb d.member (length r.offsets)) (ltb (length r.offsets) n))
      go true (Offset v) = offset_taken v d.member
      go false c = refl

-- the given words of the last struct with a D line more
pub offsets_redone : (l a : List ℕ) (start : ℕ) (t : Decl) (d : MemberDecoration) → length a ≡ start → is_struct t.type ≡ true
    → sets (sets l 0 (a ++ given_words t)) ((decl_row start t).start + (decl_row start t).read) (offset_words (decl_row start t) d) ≡ sets l 0 (a ++ given_words (decorated t d))
unfolding given_words decl_row offset_words
offsets_redone l a start t d e s = rw (s, reduced_last t.decorations d) (offered_stored l a start (length t.members) e (reduced t.decorations) d)
