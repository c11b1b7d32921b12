-- What D lines come to in a table is what layouts ask of them. Assumes nothing.
use Prim.Native.Nat.{ℕ, ◌+◌}
use native.Mathlib.Omega.{arith}
use mathlib.Core.Path.{◌≡◌, refl, sym, ap, ◌∙◌}
use mathlib.Core.Bool.{Bool, true, false, cond}
use mathlib.Core.List.{List, [], ◌∷◌, ◌++◌, append-nil, append_assoc}
use borrow.Author.Tests.{ne_eqb}
use lib.Dec.{eqb, ltb}
use lib.ListN.{length, length-append}
use Rattle.arith.specs.Refusals.{Result, ok, refused, ◌>>=◌, ◌>>◌, refuse◌when◌}
use Rattle.spirv.specs.declared.Decoration.{Decoration}
use Rattle.spirv.specs.declared.Decoration.TheVariants.{RowMajor, Offset}
use Rattle.spirv.specs.declared.MemberDecoration.{MemberDecoration}
use Rattle.spirv.specs.Reduced.{Reduction, refusing, taken_in, reduced_by, reduced_from, reduced}
use Rattle.layout.specs.Structs.{given_offset, given_offsets}
use Rattle.reduction.specs.Statements.{ReducesRight}

abbrev told : Reduction → Result (List ℕ)
told r = cond (eqb r.refusal 0) (ok r.offsets) (refused r.refusal)

-- offsets behind those that were read
abbrev behind : List ℕ → Result (List ℕ) → Result (List ℕ)
behind offsets (ok rest) = ok (offsets ++ rest)
behind offsets (refused n) = refused n

behind_none : (r : Result (List ℕ)) → r ≡ behind [] r
behind_none (ok rest) = refl
behind_none (refused n) = refl

-- the first refusal stays
stay : (offsets : List ℕ) (n : ℕ) (d : MemberDecoration) → (n ≡ 0 → ⊥) → reduced_by (refusing offsets n) d ≡ refusing offsets n
unfolding reduced_by
stay offsets n d h = rw (ne_eqb n 0 h)

stays : (offsets : List ℕ) (n : ℕ) (ds : List MemberDecoration) → (n ≡ 0 → ⊥) → told (reduced_from (refusing offsets n) ds) ≡ refused n
stays offsets n [] h = rw (ne_eqb n 0 h)
stays offsets n (d ∷ ds) h = ap (λ (r : Reduction). told (reduced_from r ds)) (stay offsets n d h) ∙ stays offsets n ds h

-- one offset more
behind_more : (offsets : List ℕ) (v : ℕ) (r : Result (List ℕ)) → behind offsets (r >>= (λ rest. ok (v ∷ rest))) ≡ behind (offsets ++ (v ∷ [])) r
unfolding ◌>>=◌
behind_more offsets v (ok rest) = ap ok (sym (append_assoc offsets (v ∷ []) rest))
behind_more offsets v (refused n) = refl

module _ (ds : List MemberDecoration) (offsets : List ℕ) where
  -- a decoration and those behind it
  abbrev further : ℕ → Decoration → Result (List ℕ)
  further member c = given_offset (length offsets) member c >>= (λ offset. given_offsets (length offsets + 1) ds >>= (λ rest. ok (offset ∷ rest)))

  step : ((v : ℕ) → behind (offsets ++ (v ∷ [])) (given_offsets (length (offsets ++ (v ∷ []))) ds) ≡ told (reduced_from (refusing (offsets ++ (v ∷ [])) 0) ds))
      → (member : ℕ) (c : Decoration) → behind offsets (further member c) ≡ told (reduced_from (taken_in offsets member c) ds)
  unfolding given_offset taken_in ◌>>=◌ ◌>>◌ refuse◌when◌
  step i member RowMajor = sym (stays offsets 12 ds (omega arith))
  step i member (Offset v) = go (ltb member (length offsets)) (ltb (length offsets) member)
    where
      read : behind offsets (given_offsets (length offsets + 1) ds >>= (λ rest. ok (v ∷ rest))) ≡ told (reduced_from (refusing (offsets ++ (v ∷ [])) 0) ds)
      read =
          let n : length (offsets ++ (v ∷ [])) ≡ length offsets + 1 = length-append offsets (v ∷ []) in
          behind_more offsets v (given_offsets (length offsets + 1) ds) ∙ (rw n at (i v))

      go : (a b : Bool) → behind offsets (((refuse 13 when a) >> ((refuse 14 when b) >> ok v)) >>= (λ offset. given_offsets (length offsets + 1) ds >>= (λ rest. ok (offset ∷ rest))))
          ≡ told (reduced_from (cond a (refusing offsets 13) (cond b (refusing offsets 14) (refusing (offsets ++ (v ∷ [])) 0))) ds)
      go true b = sym (stays offsets 13 ds (omega arith))
      go false true = sym (stays offsets 14 ds (omega arith))
      go false false = read

givens_none : (n : ℕ) → given_offsets n [] ≡ ok []
unfolding given_offsets
givens_none n = refl

givens : (n : ℕ) (d : MemberDecoration) (ds : List MemberDecoration) → given_offsets n (d ∷ ds) ≡ (given_offset n d.member d.decoration >>= (λ offset. given_offsets (n + 1) ds >>= (λ rest. ok (offset ∷ rest))))
unfolding given_offsets
givens n d ds = refl

taken : (offsets : List ℕ) (d : MemberDecoration) → reduced_by (refusing offsets 0) d ≡ taken_in offsets d.member d.decoration
unfolding reduced_by
taken offsets d = refl

agrees : (ds : List MemberDecoration) (offsets : List ℕ) → behind offsets (given_offsets (length offsets) ds) ≡ told (reduced_from (refusing offsets 0) ds)
agrees [] offsets = ap (behind offsets) (givens_none (length offsets)) ∙ ap ok (append-nil offsets)
agrees (d ∷ ds) offsets =
    ap (behind offsets) (givens (length offsets) d ds)
    ∙ step ds offsets (λ v. agrees ds (offsets ++ (v ∷ []))) d.member d.decoration
    ∙ ap (λ (r : Reduction). told (reduced_from r ds)) (sym (taken offsets d))

pub reduces_right : ReducesRight
unfolding reduced
reduces_right ds = behind_none (given_offsets 0 ds) ∙ agrees ds []
