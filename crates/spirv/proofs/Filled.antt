-- Each record of a filled list is the rule's for its type, by the records of lower types; so what holds by lower types holds of all. Assumes nothing.
use Prim.Native.Nat.{ℕ, zero, suc, ◌+◌, ◌<◌, ◌≤◌}
use mathlib.Core.Path.{◌≡◌, refl, sym, ap, ◌∙◌, subst}
use mathlib.Core.List.{List, [], ◌∷◌, ◌++◌}
use mathlib.Core.Option.{none, some}
use native.Mathlib.Omega.{arith}
use lib.ListN.{length, get_or, get_elem?, length-append, get_or-append, get_or-eq_default}
use lib.Seq.{get_or-append_seam}
use Rattle.arith.proofs.Results.{no_some, some_is}
use Rattle.spirv.specs.Decl.{Decl, filled_after, filled}

-- ---- the records of a list of types

module _ {A : Type 0} (missing : A) (rule : (below : ℕ → A) → Decl → A) where
  -- the record of type t, which is d: by the records below it, and by none from it on
  pub record MadeAt (records : List A) (t : ℕ) (d : Decl) : Type 0 where
    pub below : ℕ → A
    pub made : get_or records t missing ≡ rule below d
    pub same : (u : ℕ) → u < t → below u ≡ get_or records u missing
    pub none_above : (u : ℕ) → t ≤ u → below u ≡ missing

  stays : (ds : List Decl) (lower : List A) (u : ℕ) → u < length lower → get_or (filled_after missing rule lower ds) u missing ≡ get_or lower u missing
  unfolding filled_after
  stays [] lower u h = refl
  stays (d ∷ ds) lower u h =
      let next = lower ++ (rule (λ t. get_or lower t missing) d ∷ []) in
      stays ds next u (omega (arith, length-append lower (rule (λ t. get_or lower t missing) d ∷ []))) ∙ get_or-append lower _ missing u h

  made_after : (ds : List Decl) (lower : List A) (t : ℕ) (d : Decl) → get_elem? ds t ≡ some d → MadeAt (filled_after missing rule lower ds) (length lower + t) d
  unfolding filled_after
  made_after [] lower t d h = absurd (no_some h)
  made_after (e ∷ es) lower zero d h =
      let x = rule (λ t. get_or lower t missing) e in
      let here : length lower + 0 ≡ length lower = omega arith in
      let long = length-append lower (x ∷ []) in
      subst (λ (n : ℕ). MadeAt (filled_after missing rule lower (e ∷ es)) n d) (sym here) record {
        below = λ t. get_or lower t missing;
        made = stays es (lower ++ (x ∷ [])) (length lower) (omega arith) ∙ get_or-append_seam lower x [] missing ∙ ap (rule (λ t. get_or lower t missing)) (some_is h);
        same = λ u lt. sym (stays (e ∷ es) lower u lt);
        none_above = λ u le. get_or-eq_default lower missing le;
      }
  made_after (e ∷ es) lower (suc t) d h =
      let x = rule (λ t. get_or lower t missing) e in
      let long = length-append lower (x ∷ []) in
      let there : length (lower ++ (x ∷ [])) + t ≡ length lower + suc t = omega arith in
      subst (λ (n : ℕ). MadeAt (filled_after missing rule lower (e ∷ es)) n d) there (made_after es (lower ++ (x ∷ [])) t d h)

  length_after : (ds : List Decl) (lower : List A) → length (filled_after missing rule lower ds) ≡ length lower + length ds
  unfolding filled_after
  length_after [] lower = omega arith
  length_after (d ∷ ds) lower =
      let x = rule (λ t. get_or lower t missing) d in
      omega (arith, length_after ds (lower ++ (x ∷ [])), length-append lower (x ∷ []))

  pub length_filled : (types : List Decl) → length (filled missing rule types) ≡ length types
  unfolding filled
  length_filled types = omega (arith, length_after types [])

  pub filled_at : (types : List Decl) (t : ℕ) (d : Decl) → get_elem? types t ≡ some d → MadeAt (filled missing rule types) t d
  unfolding filled
  filled_at types t d h = let e : 0 + t ≡ t = omega arith in subst (λ (n : ℕ). MadeAt (filled_after missing rule [] types) n d) e (made_after types [] t d h)

  pub filled_missing : (types : List Decl) (t : ℕ) → get_elem? types t ≡ none → get_or (filled missing rule types) t missing ≡ missing
  filled_missing types t h = get_or-eq_default (filled missing rule types) missing (omega (arith, length_filled types, no_element types t h))
    where
      no_element : (ds : List Decl) (t : ℕ) → get_elem? ds t ≡ none → length ds ≤ t
      no_element [] t h = omega arith
      no_element (d ∷ ds) zero h = absurd (no_some (sym h))
      no_element (d ∷ ds) (suc t) h = omega (arith, no_element ds t h)

-- ---- what holds of each type by lower ones holds of all

pub by_lower : (P : ℕ → Type 0) → ((t : ℕ) → ((u : ℕ) → u < t → P u) → P t) → (t : ℕ) → P t
by_lower P f t = f t (up_to t)
  where
    up_to : (n : ℕ) (u : ℕ) → u < n → P u
    up_to zero u h = absurd (omega arith)
    up_to (suc n) u h = f u (λ w l. up_to n w (omega arith))
