-- The types read so far keep what is said of them when a line adds a type or decorates the last one. Assumes nothing.
use Prim.Native.Nat.{ℕ, zero, suc, ◌+◌}
use native.Mathlib.Nat.{add-zero, suc-add, add-suc}
use native.Mathlib.Omega.{arith}
use mathlib.Core.Path.{◌≡◌, refl, sym, ap, subst, ◌∙◌}
use mathlib.Core.Bool.{Bool, true, false, false≢true, true≢false}
use mathlib.Core.List.{List, [], ◌∷◌, ◌++◌}
use mathlib.Core.Option.{some}
use lib.ListN.{length, get_elem?}
use Rattle.arith.specs.Refusals.{ok, misread}
use Rattle.arith.proofs.Results.{never, value_is, went, passed, not_refused, no_some, some_is}
use Rattle.spirv.specs.declared.MemberDecoration.{MemberDecoration}
use Rattle.spirv.specs.Decl.{Decl, is_struct}
use Rattle.sheet.specs.Sheet.{member_count, rises, decorate_last}
use Rattle.sheet.specs.Statements.{All, FitsDecoration, Rising, FitsDecl}

pub all_append : {A : Type 0} (P : A → Type 0) (xs : List A) (x : A) → All P xs → P x → All P (xs ++ (x ∷ []))
all_append P [] x p q = (q, tt)
all_append P (y ∷ ys) x p q = (p.0, all_append P ys x p.1 q)

pub all_wider : {A : Type 0} {P Q : A → Type 0} → ((a : A) → P a → Q a) → (xs : List A) → All P xs → All Q xs
all_wider f [] p = tt
all_wider f (x ∷ xs) p = (f x p.0, all_wider f xs p.1)

-- ---- the types from number n on

abbrev pub FitFrom : ℕ → List Decl → Type 0
FitFrom n [] = Unit {0}
FitFrom n (d ∷ ds) = FitsDecl n d × FitFrom (suc n) ds

pub fits_at : (n : ℕ) (ds : List Decl) → FitFrom n ds → (t : ℕ) (d : Decl) → get_elem? ds t ≡ some d → FitsDecl (n + t) d
fits_at n [] p t d h = absurd (no_some h)
fits_at n (e ∷ es) p zero d h = rw add-zero (subst (FitsDecl n) (some_is h) p.0)
fits_at n (e ∷ es) p (suc t) d h = rw (add-suc, ← suc-add) (fits_at (suc n) es p.1 t d h)

pub fit_append : (n : ℕ) (ds : List Decl) (d : Decl) → FitFrom n ds → FitsDecl (n + length ds) d → FitFrom n (ds ++ (d ∷ []))
fit_append n [] d p q = (rw add-zero at q, tt)
fit_append n (e ∷ es) d p q = (p.0, fit_append (suc n) es d p.1 (rw (add-suc, ← suc-add) at q))

pub members_append : (ds : List Decl) (d : Decl) → member_count (ds ++ (d ∷ [])) ≡ member_count ds + length d.members
members_append [] d = omega arith
members_append (e ∷ es) d = omega (arith, members_append es d)

-- ---- the last type

abbrev pub ends_in_struct : List Decl → Bool
ends_in_struct [] = false
ends_in_struct (d ∷ []) = is_struct d.type
ends_in_struct (d ∷ e ∷ es) = ends_in_struct (e ∷ es)

ends_behind : (d : Decl) (ds : List Decl) → ends_in_struct ds ≡ true → ends_in_struct (d ∷ ds) ≡ true
ends_behind d [] h = absurd (false≢true h)
ends_behind d (e ∷ es) h = h

pub ends_append : (ds : List Decl) (d : Decl) → is_struct d.type ≡ true → ends_in_struct (ds ++ (d ∷ [])) ≡ true
ends_append [] d h = h
ends_append (e ∷ es) d h = ends_behind e (es ++ (d ∷ [])) (ends_append es d h)

rising_append : (cs : List MemberDecoration) (d : MemberDecoration) → Rising cs → rises cs d ≡ true → Rising (cs ++ (d ∷ []))
rising_append [] d p h = tt
rising_append (c ∷ []) d p h = (h, tt)
rising_append (b ∷ c ∷ cs) d p h = (p.0, rising_append (c ∷ cs) d p.1 h)

-- types whose last one was decorated
pub record Same (n : ℕ) (ds ts : List Decl) : Type 0 where
  pub fit : FitFrom n ts
  pub count : length ts ≡ length ds
  pub members : member_count ts ≡ member_count ds
  pub ends : ends_in_struct ts ≡ true

decorated : (n : ℕ) (t : Decl) (d : MemberDecoration) → FitsDecl n t → is_struct t.type ≡ true → FitsDecoration d → rises t.decorations d ≡ true
    → FitsDecl n record { type = t.type; members = t.members; decorations = t.decorations ++ (d ∷ []) }
decorated n t d p s q r = record {
  type = p.type;
  members = p.members;
  decorations = all_append FitsDecoration t.decorations d p.decorations q;
  rising = rising_append t.decorations d p.rising r;
  no_members_lem = p.no_members_lem;
  no_decorations = λ h. absurd (true≢false (sym s ∙ h));
}

pub decorate : (n : ℕ) (ds : List Decl) (d : MemberDecoration) {ts : List Decl} → FitFrom n ds → ends_in_struct ds ≡ true → FitsDecoration d
    → decorate_last ds d ≡ ok ts → Same n ds ts
unfolding decorate_last
decorate n [] d p s q h = absurd (never h)
decorate n (t ∷ []) d p s q h =
    let r = not_refused misread (rises t.decorations d) _ h in
    let e = value_is (passed _ _ h) in
    subst (Same n (t ∷ [])) e record { fit = (decorated n t d p.0 s q r, tt); count = refl; members = refl; ends = s }
decorate n (t ∷ u ∷ us) d p s q h =
    let w = went (decorate_last (u ∷ us) d) _ h in
    let ih = decorate (suc n) (u ∷ us) d p.1 s q w.here in
    subst (Same n (t ∷ u ∷ us)) (value_is w.rest) record {
      fit = (p.0, ih.fit);
      count = ap suc ih.count;
      members = ap (λ (k : ℕ). length t.members + k) ih.members;
      ends = ends_behind t w.value ih.ends;
    }
