-- Member by member over type numbers is the same as `place` of the members' layouts. Assumes nothing.
use Prim.Native.Nat.{ℕ, suc}
use mathlib.Core.Path.{◌≡◌, refl, sym, ap, subst, ◌∙◌}
use mathlib.Core.Bool.{Bool, true, false}
use mathlib.Core.List.{List, [], ◌∷◌}
use mathlib.Core.Logic.{◌⊎◌, ⊎_elim}
use native.Mathlib.Omega.{arith}
use lib.ListN.{length}
use borrow.Author.Tests.{eq-eqb, eqb-true}
use Rattle.arith.specs.Refusals.{Result, ok, refused, ◌>>=◌, ◌>>◌, refuse◌when◌, refuse◌unless◌}
use Rattle.arith.proofs.Results.{went, value_is, passed, not_refused}
use Rattle.shapes.specs.declared.LayoutConfig.{LayoutConfig}
use Rattle.shapes.specs.Shapes.{MemTypeLayout}
use Rattle.layout.specs.Arrays.{Answer}
use Rattle.layout.specs.Structs.{in_memory, member_layouts, Extent, no_members, Placed, place_given, place_in_turn, place}
use Rattle.structs.specs.Steps.{passes, Spot, step_given, step_in_turn, step_by, member_of, step_of, extent_of, offsets_of}

-- ---- members

bind_assoc : {A B C : Type 0} (r : Result A) (f : A → Result B) (g : B → Result C) → ((r >>= f) >>= g) ≡ (r >>= λ a. f a >>= g)
unfolding ◌>>=◌
bind_assoc (ok a) f g = refl
bind_assoc (refused n) f g = refl

pub members_cons : (below : ℕ → Answer) (t : ℕ) (ts : List ℕ)
    → member_layouts below (t ∷ ts) ≡ (member_of (below t) >>= λ m. member_layouts below ts >>= λ ms. ok (m ∷ ms))
unfolding member_layouts member_of
members_cons below t ts = sym (bind_assoc (below t) in_memory _)

-- a member that has a layout leaves the rest to the others
pub members_next : (below : ℕ → Answer) (t : ℕ) (ts : List ℕ) (m : MemTypeLayout) → member_of (below t) ≡ ok m
    → passes (member_layouts below (t ∷ ts)) ≡ passes (member_layouts below ts)
unfolding ◌>>=◌
members_next below t ts m h = rw (members_cons below t ts, h) (by (member_layouts below ts))
  where
    by : (r : Result (List MemTypeLayout)) → passes (r >>= λ ms. ok (m ∷ ms)) ≡ passes r
    by (ok ms) = refl
    by (refused n) = refl

record First (below : ℕ → Answer) (t : ℕ) (ts : List ℕ) (ms : List MemTypeLayout) : Type 0 where
  pub memory : MemTypeLayout
  pub others : List MemTypeLayout
  pub here : member_of (below t) ≡ ok memory
  pub rest : member_layouts below ts ≡ ok others
  pub same : (memory ∷ others) ≡ ms

first : (below : ℕ → Answer) (t : ℕ) (ts : List ℕ) (ms : List MemTypeLayout) → member_layouts below (t ∷ ts) ≡ ok ms → First below t ts ms
first below t ts ms h =
    let m = went _ _ (sym (members_cons below t ts) ∙ h) in
    let o = went _ _ m.rest in
    record { memory = m.value; others = o.value; here = m.here; rest = o.here; same = value_is o.rest }

test_assoc : {A B : Type 0} (n : ℕ) (t : Bool) (r : Result A) (next : A → Result B) → (((refuse n when t) >> r) >>= next) ≡ ((refuse n when t) >> (r >>= next))
unfolding ◌>>=◌ ◌>>◌ refuse◌when◌
test_assoc n true r next = refl
test_assoc n false r next = refl

-- ---- the next member

abbrev pub behind : ℕ → Placed → Placed
behind o p = record { offsets = o ∷ p.offsets; extent = p.extent }

pub in_turn_cons : (cfg : LayoutConfig) (x : Extent) (m : MemTypeLayout) (ms : List MemTypeLayout)
    → place_in_turn cfg x (m ∷ ms) ≡ (step_in_turn cfg x m >>= λ s. place_in_turn cfg s.extent ms >>= λ p. ok (behind s.offset p))
unfolding place_in_turn step_in_turn ◌>>=◌
in_turn_cons cfg x m ms = simp (test_assoc, bind_assoc)

pub given_cons : (x : Extent) (o : ℕ) (os : List ℕ) (m : MemTypeLayout) (ms : List MemTypeLayout)
    → place_given x (o ∷ os) (m ∷ ms) ≡ (step_given o x m >>= λ s. place_given s.extent os ms)
unfolding place_given step_given ◌>>=◌
given_cons x o os m ms = simp (test_assoc, bind_assoc)

step_of_lem : (cfg : LayoutConfig) (below : ℕ → Answer) (given : List ℕ) (x : Extent) (t : ℕ) (m : MemTypeLayout)
    → member_of (below t) ≡ ok m → step_of cfg below given x t ≡ step_by cfg given x m
unfolding step_of ◌>>=◌
step_of_lem cfg below given x t m h = rw h

-- ---- all members

abbrev extent_of_lem : Placed → Result Extent
extent_of_lem p = ok p.extent

module _ (cfg : LayoutConfig) (below : ℕ → Answer) where
  pub members_length : (ts : List ℕ) (ms : List MemTypeLayout) → member_layouts below ts ≡ ok ms → length ms ≡ length ts
  unfolding member_layouts
  members_length [] ms h = rw (sym (value_is h))
  members_length (t ∷ ts) ms h = let f = first below t ts ms h in rw (← f.same) (ap suc (members_length ts f.others f.rest))

  in_turn_extent : (x : Extent) (ts : List ℕ) (ms : List MemTypeLayout) → member_layouts below ts ≡ ok ms
      → extent_of cfg below [] x ts ≡ (place_in_turn cfg x ms >>= extent_of_lem)
  unfolding extent_of place_in_turn step_by ◌>>=◌ member_layouts
  in_turn_extent x [] ms h = rw (sym (value_is h))
  in_turn_extent x (t ∷ ts) ms h =
      let f = first below t ts ms h in
      subst (λ (l : List MemTypeLayout). extent_of cfg below [] x (t ∷ ts) ≡ (place_in_turn cfg x l >>= extent_of_lem)) f.same
      (rw (step_of_lem cfg below [] x t f.memory f.here, in_turn_cons cfg x f.memory f.others) (by f.others (λ y. in_turn_extent y ts f.others f.rest) (step_in_turn cfg x f.memory)))
    where
      without : (o : ℕ) (q : Result Placed) → (q >>= extent_of_lem) ≡ ((q >>= λ p. ok (behind o p)) >>= extent_of_lem)
      without o (ok p) = refl
      without o (refused n) = refl

      by : (os : List MemTypeLayout) → ((y : Extent) → extent_of cfg below [] y ts ≡ (place_in_turn cfg y os >>= extent_of_lem)) → (r : Result Spot)
          → (r >>= λ s. extent_of cfg below [] s.extent ts) ≡ ((r >>= λ s. place_in_turn cfg s.extent os >>= λ p. ok (behind s.offset p)) >>= extent_of_lem)
      by os g (ok s) = g s.extent ∙ without s.offset (place_in_turn cfg s.extent os)
      by os g (refused n) = refl

  in_turn_offsets : (x : Extent) (ts : List ℕ) (ms : List MemTypeLayout) (p : Placed) → member_layouts below ts ≡ ok ms → place_in_turn cfg x ms ≡ ok p
      → offsets_of cfg below [] x ts ≡ p.offsets
  unfolding offsets_of place_in_turn step_by member_layouts
  in_turn_offsets x [] ms p h g = ap Placed.offsets (value_is (subst (λ (l : List MemTypeLayout). place_in_turn cfg x l ≡ ok p) (sym (value_is h)) g))
  in_turn_offsets x (t ∷ ts) ms p h g =
      let f = first below t ts ms h in
      let e : place_in_turn cfg x (f.memory ∷ f.others) ≡ ok p = subst (λ (l : List MemTypeLayout). place_in_turn cfg x l ≡ ok p) (sym f.same) g in
      let s = went _ _ (sym (in_turn_cons cfg x f.memory f.others) ∙ e) in
      let q = went _ _ s.rest in
      rw (step_of_lem cfg below [] x t f.memory f.here, s.here, in_turn_offsets s.value.extent ts f.others q.value f.rest q.here)
      (ap Placed.offsets (value_is q.rest))

  given_extent : (x : Extent) (gs ts : List ℕ) (ms : List MemTypeLayout) → member_layouts below ts ≡ ok ms → length gs ≡ length ts
      → extent_of cfg below gs x ts ≡ place_given x gs ms
  unfolding extent_of place_given step_by ◌>>=◌ member_layouts
  given_extent x [] [] ms h e = refl
  given_extent x [] (t ∷ ts) ms h e = absurd (omega arith)
  given_extent x (g ∷ gs) [] ms h e = absurd (omega arith)
  given_extent x (g ∷ gs) (t ∷ ts) ms h e =
      let f = first below t ts ms h in
      subst (λ (l : List MemTypeLayout). extent_of cfg below (g ∷ gs) x (t ∷ ts) ≡ place_given x (g ∷ gs) l) f.same
      (rw (step_of_lem cfg below (g ∷ gs) x t f.memory f.here, given_cons x g gs f.memory f.others) (by f.others (λ y. given_extent y gs ts f.others f.rest (omega arith)) (step_given g x f.memory)))
    where
      by : (os : List MemTypeLayout) → ((y : Extent) → extent_of cfg below gs y ts ≡ place_given y gs os) → (r : Result Spot)
          → (r >>= λ s. extent_of cfg below gs s.extent ts) ≡ (r >>= λ s. place_given s.extent gs os)
      by os k (ok s) = k s.extent
      by os k (refused n) = refl

  given_offsets : (x y : Extent) (gs ts : List ℕ) (ms : List MemTypeLayout) → member_layouts below ts ≡ ok ms → length gs ≡ length ts → place_given x gs ms ≡ ok y
      → offsets_of cfg below gs x ts ≡ gs
  unfolding offsets_of step_by step_given
  given_offsets x y [] [] ms h e k = refl
  given_offsets x y [] (t ∷ ts) ms h e k = absurd (omega arith)
  given_offsets x y (g ∷ gs) [] ms h e k = absurd (omega arith)
  given_offsets x y (g ∷ gs) (t ∷ ts) ms h e k =
      let f = first below t ts ms h in
      let d : place_given x (g ∷ gs) (f.memory ∷ f.others) ≡ ok y = subst (λ (l : List MemTypeLayout). place_given x (g ∷ gs) l ≡ ok y) (sym f.same) k in
      let s = went _ _ (sym (given_cons x g gs f.memory f.others) ∙ d) in
      let n = went _ _ s.here in
      let o : s.value.offset ≡ g = sym (ap Spot.offset (value_is (passed _ _ n.rest))) in
      rw (step_of_lem cfg below (g ∷ gs) x t f.memory f.here, s.here, o, given_offsets s.value.extent y gs ts f.others f.rest (omega arith) s.rest)

  -- `place` of the members' layouts
  pub placed_extent : (given ts : List ℕ) (ms : List MemTypeLayout) → member_layouts below ts ≡ ok ms → (given ≡ []) ⊎ (length given ≡ length ts)
      → extent_of cfg below given (no_members cfg) ts ≡ (place cfg given ms >>= extent_of_lem)
  unfolding place ◌>>=◌ ◌>>◌ refuse◌unless◌
  placed_extent [] ts ms h o = in_turn_extent (no_members cfg) ts ms h
  placed_extent (g ∷ gs) ts ms h o =
      let e : length (g ∷ gs) ≡ length ts = ⊎_elim (λ z. absurd (no_list z)) (λ z. z) o in
      let l = members_length ts ms h in
      rw (eq-eqb (length (g ∷ gs)) (length ms) (omega arith)) (given_extent (no_members cfg) (g ∷ gs) ts ms h e ∙ again (place_given (no_members cfg) (g ∷ gs) ms))
    where
      no_list : (g ∷ gs) ≡ [] → ⊥
      no_list z = let y : ◌≡◌ {A = ℕ} 0 1 = cc in omega arith

      again : (r : Result Extent) → r ≡ ((r >>= λ x. ok record { offsets = g ∷ gs; extent = x }) >>= extent_of_lem)
      again (ok x) = refl
      again (refused n) = refl

  pub placed_offsets : (given ts : List ℕ) (ms : List MemTypeLayout) (p : Placed) → member_layouts below ts ≡ ok ms → place cfg given ms ≡ ok p
      → offsets_of cfg below given (no_members cfg) ts ≡ p.offsets
  unfolding place
  placed_offsets [] ts ms p h g = in_turn_offsets (no_members cfg) ts ms p h g
  placed_offsets (o ∷ os) ts ms p h g =
      let x = went _ _ (passed _ _ g) in
      let e = eqb-true (length (o ∷ os)) (length ms) (not_refused _ _ _ g) in
      let l = members_length ts ms h in
      given_offsets (no_members cfg) x.value (o ∷ os) ts ms h (omega arith) x.here ∙ ap Placed.offsets (value_is x.rest)

  in_turn_length : (x : Extent) (ms : List MemTypeLayout) (p : Placed) → place_in_turn cfg x ms ≡ ok p → length p.offsets ≡ length ms
  unfolding place_in_turn
  in_turn_length x [] p g = rw (sym (value_is g))
  in_turn_length x (m ∷ ms) p g =
      let s = went _ _ (sym (in_turn_cons cfg x m ms) ∙ g) in
      let q = went _ _ s.rest in
      rw (sym (value_is q.rest)) (ap suc (in_turn_length s.value.extent ms q.value q.here))

  -- an offset for each member
  pub placed_length : (given : List ℕ) (ms : List MemTypeLayout) (p : Placed) → place cfg given ms ≡ ok p → length p.offsets ≡ length ms
  unfolding place
  placed_length [] ms p g = in_turn_length (no_members cfg) ms p g
  placed_length (o ∷ os) ms p g =
      let x = went _ _ (passed _ _ g) in rw (sym (value_is x.rest)) (eqb-true (length (o ∷ os)) (length ms) (not_refused _ _ _ g))
