-- One turn of a walk over the members from number i on, by what the code's step answers. Assumes nothing.
use Prim.Native.Nat.{ℕ, suc, ◌+◌, ◌≤◌, ◌<◌}
use mathlib.Core.Path.{◌≡◌, sym, ap, ◌∙◌}
use mathlib.Core.List.{List, [], ◌∷◌}
use native.Mathlib.Numerals.{add-one}
use lib.ListN.{length, get_or, drop, drop_of_length-le}
use lib.Seq.{drop-cons}
use Rattle.std.specs.Prelude.{Ok, Err}
use Rattle.arith.specs.Refusals.{Result, ok, refused, ◌>>=◌}
use Rattle.arith.specs.InCode.{OrRefusal, in_code}
use Rattle.arith.specs.declared.refusal.Refusal.{Refusal}
use Rattle.shapes.specs.declared.LayoutConfig.{LayoutConfig}
use Rattle.shapes.specs.declared.MaybeDynMemLayout.{MaybeDynMemLayout}
use Rattle.rules.specs.Rules.{with_parts}
use Rattle.layout.specs.Arrays.{Answer}
use Rattle.layout.specs.Structs.{Extent, member_layouts}
use Rattle.structs.specs.declared.Placed.{Placed}
use Rattle.structs.specs.Steps.{Spot, mapped, passes, numbers_of, member_of, step_by, step_of, extent_of, offsets_of, offset_and, extent_in, held_spot, SaysStep}
use Rattle.structs.proofs.Inversions.{Mapped, mapped_ok, mapped_err, rest_drop}
use Rattle.structs.proofs.Placement.{members_cons, members_next}

-- a member's step, by its memory
pub step_with : (cfg : LayoutConfig) (below : ℕ → Answer) (given : List ℕ) (x : Extent) (t : ℕ) (mem : MaybeDynMemLayout) {said : OrRefusal Placed}
    → Ok mem ≡ in_code (mapped numbers_of (member_of (below t))) → SaysStep said (λ parts. step_by cfg given x (with_parts mem parts))
    → said ≡ in_code (mapped held_spot (step_of cfg below given x t))
unfolding step_of ◌>>=◌
step_with cfg below given x t mem h s =
    let m = mapped_ok numbers_of (member_of (below t)) mem h in
    rw m.here (s.by m.value.components ∙ ap (λ (k : MaybeDynMemLayout). in_code (mapped held_spot (step_by cfg given x (with_parts k m.value.components)))) (sym m.same))

-- ---- the members' own refusals

module _ (below : ℕ → Answer) (types : List ℕ) (i : ℕ) where
  abbrev member : Answer
  member = below (get_or types i 0)

  pub check_next : (mem : MaybeDynMemLayout) → i < length types → Ok mem ≡ in_code (mapped numbers_of (member_of member))
      → passes (member_layouts below (drop i types)) ≡ passes (member_layouts below (drop (i + 1) types))
  check_next mem h k =
      let m = mapped_ok numbers_of (member_of member) mem k in
      rw (drop-cons types i 0 h, add-one i) (members_next below (get_or types i 0) (drop (suc i) types) m.value m.here)

  pub check_stop : (e : Refusal) → i < length types → Err e ≡ in_code (mapped numbers_of (member_of member))
      → passes (member_layouts below (drop i types)) ≡ refused e.number
  unfolding ◌>>=◌
  check_stop e h k =
      rw (drop-cons types i 0 h, members_cons below (get_or types i 0) (drop (suc i) types), mapped_err numbers_of (member_of member) e k)

  pub check_end : length types ≤ i → passes (member_layouts below (drop i types)) ≡ ok tt
  unfolding member_layouts
  check_end h = rw (drop_of_length-le types h)

-- ---- extent and offsets

module _ (cfg : LayoutConfig) (below : ℕ → Answer) (given types : List ℕ) (x : Extent) (i : ℕ) where
  abbrev here : Result Spot
  here = step_of cfg below (drop i given) x (get_or types i 0)

  extent_is : {p : Placed} (s : Mapped held_spot here p) → s.value.extent ≡ extent_in p.extent
  extent_is s = ap (λ (p : Placed). extent_in p.extent) s.same

  extent_first : i < length types → extent_of cfg below (drop i given) x (drop i types) ≡ (here >>= λ s. extent_of cfg below (drop (i + 1) given) s.extent (drop (i + 1) types))
  unfolding extent_of
  extent_first h = rw (drop-cons types i 0 h, rest_drop given i, add-one i)

  offsets_first : i < length types → offsets_of cfg below (drop i given) x (drop i types) ≡ offset_and here λ y. offsets_of cfg below (drop (i + 1) given) y (drop (i + 1) types)
  unfolding offsets_of
  offsets_first h = rw (drop-cons types i 0 h, rest_drop given i, add-one i)

  pub extent_next : (p : Placed) → i < length types → Ok p ≡ in_code (mapped held_spot here)
      → extent_of cfg below (drop i given) x (drop i types) ≡ extent_of cfg below (drop (i + 1) given) (extent_in p.extent) (drop (i + 1) types)
  unfolding ◌>>=◌
  extent_next p h k =
      let s = mapped_ok held_spot here p k in
      extent_first h ∙ ap (λ (r : Result Spot). r >>= λ s. extent_of cfg below (drop (i + 1) given) s.extent (drop (i + 1) types)) s.here
      ∙ ap (λ (e : Extent). extent_of cfg below (drop (i + 1) given) e (drop (i + 1) types)) (extent_is s)

  pub extent_stop : (e : Refusal) → i < length types → Err e ≡ in_code (mapped held_spot here) → extent_of cfg below (drop i given) x (drop i types) ≡ refused e.number
  unfolding ◌>>=◌
  extent_stop e h k = extent_first h ∙ rw (mapped_err held_spot here e k)

  pub extent_end : length types ≤ i → extent_of cfg below (drop i given) x (drop i types) ≡ ok x
  unfolding extent_of
  extent_end h = rw (drop_of_length-le types h)

  pub offsets_next : (p : Placed) → i < length types → Ok p ≡ in_code (mapped held_spot here)
      → offsets_of cfg below (drop i given) x (drop i types) ≡ p.offset ∷ offsets_of cfg below (drop (i + 1) given) (extent_in p.extent) (drop (i + 1) types)
  offsets_next p h k =
      let s = mapped_ok held_spot here p k in
      offsets_first h ∙ ap (λ (r : Result Spot). offset_and r λ y. offsets_of cfg below (drop (i + 1) given) y (drop (i + 1) types)) s.here
      ∙ ap (λ (e : Extent). s.value.offset ∷ offsets_of cfg below (drop (i + 1) given) e (drop (i + 1) types)) (extent_is s)
      ∙ ap (λ (k : ℕ). k ∷ offsets_of cfg below (drop (i + 1) given) (extent_in p.extent) (drop (i + 1) types)) (ap Placed.offset s.same)

  pub offsets_stop : (e : Refusal) → i < length types → Err e ≡ in_code (mapped held_spot here) → offsets_of cfg below (drop i given) x (drop i types) ≡ []
  offsets_stop e h k = offsets_first h ∙ rw (mapped_err held_spot here e k)

  pub offsets_end : length types ≤ i → offsets_of cfg below (drop i given) x (drop i types) ≡ []
  unfolding offsets_of
  offsets_end h = rw (drop_of_length-le types h)
