-- The memory of a struct, from what its parts are. Assumes nothing.
use Prim.Native.Nat.{ℕ, ◌+◌, ◌≤◌}
use mathlib.Core.Path.{◌≡◌, refl, ap, ◌∙◌}
use mathlib.Core.Bool.{true}
use mathlib.Core.List.{List, [], ◌∷◌}
use mathlib.Core.Logic.{◌⊎◌, ⊎_elim, inl, inr}
use native.Mathlib.Omega.{arith}
use lib.Dec.{leb}
use lib.ListN.{length, take, drop, length-take}
use borrow.Author.Tests.{ne_eqb, leb-true}
use Rattle.arith.specs.Refusals.{Result, ok, refused, ◌>>=◌, ◌>>◌, refuse◌unless◌, offsets_missing}
use Rattle.arith.proofs.Results.{went, value_is, passed, second_true}
use Rattle.spirv.specs.declared.DeclRow.{DeclRow}
use Rattle.shapes.specs.declared.LayoutConfig.{LayoutConfig}
use Rattle.arith.specs.InCode.{OrRefusal, in_code, err}
use Rattle.shapes.specs.declared.MaybeDynMemLayout.{MaybeDynMemLayout}
use Rattle.shapes.specs.Shapes.{MemTypeLayout}
use Rattle.layout.specs.Arrays.{Answer}
use Rattle.layout.specs.Structs.{Extent, no_members, place}
use Rattle.structs.specs.Steps.{mapped, extent_of, offsets_of, held_extent}
use Rattle.structs.specs.Rows.{StructMemory, Places, memory_of, span_within}
use Rattle.structs.proofs.Placement.{placed_offsets, placed_extent, members_length}

pub none_given : (l : List ℕ) → length l ≡ 0 → l ≡ []
none_given [] h = refl
none_given (a ∷ l) h = absurd (omega arith)

-- offsets that are given, and not one per member
pub not_one_each : (cfg : LayoutConfig) (given : List ℕ) (ms : List MemTypeLayout) → (length given ≡ 0 → ⊥) → (length given ≡ length ms → ⊥)
    → place cfg given ms ≡ refused offsets_missing
unfolding place ◌>>◌ refuse◌unless◌
not_one_each cfg [] ms h k = absurd (h refl)
not_one_each cfg (o ∷ os) ms h k = rw (ne_eqb (length (o ∷ os)) (length ms) k)

-- where there are none, or one per member
pub placed_by : (cfg : LayoutConfig) (below : ℕ → Answer) (types given : List ℕ) (x : OrRefusal MaybeDynMemLayout) → (length given ≡ 0) ⊎ (length given ≡ length types)
    → x ≡ in_code (mapped held_extent (extent_of cfg below given (no_members cfg) types)) → Places x cfg below types given
placed_by cfg below types given x some h =
    let one_each : (given ≡ []) ⊎ (length given ≡ length types) = ⊎_elim (λ z. inl (none_given given z)) inr some in
    record { by = λ ms k. h ∙ ap (λ (r : Result Extent). in_code (mapped held_extent r)) (placed_extent cfg below given types ms k one_each) }

pub not_placed : (cfg : LayoutConfig) (below : ℕ → Answer) (types given : List ℕ) → (length given ≡ 0 → ⊥) → (length given ≡ length types → ⊥)
    → Places (err offsets_missing) cfg below types given
unfolding ◌>>=◌
not_placed cfg below types given h k = record { by = λ ms m. rw (not_one_each cfg given ms h (λ e. k (e ∙ members_length cfg below types ms m))) }

module _ (cfg : LayoutConfig) (below : ℕ → Answer) (types given : List ℕ) (r : DeclRow) where
  -- its offsets are those that the walk gives
  pub of_offsets : (s : StructMemory) → memory_of cfg below types given r ≡ ok s → offsets_of cfg below given (no_members cfg) types ≡ s.offsets
  unfolding memory_of
  of_offsets s h =
      let m = went _ _ h in
      let p = went _ _ (passed _ _ m.rest) in
      let z = went _ _ p.rest in
      placed_offsets cfg below given types m.value p.value m.here p.here ∙ ap StructMemory.offsets (value_is z.rest)

-- ---- spans

pub in_offsets : (r : DeclRow) (m g o : ℕ) → span_within r m g o ≡ true → r.start + r.count ≤ o
in_offsets r m g o h = leb-true _ _ (second_true (leb (r.start + r.count) g) _ (second_true (leb (r.start + r.count) m) _ h))

pub span_length : (count start : ℕ) (l : List ℕ) → length (take count (drop start l)) ≤ count
span_length count start l = omega (arith, length-take count (drop start l))
