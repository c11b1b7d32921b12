-- The struct rule member by member, over the members' type numbers: the same as `place` of the members' layouts, where each has one.
use Rattle.std.specs.Prelude.{ℕ, ◌+◌, max, ◌≡◌, ◌&&◌, not, List, [], ◌∷◌, eqb}
use Rattle.arith.specs.Refusals.{Result, ok, refused, ◌>>◌, ◌>>=◌, refuse◌when◌, unsized_misplaced}
use Rattle.arith.specs.InCode.{OrRefusal, in_code}
use Rattle.arith.specs.Numbers.{fit}
use Rattle.shapes.specs.declared.LayoutConfig.{LayoutConfig}
use Rattle.shapes.specs.declared.MaybeDynMemLayout.{MaybeDynMemLayout}
use Rattle.shapes.specs.Shapes.{Components, MemTypeLayout, size_of, runtime_sized}
use Rattle.layout.specs.Arrays.{Answer, rounded}
use Rattle.layout.specs.Structs.{in_memory, Extent, with_member}
use Rattle.structs.specs.declared.Placed.{Placed}

-- ---- one member

-- a member's offset, and the extent with it
pub record Spot : Type 0 where
  pub offset : ℕ
  pub extent : Extent

unfoldable pub step_given : (offset : ℕ) → Extent → MemTypeLayout → Result Spot
step_given offset x m = do
  end ← fit (offset + size_of m)
  refuse unsized_misplaced when (not (eqb x.dyn 0) && runtime_sized m)
  ok record { offset = offset; extent = with_member x (max x.size end) m }

unfoldable pub step_in_turn : LayoutConfig → Extent → MemTypeLayout → Result Spot
step_in_turn cfg x m = do
  refuse unsized_misplaced when not (eqb x.dyn 0)
  offset ← rounded cfg x.size m
  end ← fit (offset + size_of m)
  ok record { offset = offset; extent = with_member x end m }

-- at the first of the offsets given, or in turn where none are
unfoldable pub step_by : LayoutConfig → List ℕ → Extent → MemTypeLayout → Result Spot
step_by cfg [] x m = step_in_turn cfg x m
step_by cfg (g ∷ gs) x m = step_given g x m

-- a member's memory: its own refusal, then 11
unfoldable pub member_of : Answer → Result MemTypeLayout
member_of a = do
  l ← a
  in_memory l

unfoldable pub step_of : LayoutConfig → (below : ℕ → Answer) → (given : List ℕ) → Extent → (type : ℕ) → Result Spot
step_of cfg below given x t = do
  m ← member_of (below t)
  step_by cfg given x m

-- ---- all members

abbrev pub rest : List ℕ → List ℕ
rest [] = []
rest (g ∷ gs) = gs

unfoldable pub extent_of : LayoutConfig → (below : ℕ → Answer) → (given : List ℕ) → Extent → (types : List ℕ) → Result Extent
extent_of cfg below given x [] = ok x
extent_of cfg below given x (t ∷ ts) = do
  s ← step_of cfg below given x t
  extent_of cfg below (rest given) s.extent ts

-- the offsets up to the first member that is refused
abbrev pub offset_and : Result Spot → (Extent → List ℕ) → List ℕ
offset_and (ok s) next = s.offset ∷ next s.extent
offset_and (refused n) next = []

unfoldable pub offsets_of : LayoutConfig → (below : ℕ → Answer) → (given : List ℕ) → Extent → (types : List ℕ) → List ℕ
offsets_of cfg below given x [] = []
offsets_of cfg below given x (t ∷ ts) = offset_and (step_of cfg below given x t) λ y. offsets_of cfg below (rest given) y ts

-- ---- as the code holds them

abbrev pub extent_in : MaybeDynMemLayout → Extent
extent_in m = record { size = m.fixed_base.size; align = m.fixed_base.align; legacy = m.fixed_base.legacy_align; dyn = m.dyn_unit_stride }

abbrev pub held_extent : Extent → MaybeDynMemLayout
held_extent x = record { fixed_base = record { align = x.align; legacy_align = x.legacy; size = x.size }; dyn_unit_stride = x.dyn }

-- with a member more
abbrev pub joined : MaybeDynMemLayout → (size : ℕ) → MaybeDynMemLayout → MaybeDynMemLayout
joined x size m = record {
  fixed_base = record {
    align = max x.fixed_base.align m.fixed_base.align;
    legacy_align = max x.fixed_base.legacy_align m.fixed_base.legacy_align;
    size = size;
  };
  dyn_unit_stride = max x.dyn_unit_stride m.dyn_unit_stride;
}

-- the numbers of memory, without its parts
abbrev pub numbers_of : MemTypeLayout → MaybeDynMemLayout
numbers_of m = m.mem

abbrev pub held_spot : Spot → Placed
held_spot s = record { offset = s.offset; extent = held_extent s.extent }

-- a result with another value, or with none
abbrev pub mapped : {A B : Type 0} → (A → B) → Result A → Result B
mapped f (ok a) = ok (f a)
mapped f (refused n) = refused n

abbrev pub passes : {A : Type 0} → Result A → Result (Unit {0})
passes r = mapped (λ a. tt) r

-- a step is what the definitions say of memory of any parts
pub record SaysStep (s : OrRefusal Placed) (said : Components → Result Spot) : Type 0 where
  pub by : (parts : Components) → s ≡ in_code (mapped held_spot (said parts))
