-- The order of decorations, the pointee of a pointer, and records filled from type 0 upward, computed from the definitions. Assumes nothing.
use Prim.Native.Nat.{ℕ, ◌+◌}
use mathlib.Core.Path.{◌≡◌, refl}
use mathlib.Core.Bool.{true, false}
use mathlib.Core.List.{List, [], ◌∷◌, map}
use Rattle.arith.specs.Refusals.{ok, refused, no_pointer}
use Rattle.spirv.specs.declared.Length.TheVariants.{Fixed}
use Rattle.spirv.specs.declared.Stride.TheVariants.{Undecorated}
use Rattle.spirv.specs.declared.SpvType.TheVariants as spv
use Rattle.spirv.specs.declared.Decoration.TheVariants.{RowMajor, Offset}
use Rattle.spirv.specs.declared.MemberDecoration.{MemberDecoration}
use Rattle.spirv.specs.Decl.{Decl, pointee_of, before, filled}

-- each in its place: by member, then decoration, then value
abbrev ordered : List MemberDecoration
ordered = record { member = 0; decoration = RowMajor } ∷ record { member = 0; decoration = Offset 0 } ∷ record { member = 0; decoration = Offset 7 } ∷ record { member = 1; decoration = RowMajor } ∷ record { member = 1; decoration = Offset 3 } ∷ []

-- a decoration comes before those behind it, and neither before itself nor before those in front of it
order : map (λ a. map (before a) ordered) ordered
    ≡ (false ∷ true ∷ true ∷ true ∷ true ∷ [])
    ∷ (false ∷ false ∷ true ∷ true ∷ true ∷ [])
    ∷ (false ∷ false ∷ false ∷ true ∷ true ∷ [])
    ∷ (false ∷ false ∷ false ∷ false ∷ true ∷ [])
    ∷ (false ∷ false ∷ false ∷ false ∷ false ∷ [])
    ∷ []
unfolding before
order = refl

pointees : map pointee_of (spv.Bool ∷ spv.Int 32 ∷ spv.Float 32 ∷ spv.Vector 1 2 ∷ spv.Matrix 1 2 ∷ spv.Array 1 (Fixed 2) Undecorated ∷ spv.RuntimeArray 1 Undecorated ∷ spv.Struct true ∷ spv.Opaque ∷ spv.Unsupported ∷ spv.Pointer 12 7 ∷ [])
    ≡ refused no_pointer ∷ refused no_pointer ∷ refused no_pointer ∷ refused no_pointer ∷ refused no_pointer ∷ refused no_pointer ∷ refused no_pointer ∷ refused no_pointer ∷ refused no_pointer ∷ refused no_pointer ∷ ok 7 ∷ []
unfolding pointee_of
pointees = refl

-- the sum of the members' records, for a rule
abbrev total : (ℕ → ℕ) → List ℕ → ℕ
total below [] = 0
total below (m ∷ ms) = below m + total below ms

abbrev struct : List ℕ → Decl
struct members = record { type = spv.Struct false; members = members; decorations = [] }

-- a rule sees the records of lower types in their order, and 5 for a type that there is not
upward : filled 5 (λ below d. total below d.members) (struct (0 ∷ []) ∷ struct (0 ∷ 1 ∷ []) ∷ struct (1 ∷ 1 ∷ 0 ∷ []) ∷ []) ≡ 5 ∷ 10 ∷ 25 ∷ []
unfolding filled
upward = refl
