-- Document 01, "The sheet": a type with what its lines say of it; and "From heap trees to tables": one record a type, filled from type 0 upward.
use Rattle.std.specs.Prelude.{ℕ, Bool, true, false, cond, ltb, eqb, get_or}
use mathlib.Core.List.{List, [], ◌∷◌, ◌++◌}
use Rattle.arith.specs.Refusals.{Result, ok, refused, no_pointer}
use Rattle.spirv.specs.declared.SpvType.{SpvType}
use Rattle.spirv.specs.declared.SpvType.TheVariants as spv
use Rattle.spirv.specs.declared.Decoration.{Decoration}
use Rattle.spirv.specs.declared.Decoration.TheVariants.{RowMajor, Offset}
use Rattle.spirv.specs.declared.MemberDecoration.{MemberDecoration}

-- a declared type, and where it is a struct its members' types and its decorations, both in order
pub record Decl : Type 0 where
  pub type : SpvType
  pub members : List ℕ
  pub decorations : List MemberDecoration

-- a type that is no struct, or one without members
abbrev pub plain : SpvType → Decl
plain t = record { type = t; members = []; decorations = [] }

abbrev pub is_struct : SpvType → Bool
is_struct spv.Bool = false
is_struct (spv.Int w) = false
is_struct (spv.Float w) = false
is_struct (spv.Vector e n) = false
is_struct (spv.Matrix c n) = false
is_struct (spv.Array e n s) = false
is_struct (spv.RuntimeArray e s) = false
is_struct (spv.Struct b) = true
is_struct (spv.Pointer c p) = false
is_struct spv.Opaque = false
is_struct spv.Unsupported = false

-- the pointee of a P; 18 on a non-P
unfoldable pub pointee_of : SpvType → Result ℕ
pointee_of spv.Bool = refused no_pointer
pointee_of (spv.Int width) = refused no_pointer
pointee_of (spv.Float width) = refused no_pointer
pointee_of (spv.Vector elem len) = refused no_pointer
pointee_of (spv.Matrix column len) = refused no_pointer
pointee_of (spv.Array elem len stride) = refused no_pointer
pointee_of (spv.RuntimeArray elem stride) = refused no_pointer
pointee_of (spv.Struct block) = refused no_pointer
pointee_of (spv.Pointer class pointee) = ok pointee
pointee_of spv.Opaque = refused no_pointer
pointee_of spv.Unsupported = refused no_pointer

-- ---- decorations

-- the number of a decoration, and its value
abbrev pub decoration_number : Decoration → ℕ
decoration_number RowMajor = 4
decoration_number (Offset value) = 35

abbrev pub decoration_value : Decoration → ℕ
decoration_value RowMajor = 0
decoration_value (Offset value) = value

-- the order of an AttrSet: by member, decoration, value
unfoldable pub before : MemberDecoration → MemberDecoration → Bool
before a b =
    cond (eqb a.member b.member)
    (cond (eqb (decoration_number a.decoration) (decoration_number b.decoration))
    (ltb (decoration_value a.decoration) (decoration_value b.decoration))
    (ltb (decoration_number a.decoration) (decoration_number b.decoration)))
    (ltb a.member b.member)

-- ---- one record a type

module _ {A : Type 0} (missing : A) (rule : (below : ℕ → A) → Decl → A) where
  -- the records behind those of lower types: each by the rule, from the records below it; a number that there is not is `missing`
  unfoldable pub filled_after : List A → List Decl → List A
  filled_after lower [] = lower
  filled_after lower (d ∷ ds) = filled_after (lower ++ (rule (λ t. get_or lower t missing) d ∷ [])) ds

  -- filled from type 0 upward
  unfoldable pub filled : List Decl → List A
  unfolding filled_after
  filled types = filled_after [] types
