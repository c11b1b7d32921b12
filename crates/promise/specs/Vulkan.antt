-- The Vulkan specification, "Offset and Stride Assignment", which document 01 lets decide alignments: scalar, base and extended alignment.
use Rattle.std.specs.Prelude.{ℕ, ◌*◌, ◌/◌, max, cond, ◌&&◌, List, [], ◌∷◌, leb, get_or}
use Rattle.std.proofs.Math.Option.{Option, none, some}
use Rattle.arith.specs.Numbers.{round_up}
use Rattle.spirv.specs.declared.SpvType.{SpvType}
use Rattle.spirv.specs.declared.SpvType.TheVariants as spv
use Rattle.spirv.specs.Decl.{Decl, filled}

-- numeric scalars, vectors of 2 to 4, arrays (sized or runtime) and non-empty structs made of them; a matrix is an array of its columns
mutual
  pub data Vk : Type 0 where
    number : (bytes : ℕ) → Vk
    vector : (len bytes : ℕ) → Vk
    array : Vk → Vk
    struct : Vks → Vk

  pub data Vks : Type 0 where
    one : Vk → Vks
    more : Vk → Vks → Vks

-- ---- the three alignments

unfoldable mutual
  pub scalar_alignment : Vk → ℕ
  scalar_alignment (number bytes) = bytes
  scalar_alignment (vector len bytes) = bytes
  scalar_alignment (array t) = scalar_alignment t
  scalar_alignment (struct ts) = largest_scalar ts

  pub largest_scalar : Vks → ℕ
  largest_scalar (one t) = scalar_alignment t
  largest_scalar (more t ts) = max (scalar_alignment t) (largest_scalar ts)

-- a vector of 2 has twice its scalar alignment, one of 3 or 4 four times
abbrev pub vector_alignment : (len bytes : ℕ) → ℕ
vector_alignment len bytes = cond (leb len 2) (2 * bytes) (4 * bytes)

unfoldable mutual
  pub base_alignment : Vk → ℕ
  base_alignment (number bytes) = bytes
  base_alignment (vector len bytes) = vector_alignment len bytes
  base_alignment (array t) = base_alignment t
  base_alignment (struct ts) = largest_base ts

  pub largest_base : Vks → ℕ
  largest_base (one t) = base_alignment t
  largest_base (more t ts) = max (base_alignment t) (largest_base ts)

-- of an array or a struct rounded up to a multiple of 16
unfoldable mutual
  pub extended_alignment : Vk → ℕ
  extended_alignment (number bytes) = bytes
  extended_alignment (vector len bytes) = vector_alignment len bytes
  extended_alignment (array t) = round_up (extended_alignment t) 16
  extended_alignment (struct ts) = round_up (largest_extended ts) 16

  pub largest_extended : Vks → ℕ
  largest_extended (one t) = extended_alignment t
  largest_extended (more t ts) = max (extended_alignment t) (largest_extended ts)

-- ---- which of them a declared type is

abbrev pub Covered : Type 0
Covered = Option Vk

-- of 2 to 4 numeric scalars
abbrev pub vk_vector : (len : ℕ) → Covered → Covered
vk_vector len none = none
vk_vector len (some (number bytes)) = cond (leb 2 len && leb len 4) (some (vector len bytes)) none
vk_vector len (some (vector k bytes)) = none
vk_vector len (some (array t)) = none
vk_vector len (some (struct ts)) = none

-- of vectors
abbrev pub vk_matrix : Covered → Covered
vk_matrix none = none
vk_matrix (some (number bytes)) = none
vk_matrix (some (vector k bytes)) = some (array (vector k bytes))
vk_matrix (some (array t)) = none
vk_matrix (some (struct ts)) = none

abbrev pub vk_array : Covered → Covered
vk_array none = none
vk_array (some t) = some (array t)

abbrev pub joined : Covered → Option Vks → Option Vks
joined none ts = none
joined (some t) none = none
joined (some t) (some ts) = some (more t ts)

abbrev pub alone : Covered → Option Vks
alone none = none
alone (some t) = some (one t)

-- one member or more, all covered
abbrev pub vk_members : (below : ℕ → Covered) → List ℕ → Option Vks
vk_members below [] = none
vk_members below (m ∷ []) = alone (below m)
vk_members below (m ∷ n ∷ ns) = joined (below m) (vk_members below (n ∷ ns))

abbrev pub vk_struct : Option Vks → Covered
vk_struct none = none
vk_struct (some ts) = some (struct ts)

abbrev pub vk_type : (below : ℕ → Covered) → (members : List ℕ) → SpvType → Covered
vk_type below ms spv.Bool = none
vk_type below ms (spv.Int width) = some (number (width / 8))
vk_type below ms (spv.Float width) = some (number (width / 8))
vk_type below ms (spv.Vector elem len) = vk_vector len (below elem)
vk_type below ms (spv.Matrix column len) = vk_matrix (below column)
vk_type below ms (spv.Array elem len stride) = vk_array (below elem)
vk_type below ms (spv.RuntimeArray elem stride) = vk_array (below elem)
vk_type below ms (spv.Struct block) = vk_struct (vk_members below ms)
vk_type below ms (spv.Pointer class pointee) = none
vk_type below ms spv.Opaque = none
vk_type below ms spv.Unsupported = none

unfoldable pub vk_of : (below : ℕ → Covered) → Decl → Covered
vk_of below d = vk_type below d.members d.type

-- a type for which Vulkan decides; none where it doesn't
unfoldable pub covered : List Decl → ℕ → Covered
unfolding filled
covered types t = get_or (filled none vk_of types) t none
