-- Document 01, "Files as they stay": what the layout rules say together of every layout of a sheet, as statements.
use Rattle.std.specs.Prelude.{ℕ, suc, ◌+◌, ◌*◌, ◌^◌, ◌≤◌, ◌<◌, ◌≡◌, true, List, [], ◌∷◌, ◌↔◌, ◌⊎◌, length}
use Rattle.std.proofs.Math.Option.{some}
use Rattle.std.proofs.Math.ListN.{get_elem?}
use Rattle.arith.specs.Numbers.{max_u32}
use Rattle.arith.specs.Refusals.{ok, refused, unsupported, ambiguous}
use Rattle.shapes.specs.Shapes.{Components, Scalar, Elements, Fields, HandleLayout, MemTypeLayout, TypeLayout, Handle, HandleArray, Concrete, size_of, align_of, legacy_of, dyn_of, contents_of, shown_memory}
use Rattle.sheet.specs.Sheet.{Sheet, good_setting}
use Rattle.sheet.specs.Statements.{All, GoodSheet}
use Rattle.layout.specs.Layouts.{answer_in, runtime_array_in}
use Rattle.layout.specs.Lookup.{size_at_index, lookup}

-- ---- parts: what memory is made of

-- a field of type u at offset o ends within the memory m; where m has a fixed size, so has the field
pub record FieldOf (s : Sheet) (m : MemTypeLayout) (u o : ℕ) : Type 0 where
  pub part : MemTypeLayout
  pub laid : answer_in s u ≡ ok (Concrete part)
  pub ends : o + size_of part ≤ size_of m
  pub fixed : dyn_of m ≡ 0 → dyn_of part ≡ 0

-- as many offsets as members; and a fixed size is a multiple of align
pub record FieldsOf (s : Sheet) (m : MemTypeLayout) (offsets types : List ℕ) : Type 0 where
  pub same_length : length offsets ≡ length types
  pub each : (i u o : ℕ) → get_elem? types i ≡ some u → get_elem? offsets i ≡ some o → FieldOf s m u o
  pub multiple : 1 ≤ align_of m → dyn_of m ≡ 0 → (k : ℕ) × (size_of m ≡ align_of m * k)

-- elements of a fixed size, one behind the other; without a length (0) it is runtime-sized by its stride
pub record ElementsOf (s : Sheet) (m : MemTypeLayout) (stride elem len : ℕ) : Type 0 where
  pub part : MemTypeLayout
  pub laid : answer_in s elem ≡ ok (Concrete part)
  pub part_fixed : dyn_of part ≡ 0
  pub some_stride : 1 ≤ stride
  pub size : size_of m ≡ stride * len
  pub fixed : dyn_of m ≡ 0 → 1 ≤ len

abbrev pub PartsOf : Sheet → MemTypeLayout → Components → Type 0
PartsOf s m Scalar = dyn_of m ≡ 0
PartsOf s m (Elements stride elem len) = ElementsOf s m stride elem len
PartsOf s m (Fields offsets types) = FieldsOf s m offsets types

-- a layout of the sheet: of a type, or of the runtime array from which 67 and 70 start
abbrev pub IsLayoutIn : Sheet → TypeLayout → Type 0
IsLayoutIn s l = (t : ℕ) × ((answer_in s t ≡ ok l) ⊎ (runtime_array_in s t ≡ ok l))

abbrev pub Parts : Type 0
Parts = (s : Sheet) (l : TypeLayout) (m : MemTypeLayout) → IsLayoutIn s l → contents_of l ≡ some m → PartsOf s m m.components

-- the handles of a handle array are those of a type
abbrev pub Handles : Type 0
Handles = (s : Sheet) (h : HandleLayout) (n : ℕ) → IsLayoutIn s (HandleArray h n) → (elem : ℕ) × (answer_in s elem ≡ ok (Handle h))

-- ---- a layout never refers to a type that isn't lower

abbrev pub part_types : Components → List ℕ
part_types Scalar = []
part_types (Elements stride elem len) = elem ∷ []
part_types (Fields offsets types) = types

abbrev pub RefersLower : Type 0
RefersLower = (s : Sheet) (t : ℕ) (l : TypeLayout) (m : MemTypeLayout) → answer_in s t ≡ ok l → contents_of l ≡ some m → All (λ u. u < t) (part_types m.components)

-- ---- align and legacy are powers of two

pub record PowersOf (m : MemTypeLayout) : Type 0 where
  pub align : (k : ℕ) × (align_of m ≡ 2 ^ k)
  pub legacy : (k : ℕ) × (legacy_of m ≡ 2 ^ k)

abbrev pub AlignmentPowers : Type 0
AlignmentPowers = (s : Sheet) → good_setting s.setting ≡ true → (t : ℕ) (l : TypeLayout) (m : MemTypeLayout) → answer_in s t ≡ ok l → shown_memory l ≡ some m → PowersOf m

-- ---- the refusals of a type of a sheet that was read are 4 to 17

abbrev pub IsLayoutRefusal : ℕ → Type 0
IsLayoutRefusal n = (unsupported ≤ n) × (n ≤ ambiguous)

abbrev pub LayoutRefusals : Type 0
LayoutRefusals = (s : Sheet) → GoodSheet s → (t n : ℕ) → t < length s.types → answer_in s t ≡ refused n → IsLayoutRefusal n

-- ---- lookup: just what holds the range is found, in rising order

-- n is one of a list
abbrev pub Has : List ℕ → ℕ → Type 0
Has [] n = ⊥
Has (m ∷ ms) n = (m ≡ n) ⊎ Has ms n

-- strictly rising, from n on
abbrev pub RisingFrom : ℕ → List ℕ → Type 0
RisingFrom n [] = Unit {0}
RisingFrom n (m ∷ ms) = (n ≤ m) × RisingFrom (suc m) ms

-- field n holds the range: it is memory that begins at its start or before, and ends at its end or behind, if it ends
pub record FieldHolding (s : Sheet) (offsets types : List ℕ) (start end n : ℕ) : Type 0 where
  pub offset : ℕ
  pub type : ℕ
  pub part : MemTypeLayout
  pub at : get_elem? offsets n ≡ some offset
  pub of_type : get_elem? types n ≡ some type
  pub laid : answer_in s type ≡ ok (Concrete part)
  pub begins : offset ≤ start
  pub ends : dyn_of part ≡ 0 → end ≤ offset + size_of part

-- element n holds the range: it begins at its start or before, the next one behind it, and ends at its end or behind; behind the last it has size 0
pub record ElementHolding (stride len size start end n : ℕ) : Type 0 where
  pub begins : n * stride ≤ start
  pub next : start < n * stride + stride
  pub in_length : 1 ≤ len → n ≤ len
  pub ends : end ≤ n * stride + size_at_index n len size
  pub fits : n * stride + size_at_index n len size ≤ max_u32

abbrev pub FoundIn : Sheet → (start end : ℕ) → List ℕ → Components → Type 0
FoundIn s start end found Scalar = found ≡ []
FoundIn s start end found (Elements stride elem len) =
    (e : MemTypeLayout) → answer_in s elem ≡ ok (Concrete e) → (length found ≤ 1) × ((n : ℕ) → Has found n ↔ ElementHolding stride len (size_of e) start end n)
FoundIn s start end found (Fields offsets types) = RisingFrom 0 found × ((n : ℕ) → Has found n ↔ FieldHolding s offsets types start end n)

abbrev pub Lookup : Type 0
Lookup =
    (s : Sheet) (t start end : ℕ) (found : List ℕ) → lookup s t start end ≡ ok found
    → (m : MemTypeLayout) × (answer_in s t ≡ ok (Concrete m)) × FoundIn s start end found m.components
