-- Document 01, "Files as they stay", shapes.rs and the types of layout.rs: what a type's layout is. Types are numbers, and a struct's fields are lists.
use Rattle.std.specs.Prelude.{ℕ, Bool, not, List, [], eqb}
use Rattle.std.proofs.Math.Option.{Option, none, some}
use Rattle.shapes.specs.declared.MaybeDynMemLayout.{MaybeDynMemLayout}

-- what memory consists of; a length 0 is none
pub data Components : Type 0 where
  Scalar : Components
  Elements : (stride elem fixed_len : ℕ) → Components
  Fields : (offsets types : List ℕ) → Components

pub record MemTypeLayout : Type 0 where
  pub mem : MaybeDynMemLayout
  pub components : Components

pub data HandleLayout : Type 0 where
  Opaque : HandleLayout
  Buffer : MemTypeLayout → HandleLayout

-- a length 0 is none
pub data TypeLayout : Type 0 where
  Handle : HandleLayout → TypeLayout
  HandleArray : HandleLayout → (fixed_len : ℕ) → TypeLayout
  Concrete : MemTypeLayout → TypeLayout

-- the size, alignments and runtime stride of memory
abbrev pub size_of : MemTypeLayout → ℕ
size_of m = m.mem.fixed_base.size

abbrev pub align_of : MemTypeLayout → ℕ
align_of m = m.mem.fixed_base.align

abbrev pub legacy_of : MemTypeLayout → ℕ
legacy_of m = m.mem.fixed_base.legacy_align

abbrev pub dyn_of : MemTypeLayout → ℕ
dyn_of m = m.mem.dyn_unit_stride

abbrev pub runtime_sized : MemTypeLayout → Bool
runtime_sized m = not (eqb (dyn_of m) 0)

abbrev pub memory : (size align legacy dyn : ℕ) → Components → MemTypeLayout
memory size align legacy dyn parts = record {
  mem = record { fixed_base = record { align = align; legacy_align = legacy; size = size }; dyn_unit_stride = dyn };
  components = parts;
}

-- ---- what a layout holds

-- the memory of a type, or a buffer's contents
abbrev pub contents_of : TypeLayout → Option MemTypeLayout
contents_of (Handle Opaque) = none
contents_of (Handle (Buffer m)) = some m
contents_of (HandleArray h len) = none
contents_of (Concrete m) = some m

-- the memory whose numbers T shows: an array of buffers shows its buffer's own
abbrev pub shown_memory : TypeLayout → Option MemTypeLayout
shown_memory (Handle Opaque) = none
shown_memory (Handle (Buffer m)) = some m
shown_memory (HandleArray Opaque len) = none
shown_memory (HandleArray (Buffer m) len) = some m
shown_memory (Concrete m) = some m

abbrev pub offsets_of : Components → List ℕ
offsets_of Scalar = []
offsets_of (Elements stride elem len) = []
offsets_of (Fields offsets types) = offsets
