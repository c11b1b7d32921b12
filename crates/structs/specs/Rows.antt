-- The struct rule over the tables: a struct's row says where its members and given offsets lie, and what its D lines come to.
use Rattle.std.specs.Prelude.{ℕ, ◌+◌, ◌≡◌, Bool, true, false, ◌&&◌, ◌||◌, List, leb, eqb, length, Ok}
use Rattle.std.proofs.lemmas.List.Edits.{sets}
use Rattle.arith.specs.InCode.{OrRefusal, in_code, err}
use Rattle.arith.specs.Pairs.{both}
use Rattle.arith.specs.Refusals.{Result, ok, refused, ◌>>=◌, ◌>>◌, refuse◌unless◌, misread, offsets_missing}
use Rattle.spirv.specs.declared.DeclRow.{DeclRow}
use Rattle.shapes.specs.declared.LayoutConfig.{LayoutConfig}
use Rattle.shapes.specs.declared.MaybeDynMemLayout.{MaybeDynMemLayout}
use Rattle.shapes.specs.declared.MemTypeLayout.{MemTypeLayout}
use Rattle.shapes.specs.declared.Components.TheVariants.{Fields}
use Rattle.shapes.specs.declared.Handle.TheVariants.{Buffer}
use Rattle.shapes.specs.declared.TypeLayout.{TypeLayout}
use Rattle.shapes.specs.declared.TypeLayout.TheVariants.{Handle, Concrete}
use Rattle.shapes.specs.Spans.{span_of, answer_by, itself}
use Rattle.shapes.specs.Rows.{answer_at}
use Rattle.shapes.specs.Shapes as def
use Rattle.layout.specs.Arrays as arrays
use Rattle.layout.specs.Structs.{member_layouts, Placed, place, final_size}
use Rattle.structs.specs.Steps.{held_extent, mapped}

-- what the types below answer, from their table
abbrev pub below_in : (layouts : List ℕ) (n : ℕ) → ℕ → arrays.Answer
below_in layouts n t = answer_by itself (answer_at layouts n t)

-- the memory of a struct, and its members' offsets
pub record StructMemory : Type 0 where
  pub mem : MaybeDynMemLayout
  pub offsets : List ℕ

abbrev pub with_size : MaybeDynMemLayout → (size : ℕ) → MaybeDynMemLayout
with_size m size = record {
  fixed_base = record { align = m.fixed_base.align; legacy_align = m.fixed_base.legacy_align; size = size };
  dyn_unit_stride = m.dyn_unit_stride;
}

abbrev pub sized_to : Placed → (size : ℕ) → StructMemory
sized_to p size = record { mem = with_size (held_extent p.extent) size; offsets = p.offsets }

-- what the D lines come to; as many offsets as members, if any
unfoldable pub decorations_of : DeclRow → Result (Unit {0})
decorations_of r = do
  refuse r.refusal unless eqb r.refusal 0
  refuse offsets_missing unless (eqb r.read 0 || eqb r.read r.count)

-- a struct of these members and given offsets: members in order; decorations; then offsets and size
unfoldable pub memory_of : LayoutConfig → (below : ℕ → arrays.Answer) → (types given : List ℕ) → DeclRow → Result StructMemory
memory_of cfg below types given r = do
  ms ← member_layouts below types
  decorations_of r
  p ← place cfg given ms
  size ← final_size p.extent
  ok (sized_to p size)

abbrev pub span_within : DeclRow → (members given offsets : ℕ) → Bool
span_within r members given offsets =
    leb (r.start + r.count) members && (leb (r.start + r.count) given && leb (r.start + r.count) offsets)

-- the span lies within the lists of members, of given offsets and of offsets; else the row is no sheet's, 1
unfoldable pub struct_of_row : LayoutConfig → (below : ℕ → arrays.Answer) → (members given : List ℕ) → (room : ℕ) → DeclRow → Result StructMemory
struct_of_row cfg below members given room r = do
  refuse misread unless span_within r (length members) (length given) room
  memory_of cfg below (span_of members r.start r.count) (span_of given r.start r.read) r

-- ---- as the code holds them

abbrev pub memory_alone : StructMemory → MaybeDynMemLayout
memory_alone s = s.mem

-- what the members take up, where each has a layout
pub record Places (p : OrRefusal MaybeDynMemLayout) (cfg : LayoutConfig) (below : ℕ → arrays.Answer) (types given : List ℕ) : Type 0 where
  pub by : (ms : List def.MemTypeLayout) → member_layouts below types ≡ ok ms → p ≡ in_code (mapped held_extent (place cfg given ms >>= λ q. ok q.extent))

abbrev pub block_or : Bool → MemTypeLayout → TypeLayout
block_or true m = Handle (Buffer m)
block_or false m = Concrete m

abbrev pub fields_at : DeclRow → MaybeDynMemLayout → MemTypeLayout
fields_at r mem = record { mem = mem; components = Fields r.start r.count }

-- the answer, and the list of offsets afterwards: untouched where the struct is refused
unfoldable pub struct_both : (block : Bool) → DeclRow → (offsets : List ℕ) → Result StructMemory → OrRefusal TypeLayout × List ℕ
struct_both block r offsets (ok s) = both (Ok (block_or block (fields_at r s.mem))) (sets offsets r.start s.offsets)
struct_both block r offsets (refused n) = both (err n) offsets
