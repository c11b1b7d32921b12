-- What a struct's row says is what its declaration says: document 01's struct rule, where the tables hold the declaration.
use Rattle.std.specs.Prelude.{ℕ, ◌+◌, ◌≤◌, ◌≡◌, Bool, List, length}
use Rattle.arith.specs.Refusals.{ok, ◌>>=◌}
use Rattle.spirv.specs.Decl.{Decl}
use Rattle.spirv.specs.Reduced.{decl_row, given_words}
use Rattle.spirv.specs.declared.DeclRow.{DeclRow}
use Rattle.spirv.specs.declared.SpvType.TheVariants.{Struct}
use Rattle.shapes.specs.declared.LayoutConfig.{LayoutConfig}
use Rattle.shapes.specs.Shapes.{Fields, TypeLayout}
use Rattle.shapes.specs.Spans.{span_of}
use Rattle.layout.specs.Arrays.{Answer}
use Rattle.layout.specs.Structs as def
use Rattle.rules.specs.Rules.{with_parts}
use Rattle.structs.specs.Rows.{StructMemory, struct_of_row}

-- the lists hold a struct's members and given offsets from `start` on, and there is room for its offsets
pub record Holds (start : ℕ) (d : Decl) (members given : List ℕ) (room : ℕ) : Type 0 where
  pub members_there : span_of members start (length d.members) ≡ d.members
  pub given_there : span_of given start (length d.members) ≡ given_words d
  pub in_members : start + length d.members ≤ length members
  pub in_given : start + length d.members ≤ length given
  pub in_room_lem : start + length d.members ≤ room

-- the layout that the memory of a struct gives
abbrev pub layout_with : (block : Bool) → (members : List ℕ) → StructMemory → TypeLayout
layout_with block members s = def.block_or block (with_parts s.mem (Fields s.offsets members))

abbrev pub DeclaredStructs : Type 0
DeclaredStructs =
    (cfg : LayoutConfig) (below : ℕ → Answer) (block : Bool) (d : Decl) (start : ℕ) (members given : List ℕ) (room : ℕ)
    → d.type ≡ Struct block → Holds start d members given room
    → def.struct_layout cfg below block d.members d.decorations
    ≡ (struct_of_row cfg below members given room (decl_row start d) >>= λ s. ok (layout_with block d.members s))

-- a struct has an offset for each member
abbrev pub OneOffsetEach : Type 0
OneOffsetEach =
    (cfg : LayoutConfig) (below : ℕ → Answer) (members given : List ℕ) (room : ℕ) (r : DeclRow) (s : StructMemory)
    → struct_of_row cfg below members given room r ≡ ok s → length s.offsets ≡ r.count
