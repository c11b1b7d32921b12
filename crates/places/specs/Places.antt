-- What the walk of a chain needs of a layout: a place. Sizes, alignments and the length of a handle array play no part in it.
use Rattle.std.specs.Prelude.{ℕ, ◌≡◌, List, get_or, Option, Some, None, Ok, Err}
use Rattle.arith.specs.InCode.{OrRefusal}
use Rattle.shapes.specs.Words.{memory_words}
use Rattle.shapes.specs.declared.Components.{Components}
use Rattle.shapes.specs.declared.MemTypeLayout.{MemTypeLayout}
use Rattle.shapes.specs.declared.Handle.TheVariants as handle
use Rattle.shapes.specs.declared.TypeLayout.{TypeLayout}
use Rattle.shapes.specs.declared.TypeLayout.TheVariants as layout
use Rattle.places.specs.declared.Place.{Place}
use Rattle.places.specs.declared.Place.TheVariants.{Memory, Buffer, Buffers, Opaque, Opaques}

abbrev pub place_of : TypeLayout → Place
place_of (layout.Handle handle.Opaque) = Opaque
place_of (layout.Handle (handle.Buffer m)) = Buffer m.components
place_of (layout.HandleArray handle.Opaque n) = Opaques
place_of (layout.HandleArray (handle.Buffer m) n) = Buffers m.components
place_of (layout.Concrete m) = Memory m.components

abbrev pub found_of : OrRefusal TypeLayout → OrRefusal Place
found_of (Ok l) = Ok (place_of l)
found_of (Err e) = Err e

-- ---- the layout that a place stands for, its sizes left 0

abbrev pub unsized : Components → MemTypeLayout
unsized c = record {
  mem = record { fixed_base = record { align = 0; legacy_align = 0; size = 0 }; dyn_unit_stride = 0 };
  components = c;
}

abbrev pub layout_at : Place → TypeLayout
layout_at (Memory c) = layout.Concrete (unsized c)
layout_at (Buffer c) = layout.Handle (handle.Buffer (unsized c))
layout_at (Buffers c) = layout.HandleArray (handle.Buffer (unsized c)) 0
layout_at Opaque = layout.Handle handle.Opaque
layout_at Opaques = layout.HandleArray handle.Opaque 0

-- ---- rows

-- the memory whose numbers stand in a row, made of these parts
abbrev pub memory_with : List ℕ → Components → MemTypeLayout
memory_with ws parts = record {
  mem = record { fixed_base = record { align = get_or ws 4 0; legacy_align = get_or ws 5 0; size = get_or ws 3 0 }; dyn_unit_stride = get_or ws 6 0 };
  components = parts;
}

-- a row's words are those of memory of these parts, behind the tag that it has
abbrev pub Made : List ℕ → Components → Type 0
Made ws c = ws ≡ memory_words (get_or ws 0 0) 0 (memory_with ws c)

-- parts that are named are those that the row is made of
abbrev pub Named : List ℕ → Option Components → Type 0
Named ws (Some c) = Made ws c
Named ws None = Unit {0}
