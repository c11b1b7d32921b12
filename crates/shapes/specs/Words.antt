-- The ten words that hold a layout or a refusal: the first says which of the two and which layout, so that each is read back as it was.
use Rattle.std.specs.Prelude.{ℕ, ◌≡◌, cond, List, [], ◌∷◌, eqb, get_or}
use Rattle.arith.specs.Refusals.{misread}
use Rattle.spirv.specs.Rows.{same_words}
use Rattle.shapes.specs.declared.Components.{Components}
use Rattle.shapes.specs.declared.Components.TheVariants.{Scalar, Elements, Fields}
use Rattle.shapes.specs.declared.MemTypeLayout.{MemTypeLayout}
use Rattle.shapes.specs.declared.Handle.{Handle}
use Rattle.shapes.specs.declared.Handle.TheVariants as handle
use Rattle.shapes.specs.declared.TypeLayout.{TypeLayout}
use Rattle.shapes.specs.declared.TypeLayout.TheVariants as layout
use Rattle.arith.specs.InCode.{OrRefusal, err}
use Rattle.std.specs.Prelude.{Ok, Err}

-- ---- to words

abbrev pub kind_of : Components → ℕ
kind_of Scalar = 1
kind_of (Elements stride elem len) = 2
kind_of (Fields start count) = 3

abbrev pub part_words : Components → List ℕ
part_words Scalar = 0 ∷ 0 ∷ 0 ∷ []
part_words (Elements stride elem len) = stride ∷ elem ∷ len ∷ []
part_words (Fields start count) = start ∷ count ∷ 0 ∷ []

-- what it is, its number, what it is made of, its size, alignments and runtime stride, its parts
unfoldable pub memory_words : (tag number : ℕ) → MemTypeLayout → List ℕ
memory_words tag number m =
    tag ∷ number ∷ kind_of m.components
    ∷ m.mem.fixed_base.size ∷ m.mem.fixed_base.align ∷ m.mem.fixed_base.legacy_align ∷ m.mem.dyn_unit_stride
    ∷ part_words m.components

-- an opaque handle has no memory
unfoldable pub handle_words : (tag number : ℕ) → Handle → List ℕ
handle_words tag number handle.Opaque = tag ∷ number ∷ 0 ∷ 0 ∷ 0 ∷ 0 ∷ 0 ∷ 0 ∷ 0 ∷ 0 ∷ []
handle_words tag number (handle.Buffer m) = memory_words tag number m

-- the number is a refusal's own, or a handle array's length
unfoldable pub encode : OrRefusal TypeLayout → List ℕ
encode (Err e) = 0 ∷ e.number ∷ 0 ∷ 0 ∷ 0 ∷ 0 ∷ 0 ∷ 0 ∷ 0 ∷ 0 ∷ []
encode (Ok (layout.Handle h)) = handle_words 1 0 h
encode (Ok (layout.HandleArray h n)) = handle_words 2 n h
encode (Ok (layout.Concrete m)) = memory_words 3 0 m

-- ---- and back

abbrev pub components_of : (kind a b c : ℕ) → Components
components_of kind a b c = cond (eqb kind 2) (Elements a b c) (cond (eqb kind 3) (Fields a b) Scalar)

unfoldable pub memory_of : List ℕ → MemTypeLayout
memory_of ws = record {
  mem = record {
    fixed_base = record { align = get_or ws 4 0; legacy_align = get_or ws 5 0; size = get_or ws 3 0 };
    dyn_unit_stride = get_or ws 6 0;
  };
  components = components_of (get_or ws 2 0) (get_or ws 7 0) (get_or ws 8 0) (get_or ws 9 0);
}

abbrev pub handle_of : (kind : ℕ) → MemTypeLayout → Handle
handle_of kind m = cond (eqb kind 0) handle.Opaque (handle.Buffer m)

-- an answer whose words these are, if there is one
unfoldable pub answer_of : List ℕ → OrRefusal TypeLayout
answer_of ws =
    cond (eqb (get_or ws 0 0) 1) (Ok (layout.Handle (handle_of (get_or ws 2 0) (memory_of ws))))
    (cond (eqb (get_or ws 0 0) 2) (Ok (layout.HandleArray (handle_of (get_or ws 2 0) (memory_of ws)) (get_or ws 1 0)))
    (cond (eqb (get_or ws 0 0) 3) (Ok (layout.Concrete (memory_of ws)))
    (err (get_or ws 1 0))))

-- the answer that words hold is the one whose words they are; words that are none's are refused with 1
unfoldable pub decode : List ℕ → OrRefusal TypeLayout
decode ws = cond (same_words (encode (answer_of ws)) ws) (answer_of ws) (err misread)

-- each answer is read back from its words; a layout is read from no other words
pub record ReadsBack : Type 0 where
  pub back : (a : OrRefusal TypeLayout) → decode (encode a) ≡ a
  pub only : (ws : List ℕ) (l : TypeLayout) → decode ws ≡ Ok l → ws ≡ encode (Ok l)
