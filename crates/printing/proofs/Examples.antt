-- Answer lines as texts, computed.
use mathlib.Core.Path.{◌≡◌, refl}
use mathlib.Core.Bool.{true, false}
use mathlib.Core.List.{[], ◌∷◌}
use Rattle.std.specs.Prelude.{Some, None}
use lib.IntN.{negsuc}
use Rattle.decimal.specs.Text.{bytes}
use Rattle.spirv.specs.declared.Index.TheVariants.{Known, Unknown}
use Rattle.lower.specs.declared.QPtrOp.TheVariants.{HandleArrayIndex, BufferData, Offset, DynOffset}
use Rattle.shapes.specs.declared.Components.TheVariants.{Fields}
use Rattle.shapes.specs.declared.MemTypeLayout.{MemTypeLayout}
use Rattle.shapes.specs.declared.Handle.TheVariants as handle
use Rattle.shapes.specs.declared.TypeLayout.TheVariants as layout
use Rattle.printing.specs.Layouts.{layout_text}
use Rattle.cells.specs.Behind.{behind}
use Rattle.printing.specs.Texts.{equal_text, components_text, chain_text, length_text, variable_text, refusal_text}
use Rattle.printing.proofs.Opened.{opened}

two_fields : behind (bytes "O" ∷ bytes "12" ∷ []) ≡ bytes ",O,12"
unfolding opened
two_fields = refl

chain : chain_text (BufferData ∷ DynOffset 16 0 (Unknown 1) ∷ Offset (negsuc 11) ∷ HandleArrayIndex (Known 4294967295) ∷ []) ≡ bytes "c,B,D,16,0,v1,O,-12,H,4294967295\n"
unfolding opened
chain = refl

no_steps : chain_text [] ≡ bytes "c\n"
unfolding opened
no_steps = refl

components : components_text (1 ∷ 20 ∷ []) ≡ bytes "q,1,20\n"
unfolding opened
components = refl

array_length_lem : length_text 4 16 ≡ bytes "l,4,16\n"
unfolding opened
array_length_lem = refl

variable : variable_text (Some (record { align = 4; legacy_align = 16; size = 12 })) ≡ bytes "x,12,4,16\n"
unfolding opened
variable = refl

no_variable : variable_text None ≡ bytes "x\n"
unfolding opened
no_variable = refl

refusal : refusal_text 24 ≡ bytes "e,24\n"
unfolding opened
refusal = refl

equal : equal_text true ≡ bytes "y\n"
unfolding opened
equal = refl

unequal : equal_text false ≡ bytes "n\n"
unfolding opened
unequal = refl

-- ---- layouts; the fields are two of the list's offsets

abbrev twelve : MemTypeLayout
twelve = record {
  mem = record { fixed_base = record { align = 4; legacy_align = 16; size = 12 }; dyn_unit_stride = 0 };
  components = Fields 1 2;
}

memory : layout_text (9 ∷ 0 ∷ 8 ∷ 7 ∷ []) (layout.Concrete twelve) ≡ bytes "t,c,0,12,4,16,0,0,8\n"
unfolding opened
memory = refl

buffers : layout_text (9 ∷ 0 ∷ 8 ∷ 7 ∷ []) (layout.HandleArray (handle.Buffer twelve) 3) ≡ bytes "t,ab,3,12,4,16,0,0,8\n"
unfolding opened
buffers = refl

opaque : layout_text [] (layout.Handle handle.Opaque) ≡ bytes "t,o,0,0,0,0,0\n"
unfolding opened
opaque = refl
