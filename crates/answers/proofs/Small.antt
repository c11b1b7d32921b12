-- One part of an answer line at a time, worked out by hand from document 01 and computed. Assumes nothing.
use mathlib.Core.Path.{◌≡◌, refl}
use mathlib.Core.List.{[], ◌∷◌, map}
use Rattle.arith.specs.Refusals.{refused, misread}
use Rattle.decimal.specs.Text.{bytes}
use Rattle.spirv.specs.declared.Index.TheVariants.{Known, Unknown}
use Rattle.shapes.specs.Shapes.{Fields, Opaque, Buffer, Handle, HandleArray, memory}
use Rattle.answers.specs.Lines.{index_field, layout_line}
use Rattle.answers.specs.Output.{printed, output_of}
use Rattle.answers.proofs.Opened.{opened}

-- an index is printed as given: a word from 2147483648 on isn't negative, and an unknown has its v
known : index_field (Known 4294967295) ≡ bytes "4294967295"
unfolding opened
known = refl

unknown : index_field (Unknown 7) ≡ bytes "v7"
unfolding opened
unknown = refl

-- an opaque's size, alignments and dyn are 0 and nothing follows
opaque : layout_line (Handle Opaque) ≡ map bytes ("t" ∷ "o" ∷ "0" ∷ "0" ∷ "0" ∷ "0" ∷ "0" ∷ [])
unfolding opened
opaque = refl

-- an array of three buffers shows its length, and its buffer's numbers and field offsets
buffers : layout_line (HandleArray (Buffer (memory 16 4 8 0 (Fields (0 ∷ 12 ∷ []) (1 ∷ 0 ∷ [])))) 3) ≡ map bytes ("t" ∷ "ab" ∷ "3" ∷ "16" ∷ "4" ∷ "8" ∷ "0" ∷ "0" ∷ "12" ∷ [])
unfolding opened
buffers = refl

-- commas part the fields, and none stands at a line's end
commas : printed (map bytes ("q" ∷ "1" ∷ "2" ∷ [])) ≡ bytes "q,1,2\n"
unfolding opened
commas = refl

-- a bad sheet has one refusal line
bad : output_of (refused misread) ≡ bytes "e,1\n"
unfolding opened
bad = refl
