-- Which types Vulkan decides for, with their three alignments; and typed walks, where they end and where they find no part. Computed; assumes nothing.
use Prim.Native.Nat.{ℕ, zero, suc}
use Prim.Native.String.{String}
use mathlib.Core.Path.{◌≡◌, refl}
use mathlib.Core.List.{List, [], ◌∷◌, map}
use mathlib.Core.Option.{Option, none, some}
use lib.IntN.{ℤ, pos, negsuc}
use Rattle.arith.specs.Refusals.{ok}
use Rattle.spirv.specs.declared.ChainOp.TheVariants.{AccessChain, PtrAccessChain}
use Rattle.spirv.specs.declared.Index.{Index}
use Rattle.spirv.specs.declared.Index.TheVariants.{Known, Unknown}
use Rattle.sheet.proofs.OfText.{of}
use Rattle.promise.specs.Meaning.{Values, own, chosen}
use Rattle.promise.specs.Walk.{type_no, runtime_array_of, walk, start}
use Rattle.promise.specs.Vulkan.{scalar_alignment, base_alignment, extended_alignment, Covered, covered}
use Rattle.promise.proofs.Opened.{opened}

-- ---- where Vulkan decides

abbrev three : Covered → Option (ℕ × ℕ × ℕ)
three none = none
three (some k) = some (scalar_alignment k, base_alignment k, extended_alignment k)

-- F32, its vectors of 2, 3, 4 and 5; a matrix of vec3; arrays of F32, of vec2 and of the matrix; a struct of I16 and vec2; the same with Block; an array of those
decided :
    of "G,0,16,1,1,1,1\nF,32\nV,0,2\nV,0,3\nV,0,4\nV,0,5\nM,2,3\nA,0,7,-\nR,1,-\nA,5,2,-\nI,16\nS,0,2,9,1\nS,1,2,9,1\nA,11,3,-\n"
    (λ s. map (λ t. three (covered s.types t)) (0 ∷ 1 ∷ 2 ∷ 3 ∷ 4 ∷ 5 ∷ 6 ∷ 7 ∷ 8 ∷ 10 ∷ 11 ∷ 12 ∷ []))
    ≡ ok (some (4, 4, 4) ∷ some (4, 8, 8) ∷ some (4, 16, 16) ∷ some (4, 16, 16) ∷ none ∷ some (4, 16, 16) ∷ some (4, 4, 16) ∷ some (4, 8, 16) ∷ some (4, 16, 16) ∷ some (4, 8, 16) ∷ some (4, 8, 16) ∷ some (4, 8, 16) ∷ [])
unfolding opened
decided = refl

-- a double's vec3 has 32; bool, pointer, an empty struct, an opaque, what is made of them, and no type at all
undecided :
    of "G,0,16,1,1,1,1\nF,64\nV,0,3\nB\nP,7,2\nS,0,0\nO\nV,2,2\nS,0,2,0,2\nU\n" (λ s. map (λ t. three (covered s.types t)) (0 ∷ 1 ∷ 2 ∷ 3 ∷ 4 ∷ 5 ∷ 6 ∷ 7 ∷ 8 ∷ 9 ∷ []))
    ≡ ok (some (8, 8, 8) ∷ some (8, 32, 32) ∷ none ∷ none ∷ none ∷ none ∷ none ∷ none ∷ none ∷ none ∷ [])
unfolding opened
undecided = refl

-- ---- where a walk ends

-- with 0 standing for 2, and 1 for −3 or 3
abbrev values : ℤ → Values
values z zero = pos 2
values z (suc u) = z

-- five buffers of {F32 at 0, eight vec4 at 16}
abbrev buffers : String
buffers = "G,0,1,1,1,1,1\nF,32\nV,0,4\nA,1,8,-\nS,1,2,0,2\nD,0,35,0\nD,1,35,16\nA,3,5,-\nP,12,4\n"

abbrev chain : List Index
chain = Unknown 0 ∷ Known 1 ∷ Unknown 1 ∷ Known 2 ∷ []

-- component 2 of vec4 −3 of member 1 of buffer 2: handle 2, byte 16 − 48 + 8, in the memory of type 3
walks-back :
    of buffers (λ s. walk s (values (negsuc 2)) chain (start s AccessChain 4))
    ≡ ok (some record { type = type_no 0; spot = record { handle = chosen (pos 2); byte = some (negsuc 23) }; memory = some (type_no 3) })
unfolding opened
walks-back = refl

-- 67 starts from the runtime array of the pointee: element −1 of it, then the field at 4
array-of-structs :
    of "G,1,1,1,1,1,1\nF,32\nS,0,2,0,0\nP,12,1\n" (λ s. walk s (values (pos 0)) (Known 4294967295 ∷ Known 1 ∷ []) (start s PtrAccessChain 1))
    ≡ ok (some record { type = type_no 0; spot = record { handle = own; byte = some (negsuc 3) }; memory = some (runtime_array_of 1) })
unfolding opened
array-of-structs = refl

-- no index: a buffer is not entered, and has no byte
at-buffer :
    of buffers (λ s. walk s (values (pos 0)) (Unknown 0 ∷ []) (start s AccessChain 4))
    ≡ ok (some record { type = type_no 3; spot = record { handle = chosen (pos 2); byte = none }; memory = none })
unfolding opened
at-buffer = refl

-- field 7 of 2, field −1, an index into a scalar, into an opaque, into a type of a specialization length: no part there
nowhere :
    of "G,1,1,1,1,1,1\nF,32\nS,0,2,0,0\nO\nA,0,s,-\n"
    (λ s. map (λ (ask : ℕ × Index). walk s (values (pos 0)) (ask.1 ∷ []) (start s AccessChain ask.0))
    ((1, Known 7) ∷ (1, Known 4294967295) ∷ (0, Known 0) ∷ (2, Known 0) ∷ (3, Known 0) ∷ (9, Known 0) ∷ []))
    ≡ ok (none ∷ none ∷ none ∷ none ∷ none ∷ none ∷ [])
unfolding opened
nowhere = refl
