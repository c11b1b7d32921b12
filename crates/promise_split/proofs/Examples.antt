-- Chains split at each place, by computation: what the second part gives from the type reached; and the theorems say something of them. Assumes nothing.
use Prim.Native.Nat.{ℕ, zero, suc}
use Prim.Native.String.{String}
use mathlib.Core.Path.{◌≡◌, refl}
use mathlib.Core.List.{[], ◌∷◌, map}
use mathlib.Core.Option.{none, some}
use lib.IntN.{pos, negsuc}
use Rattle.arith.specs.Refusals.{ok, refused, unsupported, no_parts, unknown_field, field_outside, step_overflow}
use Rattle.spirv.specs.declared.ChainOp.TheVariants.{AccessChain, PtrAccessChain}
use Rattle.spirv.specs.declared.Index.{Index}
use Rattle.spirv.specs.declared.Index.TheVariants.{Known, Unknown}
use Rattle.sheet.proofs.OfText.{of}
use Rattle.lower.specs.declared.QPtrOp.TheVariants.{HandleArrayIndex, BufferData, Offset, DynOffset}
use Rattle.lower.specs.Chain.{lower_chain}
use Rattle.promise.specs.Meaning.{Values, own, chosen}
use Rattle.promise.specs.Walk.{type_no, runtime_array_of, walk, start}
use Rattle.promise_split.specs.Parts.{lower_from_type, start_at, joined}
use Rattle.promise_split.proofs.Opened.{opened}

-- five buffers of {F32 at 0, eight vec4 at 16}
abbrev buffers : String
buffers = "G,0,1,1,1,1,1\nF,32\nV,0,4\nA,1,8,-\nS,1,2,0,2\nD,0,35,0\nD,1,35,16\nA,3,5,-\nP,12,4\n"

-- 0 stands for 2, and 1 for −3
abbrev back : Values
back zero = pos 2
back (suc u) = negsuc 2

-- ---- split behind the handle: the first part ends on a buffer, which has no byte; the second enters it

behind-handle :
    of buffers (λ s. lower_chain s AccessChain 5 (Unknown 0 ∷ []) ∷ lower_from_type s 3 (Known 1 ∷ Unknown 1 ∷ Known 2 ∷ []) ∷ [])
    ≡ ok (ok (HandleArrayIndex (Unknown 0) ∷ []) ∷ ok (BufferData ∷ Offset (pos 16) ∷ DynOffset 16 8 (Unknown 1) ∷ Offset (pos 8) ∷ []) ∷ [])
unfolding opened
behind-handle = refl

-- the second part's walk, from handle 2 and from a start of its own
from-handle :
    of buffers (λ s. walk s back (Known 1 ∷ Unknown 1 ∷ Known 2 ∷ []) (start_at s 3 record { handle = chosen (pos 2); byte = none }))
    ≡ ok (some record { type = type_no 0; spot = record { handle = chosen (pos 2); byte = some (negsuc 23) }; memory = some (type_no 3) })
unfolding opened
from-handle = refl

from-own :
    of buffers (λ s. walk s back (Known 1 ∷ Unknown 1 ∷ Known 2 ∷ []) (start s AccessChain 3))
    ≡ ok (some record { type = type_no 0; spot = record { handle = own; byte = some (negsuc 23) }; memory = some (type_no 3) })
unfolding opened
from-own = refl

joined-handle :
    joined record { handle = chosen (pos 2); byte = none } record { handle = own; byte = some (negsuc 23) } ≡ record { handle = chosen (pos 2); byte = some (negsuc 23) }
joined-handle = refl

-- ---- split in memory: the first part's offset does not wait for the second's, so there are two where the whole has one

in_memory_lem :
    of "G,1,1,1,1,1,1\nF,32\nS,0,2,0,0\nA,1,4,-\nP,12,2\n"
    (λ s. lower_chain s AccessChain 3 (Known 2 ∷ Known 1 ∷ []) ∷ lower_chain s AccessChain 3 (Known 2 ∷ []) ∷ lower_from_type s 1 (Known 1 ∷ []) ∷ [])
    ≡ ok (ok (Offset (pos 20) ∷ []) ∷ ok (Offset (pos 16) ∷ []) ∷ ok (Offset (pos 4) ∷ []) ∷ [])
unfolding opened
in_memory_lem = refl

joined_memory : joined record { handle = own; byte = some (negsuc 15) } record { handle = own; byte = some (pos 4) } ≡ record { handle = own; byte = some (negsuc 11) }
joined_memory = refl

-- ---- 67: behind its first index the chain is at the pointee, a type of the sheet; before it, it is not

behind-67 :
    of "G,1,1,1,1,1,1\nF,32\nS,0,2,0,0\nP,12,1\n"
    (λ s. walk s back (Known 3 ∷ []) (start s PtrAccessChain 1) ∷ walk s back [] (start s PtrAccessChain 1) ∷ [])
    ≡ ok (
    some record { type = type_no 1; spot = record { handle = own; byte = some (pos 24) }; memory = some (runtime_array_of 1) }
    ∷ some record { type = runtime_array_of 1; spot = record { handle = own; byte = some (pos 0) }; memory = some (runtime_array_of 1) }
    ∷ [])
unfolding opened
behind-67 = refl

-- ---- refusals: the second part's own, and no number of a type that the sheet lacks

second-alone :
    of "G,1,1,1,1,1,1\nF,32\nS,0,2,0,0\nU\n" (λ s. map (λ (a : ℕ × Index). lower_from_type s a.0 (a.1 ∷ [])) ((0, Known 0) ∷ (1, Unknown 7) ∷ (1, Known 2) ∷ (2, Known 0) ∷ (9, Known 0) ∷ []))
    ≡ ok (refused no_parts ∷ refused unknown_field ∷ refused field_outside ∷ refused unsupported ∷ refused 1 ∷ [])
unfolding opened
second-alone = refl

-- both may be refused, by different numbers, only where one is 23: here the whole meets 23 where the second part goes on to 19
both-refused :
    of "G,1,1,1,1,1,1\nF,32\nS,0,2,0,0\nD,0,35,0\nD,1,35,8\nS,0,2,0,1\nD,0,35,0\nD,1,35,2147483644\nP,12,2\n"
    (λ s. lower_chain s AccessChain 3 (Known 1 ∷ Known 1 ∷ Known 0 ∷ []) ∷ lower_from_type s 1 (Known 1 ∷ Known 0 ∷ []) ∷ [])
    ≡ ok (refused step_overflow ∷ refused no_parts ∷ [])
unfolding opened
both-refused = refl
