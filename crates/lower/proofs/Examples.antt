-- Chains, array lengths and local variables of small sheets, computed: what each index gives, and which refusal is met first. Assumes nothing.
use mathlib.Core.Path.{◌≡◌, refl}
use mathlib.Core.List.{[], ◌∷◌, ◌++◌, map}
use mathlib.Core.Option.{none, some}
use lib.IntN.{pos, negsuc}
use Rattle.arith.specs.Refusals.{ok, refused}
use Rattle.spirv.specs.declared.ChainOp.TheVariants.{AccessChain, InBoundsAccessChain, PtrAccessChain, InBoundsPtrAccessChain}
use Rattle.spirv.specs.declared.Index.TheVariants.{Known, Unknown}
use Rattle.sheet.proofs.OfText.{of}
use Rattle.lower.specs.declared.QPtrOp.TheVariants.{HandleArrayIndex, BufferData, Offset, DynOffset}
use Rattle.lower.specs.Chain.{lower_chain, chain_in_room}
use Rattle.lower.specs.Other.{array_length, local_variable}
use Rattle.lower.proofs.Opened.{opened}

-- ---- arrays: an index is read as signed, and never clamped

-- a runtime array at 4 in a block: −1 merges to 0, which stays; the array of 4 F32: 3 is constant, 4 and −1 stay D as given
indices :
    of "G,1,1,1,1,1,1\nF,32\nR,0,-\nS,1,1,1\nD,0,35,4\nP,12,2\nA,0,4,-\nP,12,4\n"
    (λ s. lower_chain s AccessChain 3 (Known 0 ∷ Known 4294967295 ∷ []) ∷ map (λ i. lower_chain s InBoundsAccessChain 5 (i ∷ [])) (Known 3 ∷ Known 4 ∷ Known 4294967295 ∷ Known 0 ∷ Unknown 7 ∷ []))
    ≡ ok
    (ok (BufferData ∷ Offset (pos 0) ∷ [])
    ∷ ok (Offset (pos 12) ∷ [])
    ∷ ok (DynOffset 4 4 (Known 4) ∷ [])
    ∷ ok (DynOffset 4 4 (Known 4294967295) ∷ [])
    ∷ ok []
    ∷ ok (DynOffset 4 4 (Unknown 7) ∷ [])
    ∷ [])
unfolding opened
indices = refl

-- 67 and 70 index the pointee's runtime array first; without indices its layout is still asked
pointer-chains :
    of "G,1,1,1,1,1,1\nF,32\nP,12,0\nS,0,0\nP,12,2\n"
    (λ s. lower_chain s PtrAccessChain 1 (Known 4294967294 ∷ []) ∷ lower_chain s InBoundsPtrAccessChain 1 (Unknown 0 ∷ []) ∷ lower_chain s PtrAccessChain 1 [] ∷ lower_chain s PtrAccessChain 3 [] ∷ [])
    ≡ ok (ok (Offset (negsuc 7) ∷ []) ∷ ok (DynOffset 4 0 (Unknown 0) ∷ []) ∷ ok [] ∷ refused 8 ∷ [])
unfolding opened
pointer-chains = refl

-- a length above 2147483647 bounds nothing; a stride above it is never constant
far :
    of "G,1,1,1,1,1,1\nI,8\nA,0,2147483648,-\nP,12,1\nR,0,2147483648\nP,12,3\n" (λ s. lower_chain s AccessChain 2 (Known 4294967295 ∷ []) ∷ lower_chain s AccessChain 2 (Unknown 1 ∷ []) ∷ lower_chain s AccessChain 4 (Known 0 ∷ []) ∷ [])
    ≡ ok (ok (Offset (negsuc 0) ∷ []) ∷ ok (DynOffset 1 0 (Unknown 1) ∷ []) ∷ ok (DynOffset 2147483648 0 (Known 0) ∷ []) ∷ [])
unfolding opened
far = refl

-- ---- structs and buffers

-- a chain that ends on the buffer has no B; an array of buffers gives H; a field index must be known, there, near; 19 into a scalar, 23 for a sum too large
fields :
    of "G,1,1,1,1,1,1\nF,32\nS,0,2,0,0\nD,0,35,2147483644\nD,1,35,2147483648\nS,1,1,1\nD,0,35,8\nP,12,2\nA,2,3,-\nP,12,4\n"
    (λ s. map (lower_chain s AccessChain 3) ([] ∷ (Known 0 ∷ []) ∷ (Unknown 0 ∷ []) ∷ (Known 1 ∷ []) ∷ (Known 4294967295 ∷ []) ∷ (Known 0 ∷ Known 1 ∷ []) ∷ (Known 0 ∷ Known 0 ∷ []) ∷ [])
    ++ (lower_chain s AccessChain 5 (Unknown 1 ∷ []) ∷ lower_chain s AccessChain 5 (Known 2 ∷ Known 0 ∷ []) ∷ lower_chain s AccessChain 0 [] ∷ lower_chain s AccessChain 9 [] ∷ []))
    ≡ ok
    (ok []
    ∷ ok (BufferData ∷ Offset (pos 8) ∷ [])
    ∷ refused 20
    ∷ refused 21
    ∷ refused 21
    ∷ refused 22
    ∷ refused 23
    ∷ ok (HandleArrayIndex (Unknown 1) ∷ [])
    ∷ ok (HandleArrayIndex (Known 2) ∷ BufferData ∷ Offset (pos 8) ∷ [])
    ∷ refused 18
    ∷ refused 1
    ∷ [])
unfolding opened
fields = refl

-- 24 where the steps are one too many, and the refusals of the walk before it
rooms :
    of "G,1,1,1,1,1,1\nF,32\nS,1,2,0,0\nP,12,1\n" (λ s. chain_in_room 1 s AccessChain 2 (Known 1 ∷ []) ∷ chain_in_room 2 s AccessChain 2 (Known 1 ∷ []) ∷ chain_in_room 0 s AccessChain 2 (Known 1 ∷ Known 0 ∷ []) ∷ [])
    ≡ ok (refused 24 ∷ ok (BufferData ∷ Offset (pos 4) ∷ []) ∷ refused 19 ∷ [])
unfolding opened
rooms = refl

-- ---- array length and local variable

lengths :
    of "G,1,1,1,1,1,1\nF,32\nR,0,-\nS,1,2,0,1\nP,12,2\nS,1,2,1,0\nD,0,35,0\nD,1,35,0\nP,12,4\nP,12,0\n"
    (λ s. array_length s 3 1 ∷ array_length s 3 0 ∷ array_length s 3 2 ∷ array_length s 5 0 ∷ array_length s 6 0 ∷ array_length s 0 0 ∷ [])
    ≡ ok (ok record { offset = 4; stride = 4 } ∷ refused 26 ∷ refused 21 ∷ refused 27 ∷ refused 25 ∷ refused 18 ∷ [])
unfolding opened
lengths = refl

variables :
    of "G,1,1,1,1,1,1\nF,32\nR,0,-\nS,1,1,1\nP,7,0\nP,7,1\nP,7,2\nU\nP,7,6\n" (λ s. map (local_variable s) (3 ∷ 4 ∷ 5 ∷ 7 ∷ 0 ∷ []))
    ≡ ok (ok (some record { align = 4; legacy_align = 4; size = 4 }) ∷ ok none ∷ ok none ∷ refused 4 ∷ refused 18 ∷ [])
unfolding opened
variables = refl
