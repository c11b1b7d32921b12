-- Words of steps and the steps that words hold, computed.
use mathlib.Core.Path.{◌≡◌, refl}
use mathlib.Core.List.{[], ◌∷◌}
use lib.IntN.{negsuc}
use Rattle.spirv.specs.declared.Index.TheVariants.{Known, Unknown}
use Rattle.lower.specs.declared.QPtrOp.TheVariants.{HandleArrayIndex, BufferData, Offset, DynOffset}
use Rattle.steps.specs.Words.{encode}
use Rattle.steps.specs.Lists.{steps_in}
use Rattle.steps.proofs.Opened.{opened}

-- 12 bytes back
back_12 : encode (Offset (negsuc 11)) ≡ record { kind = 3; bytes = 4294967284; bound = 0; mark = 0; index = 0 }
unfolding opened
back_12 = refl

-- four steps, and a kind that is none of the four
five_steps : steps_in (1 ∷ 2 ∷ 3 ∷ 4 ∷ 7 ∷ []) (0 ∷ 0 ∷ 4294967284 ∷ 16 ∷ 8 ∷ []) (0 ∷ 0 ∷ 0 ∷ 5 ∷ 9 ∷ []) (0 ∷ 0 ∷ 0 ∷ 1 ∷ 0 ∷ []) (4294967295 ∷ 0 ∷ 0 ∷ 3 ∷ 0 ∷ []) 5
    ≡ HandleArrayIndex (Known 4294967295) ∷ BufferData ∷ Offset (negsuc 11) ∷ DynOffset 16 5 (Unknown 3) ∷ BufferData ∷ []
unfolding opened
five_steps = refl

-- lists that are too short hold 0 from there on
short_lists : steps_in (4 ∷ []) (16 ∷ []) [] [] (2 ∷ []) 2 ≡ DynOffset 16 0 (Known 2) ∷ BufferData ∷ []
unfolding opened
short_lists = refl
