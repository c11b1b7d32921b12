-- The tables of a sheet, computed from the definitions. Assumes nothing.
use mathlib.Core.Path.{◌≡◌, refl}
use mathlib.Core.List.{[], ◌∷◌}
use Rattle.arith.specs.Refusals.{ok}
use Rattle.spirv.specs.Rows.{encode_row}
use Rattle.spirv.specs.Reduced.{taken_in, reduced_by, reduced, decl_row, given_words}
use Rattle.sheet.specs.Tables.{setting_words, types_words, members_words, offsets_words}
use Rattle.sheet.proofs.Opened.{opened}
use Rattle.sheet.proofs.OfText.{of}

-- the setting's words
setting : of "G,1,2,3,4,5,8\n" (λ s. setting_words s.setting) ≡ ok (1 ∷ 2 ∷ 3 ∷ 4 ∷ 5 ∷ 8 ∷ [])
unfolding opened
setting = refl

-- two structs, whose members start at the running member count; the first has two offsets, the second a gap
rows : of "G,1,1,1,1,1,1\nF,32\nS,0,2,0,0\nD,0,35,0\nD,1,35,8\nT,1\nS,1,3,0,1,0\nD,0,35,4\nD,2,35,9\nP,12,2\n" (λ s. types_words 0 s.types)
    ≡ ok
    (70 ∷ 32 ∷ 0 ∷ 0 ∷ 0 ∷ 0
    ∷ 83 ∷ 0 ∷ 0 ∷ 2 ∷ 0 ∷ 2
    ∷ 83 ∷ 1 ∷ 2 ∷ 3 ∷ 14 ∷ 1
    ∷ 80 ∷ 12 ∷ 2 ∷ 0 ∷ 0 ∷ 0
    ∷ [])
unfolding opened encode_row decl_row reduced reduced_by taken_in
rows = refl

members : of "G,1,1,1,1,1,1\nF,32\nS,0,2,0,0\nD,0,35,0\nD,1,35,8\nT,1\nS,1,3,0,1,0\nD,0,35,4\nD,2,35,9\nP,12,2\n" (λ s. members_words s.types) ≡ ok (0 ∷ 0 ∷ 0 ∷ 1 ∷ 0 ∷ [])
unfolding opened
members = refl

given : of "G,1,1,1,1,1,1\nF,32\nS,0,2,0,0\nD,0,35,0\nD,1,35,8\nT,1\nS,1,3,0,1,0\nD,0,35,4\nD,2,35,9\nP,12,2\n" (λ s. offsets_words s.types) ≡ ok (0 ∷ 8 ∷ 4 ∷ 0 ∷ 0 ∷ [])
unfolding opened given_words reduced reduced_by taken_in
given = refl
