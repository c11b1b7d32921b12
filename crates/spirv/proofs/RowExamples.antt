-- Rows, indices and the reduction of D lines, computed from the definitions. Assumes nothing.
use Prim.Native.Nat.{ℕ}
use Rattle.std.specs.Prelude.{Some, None}
use mathlib.Core.Path.{◌≡◌, refl}
use mathlib.Core.Bool.{true, false}
use mathlib.Core.List.{[], ◌∷◌, map}
use Rattle.spirv.specs.declared.Length.TheVariants.{Fixed, Specialization}
use Rattle.spirv.specs.declared.Stride.TheVariants.{Decorated, Undecorated}
use Rattle.spirv.specs.declared.SpvType.TheVariants as spv
use Rattle.spirv.specs.declared.Decoration.TheVariants.{RowMajor, Offset}
use Rattle.spirv.specs.declared.MemberDecoration.{MemberDecoration}
use Rattle.spirv.specs.declared.Index.TheVariants.{Known, Unknown}
use Rattle.spirv.specs.Rows.{same_words, encode_row, type_of, row_of, row_of_words, decode_row, struct_row, plain_row, decode_index}
use Rattle.spirv.specs.Reduced.{refusing, taken_in, reduced_by, reduced, given_words}

rows : map encode_row (plain_row spv.Bool ∷ plain_row (spv.Int 32) ∷ plain_row (spv.Vector 1 3) ∷ plain_row (spv.Array 2 Specialization (Decorated 16)) ∷ plain_row (spv.Array 2 (Fixed 4) Undecorated) ∷ plain_row (spv.RuntimeArray 5 Undecorated) ∷ struct_row (spv.Struct true) 7 3 14 2 ∷ plain_row (spv.Pointer 12 6) ∷ [])
    ≡ (66 ∷ 0 ∷ 0 ∷ 0 ∷ 0 ∷ 0 ∷ [])
    ∷ (73 ∷ 32 ∷ 0 ∷ 0 ∷ 0 ∷ 0 ∷ [])
    ∷ (86 ∷ 1 ∷ 3 ∷ 0 ∷ 0 ∷ 0 ∷ [])
    ∷ (65 ∷ 2 ∷ 1 ∷ 0 ∷ 0 ∷ 16 ∷ [])
    ∷ (65 ∷ 2 ∷ 0 ∷ 4 ∷ 1 ∷ 0 ∷ [])
    ∷ (82 ∷ 5 ∷ 1 ∷ 0 ∷ 0 ∷ 0 ∷ [])
    ∷ (83 ∷ 1 ∷ 7 ∷ 3 ∷ 14 ∷ 2 ∷ [])
    ∷ (80 ∷ 12 ∷ 6 ∷ 0 ∷ 0 ∷ 0 ∷ [])
    ∷ []
unfolding encode_row
rows = refl

-- words that no row has: another letter, a word behind a bool, a length beside `s`, a block of 2, five words, seven
broken : map decode_row ((0 ∷ 0 ∷ 0 ∷ 0 ∷ 0 ∷ 0 ∷ []) ∷ (66 ∷ 0 ∷ 0 ∷ 0 ∷ 0 ∷ 1 ∷ []) ∷ (65 ∷ 2 ∷ 1 ∷ 4 ∷ 1 ∷ 0 ∷ []) ∷ (83 ∷ 2 ∷ 0 ∷ 0 ∷ 0 ∷ 0 ∷ []) ∷ (66 ∷ 0 ∷ 0 ∷ 0 ∷ 0 ∷ []) ∷ (66 ∷ 0 ∷ 0 ∷ 0 ∷ 0 ∷ 0 ∷ 0 ∷ []) ∷ [])
    ≡ None ∷ None ∷ None ∷ None ∷ None ∷ None ∷ []
unfolding decode_row encode_row row_of_words row_of type_of same_words
broken = refl

indices : map decode_index ((5 ∷ 0 ∷ []) ∷ (5 ∷ 1 ∷ []) ∷ (5 ∷ 2 ∷ []) ∷ (5 ∷ []) ∷ [])
    ≡ Some (Known 5) ∷ Some (Unknown 5) ∷ None ∷ None ∷ []
unfolding decode_index
indices = refl

abbrev at : ℕ → ℕ → MemberDecoration
at m v = record { member = m; decoration = Offset v }

abbrev row_major : ℕ → MemberDecoration
row_major m = record { member = m; decoration = RowMajor }

-- one for each member; none; 12, 13 and 14, each after an offset; the first refusal stays
reductions : map reduced ((at 0 8 ∷ at 1 4 ∷ []) ∷ [] ∷ (at 0 8 ∷ row_major 1 ∷ []) ∷ (at 0 8 ∷ at 0 9 ∷ []) ∷ (at 0 8 ∷ at 2 4 ∷ []) ∷ (at 0 8 ∷ at 2 4 ∷ row_major 3 ∷ at 4 0 ∷ []) ∷ [])
    ≡ refusing (8 ∷ 4 ∷ []) 0 ∷ refusing [] 0 ∷ refusing (8 ∷ []) 12 ∷ refusing (8 ∷ []) 13 ∷ refusing (8 ∷ []) 14 ∷ refusing (8 ∷ []) 14 ∷ []
unfolding reduced reduced_by taken_in
reductions = refl

-- two members: fewer offsets are followed by zeros, more are cut
given : map (λ ds. given_words (record { type = spv.Struct false; members = 3 ∷ 3 ∷ []; decorations = ds })) ([] ∷ (at 0 8 ∷ []) ∷ (at 0 8 ∷ at 1 4 ∷ at 2 0 ∷ []) ∷ [])
    ≡ (0 ∷ 0 ∷ []) ∷ (8 ∷ 0 ∷ []) ∷ (8 ∷ 4 ∷ []) ∷ []
unfolding given_words reduced reduced_by taken_in
given = refl
