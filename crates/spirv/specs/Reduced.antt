-- Document 01, "decorations in order": what a struct's D lines come to, as they are read. RowMajor is 12; an Offset whose member is below the
-- count read 13, above it 14, else it counts as read; the first refusal stays.
use Rattle.std.specs.Prelude.{ℕ, cond, List, [], ◌∷◌, ◌++◌, eqb, ltb, length, take, replicate}
use Rattle.arith.specs.Refusals.{row_major, offset_repeated, offsets_missing}
use Rattle.spirv.specs.declared.Decoration.{Decoration}
use Rattle.spirv.specs.declared.Decoration.TheVariants.{RowMajor, Offset}
use Rattle.spirv.specs.declared.MemberDecoration.{MemberDecoration}
use Rattle.spirv.specs.declared.DeclRow.{DeclRow}
use Rattle.spirv.specs.Decl.{Decl, is_struct}
use Rattle.spirv.specs.Rows.{struct_row, plain_row}

-- the refusal that D lines lead to, or 0, and the offsets read before it
pub record Reduction : Type 0 where
  pub refusal : ℕ
  pub offsets : List ℕ

abbrev pub refusing : List ℕ → ℕ → Reduction
refusing offsets n = record { refusal = n; offsets = offsets }

-- with a decoration more, where nothing is refused so far
unfoldable pub taken_in : (offsets : List ℕ) → (member : ℕ) → Decoration → Reduction
taken_in offsets member RowMajor = refusing offsets row_major
taken_in offsets member (Offset value) =
    cond (ltb member (length offsets)) (refusing offsets offset_repeated)
    (cond (ltb (length offsets) member) (refusing offsets offsets_missing)
    (refusing (offsets ++ (value ∷ [])) 0))

unfoldable pub reduced_by : Reduction → MemberDecoration → Reduction
reduced_by r d = cond (eqb r.refusal 0) (taken_in r.offsets d.member d.decoration) r

abbrev pub reduced_from : Reduction → List MemberDecoration → Reduction
reduced_from r [] = r
reduced_from r (d ∷ ds) = reduced_from (reduced_by r d) ds

unfoldable pub reduced : List MemberDecoration → Reduction
reduced ds = reduced_from (refusing [] 0) ds

-- ---- what the tables hold of a declaration

-- the row of a declared type whose members start at `start`
unfoldable pub decl_row : (start : ℕ) → Decl → DeclRow
decl_row start d =
    cond (is_struct d.type)
    (struct_row d.type start (length d.members) (reduced d.decorations).refusal (length (reduced d.decorations).offsets))
    (plain_row d.type)

-- as many words as a struct has members: the offsets read, cut to that many, then zeros
unfoldable pub given_words : Decl → List ℕ
given_words d = take (length d.members) ((reduced d.decorations).offsets ++ replicate (length d.members) 0)
