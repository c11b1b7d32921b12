-- A D line behind others: the last struct's decorations, its row and the order. Assumes nothing.
use Prim.Native.Nat.{ℕ, ◌+◌}
use mathlib.Core.Path.{◌≡◌, refl}
use mathlib.Core.Bool.{Bool, true, false, cond}
use mathlib.Core.List.{List, [], ◌∷◌, ◌++◌}
use lib.Dec.{eqb, ltb}
use lib.ListN.{length, length-append}
use Rattle.arith.specs.Refusals.{ok, refused, ◌>>=◌, ◌>>◌, refuse◌unless◌, misread}
use Rattle.spirv.specs.declared.Decoration.{Decoration}
use Rattle.spirv.specs.declared.Decoration.TheVariants.{RowMajor, Offset}
use Rattle.spirv.specs.declared.MemberDecoration.{MemberDecoration}
use Rattle.spirv.specs.declared.SpvType.{SpvType}
use Rattle.spirv.specs.Decl.{Decl, is_struct, before}
use Rattle.spirv.specs.Rows.{struct_row}
use Rattle.spirv.specs.Reduced.{Reduction, taken_in, reduced_by, reduced_from, reduced, decl_row}
use Rattle.sheet.specs.Sheet.{rises, decorate_last}
use Rattle.tally.specs.Counts.{row_by}

-- a declaration with a decoration more
abbrev pub decorated : Decl → MemberDecoration → Decl
decorated t d = record { type = t.type; members = t.members; decorations = t.decorations ++ (d ∷ []) }

-- the last type is decorated, where that rises
pub decorate_last_lem : (above : List Decl) (t : Decl) (d : MemberDecoration)
    → decorate_last (above ++ (t ∷ [])) d ≡ cond (rises t.decorations d) (ok (above ++ (decorated t d ∷ []))) (refused misread)
unfolding decorate_last ◌>>=◌ ◌>>◌ refuse◌unless◌
decorate_last_lem [] t d = go (rises t.decorations d)
  where
    go : (b : Bool) → ((refuse misread unless b) >> ok (decorated t d ∷ [])) ≡ cond b (ok (decorated t d ∷ [])) (refused misread)
    go true = refl
    go false = refl
decorate_last_lem (a ∷ []) t d = go (rises t.decorations d)
  where
    go : (b : Bool) → (((refuse misread unless b) >> ok (decorated t d ∷ [])) >>= (λ rest. ok (a ∷ rest))) ≡ cond b (ok (a ∷ decorated t d ∷ [])) (refused misread)
    go true = refl
    go false = refl
decorate_last_lem (a ∷ b ∷ above) t d = rw (decorate_last_lem (b ∷ above) t d) (go (rises t.decorations d))
  where
    go : (x : Bool) → (cond x (ok (b ∷ above ++ (decorated t d ∷ []))) (refused misread) >>= (λ rest. ok (a ∷ rest))) ≡ cond x (ok (a ∷ b ∷ above ++ (decorated t d ∷ []))) (refused misread)
    go true = refl
    go false = refl

pub rises_last : (cs : List MemberDecoration) (d e : MemberDecoration) → rises (cs ++ (d ∷ [])) e ≡ before d e
rises_last [] d e = refl
rises_last (a ∷ []) d e = refl
rises_last (a ∷ b ∷ cs) d e = rises_last (b ∷ cs) d e

-- ---- what D lines come to

reduced_more : (r : Reduction) (ds : List MemberDecoration) (d : MemberDecoration) → reduced_from r (ds ++ (d ∷ [])) ≡ reduced_by (reduced_from r ds) d
reduced_more r [] d = refl
reduced_more r (c ∷ ds) d = reduced_more (reduced_by r c) ds d

pub reduced_last : (ds : List MemberDecoration) (d : MemberDecoration) → reduced (ds ++ (d ∷ [])) ≡ reduced_by (reduced ds) d
unfolding reduced
reduced_last ds d = reduced_more _ ds d

module _ (t : SpvType) (start count : ℕ) where
  -- a row of what D lines come to
  abbrev reduced_row : Reduction → Rattle.spirv.specs.declared.DeclRow.DeclRow
  reduced_row r = struct_row t start count r.refusal (length r.offsets)

  row_reduced : (r : Reduction) (d : MemberDecoration) → row_by (reduced_row r) d ≡ reduced_row (reduced_by r d)
  unfolding row_by reduced_by taken_in
  row_reduced r d = go (eqb r.refusal 0) d.decoration
    where
      n : ℕ
      n = length r.offsets

      inner : (value : ℕ) (a b : Bool) → cond a (struct_row t start count 13 (length r.offsets)) (cond b (struct_row t start count 14 (length r.offsets)) (struct_row t start count 0 (length r.offsets + 1)))
          ≡ reduced_row (cond a (record { refusal = 13; offsets = r.offsets }) (cond b (record { refusal = 14; offsets = r.offsets }) (record { refusal = 0; offsets = r.offsets ++ (value ∷ []) })))
      inner value true b = refl
      inner value false true = refl
      inner value false false = let e : length (r.offsets ++ (value ∷ [])) ≡ length r.offsets + 1 = length-append r.offsets (value ∷ []) in rw e

      go : (a : Bool) (c : Decoration) → cond a (Rattle.tally.specs.Counts.row_taking (reduced_row r) d.member c) (reduced_row r) ≡ reduced_row (cond a (taken_in r.offsets d.member c) r)
      go true RowMajor = refl
      go true (Offset value) = inner value (ltb d.member (length r.offsets)) (ltb (length r.offsets) d.member)
      go false c = refl

-- the row of a struct with a D line more
pub row_decorated : (start : ℕ) (t : Decl) (d : MemberDecoration) → is_struct t.type ≡ true → row_by (decl_row start t) d ≡ decl_row start (decorated t d)
unfolding decl_row
row_decorated start t d e = rw (e, reduced_last t.decorations d) (row_reduced t.type start (length t.members) (reduced t.decorations) d)
