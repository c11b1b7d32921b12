-- Reading a sheet refuses by 1, 2 and 3 alone. Assumes nothing.
use Prim.Native.Nat.{ℕ, ◌+◌, ◌≤◌}
use Prim.Native.Char.{code}
use native.Mathlib.Omega.{arith}
use mathlib.Core.List.{List, [], ◌∷◌}
use mathlib.Core.Option.{Option, none, some}
use lib.Dec.{leb, ltb}
use lib.ListN.{length}
use Rattle.arith.specs.Refusals.{misread, oversize, bad_setting}
use Rattle.arith.proofs.Results.{RefusedBy, fine_by, this_by, then_by, and_by, unless_by}
use Rattle.decimal.specs.Text.{split}
use Rattle.spirv.specs.declared.MemberDecoration.{MemberDecoration}
use Rattle.spirv.specs.Decl.{Decl}
use Rattle.sheet.specs.Grammar.{Line, Setting, Declared, Decorated, Asked, read_line}
use Rattle.sheet.specs.Sheet.{Sheet, max_bytes, max_types, max_members, max_indices, member_count, index_count, takes_decoration, rises, decorate_last, good_setting, first_line, next_line, formed, read_lines, read_pieces, read_sheet}
use Rattle.sheet.specs.Statements.{ReadRefusals}

abbrev OneToThree : ℕ → Type 0
OneToThree n = (misread ≤ n) × (n ≤ bad_setting)

one : OneToThree misread
one = (omega arith, omega arith)

two : OneToThree oversize
two = (omega arith, omega arith)

three : OneToThree bad_setting
three = (omega arith, omega arith)

formed_by : (o : Option Line) → RefusedBy OneToThree (formed o)
formed_by none = this_by one
formed_by (some l) = fine_by

decorate_by : (ds : List Decl) (d : MemberDecoration) → RefusedBy OneToThree (decorate_last ds d)
unfolding decorate_last
decorate_by [] d = this_by one
decorate_by (t ∷ []) d = and_by _ _ (unless_by misread (rises t.decorations d) one) fine_by
decorate_by (t ∷ u ∷ us) d = then_by (decorate_last (u ∷ us) d) _ (decorate_by (u ∷ us) d) (λ ts h. fine_by)

first_by : (l : Line) → RefusedBy OneToThree (first_line l)
unfolding first_line
first_by (Setting g) = and_by _ _ (unless_by bad_setting (good_setting g) three) fine_by
first_by (Declared d) = this_by one
first_by (Decorated d) = this_by one
first_by (Asked q) = this_by one

next_by : (s : Sheet) (previous l : Line) → RefusedBy OneToThree (next_line s previous l)
unfolding next_line
next_by s previous (Setting g) = this_by one
next_by s previous (Declared d) =
    and_by _ _ (unless_by oversize (ltb (length s.types) max_types) two)
    (and_by _ _ (unless_by oversize (leb (member_count s.types + length d.members) max_members) two) fine_by)
next_by s previous (Decorated d) =
    and_by _ _ (unless_by misread (takes_decoration previous) one)
    (then_by (decorate_last s.types d) _ (decorate_by s.types d) (λ ts h. fine_by))
next_by s previous (Asked q) = and_by _ _ (unless_by oversize (leb (index_count q) max_indices) two) fine_by

lines_by : (pieces : List (List ℕ)) (s : Sheet) (previous : Line) → RefusedBy OneToThree (read_lines s previous pieces)
unfolding read_lines
lines_by [] s previous = fine_by
lines_by ([] ∷ []) s previous = fine_by
lines_by ((b ∷ bs) ∷ []) s previous = this_by one
lines_by (line ∷ more ∷ rest) s previous =
    then_by (formed (read_line (length s.types) line)) _ (formed_by (read_line (length s.types) line))
    (λ l h. then_by (next_line s previous l) _ (next_by s previous l) (λ t g. lines_by (more ∷ rest) t l))

pieces_by : (pieces : List (List ℕ)) → RefusedBy OneToThree (read_pieces pieces)
unfolding read_pieces
pieces_by [] = this_by one
pieces_by (last ∷ []) = this_by one
pieces_by (line ∷ more ∷ rest) =
    then_by (formed (read_line 0 line)) _ (formed_by (read_line 0 line))
    (λ l h. then_by (first_line l) _ (first_by l) (λ s g. lines_by (more ∷ rest) s l))

pub read_refusals : ReadRefusals
unfolding read_sheet
read_refusals input = (and_by _ _ (unless_by oversize (leb (length input) max_bytes) two) (pieces_by (split (code "\n") input))).only
