-- Every sheet that is read has numbers of 32 bits, refers to lower types alone and keeps the limits. Assumes nothing.
use Prim.Native.Nat.{ℕ, ◌+◌, ◌≤◌}
use Prim.Native.Char.{code}
use native.Mathlib.Nat.{zero-add}
use native.Mathlib.Omega.{arith}
use mathlib.Core.Path.{◌≡◌, refl, subst}
use mathlib.Core.Bool.{true, false≢true}
use mathlib.Core.List.{List, [], ◌∷◌, ◌++◌}
use mathlib.Core.Option.{Option, none, some}
use lib.ListN.{length, length-append}
use borrow.Author.Tests.{ltb-true, leb-true}
use Rattle.arith.specs.Refusals.{ok, misread, oversize, bad_setting}
use Rattle.arith.proofs.Results.{never, value_is, went, passed, not_refused}
use Rattle.decimal.specs.Text.{split}
use Rattle.spirv.specs.declared.MemberDecoration.{MemberDecoration}
use Rattle.spirv.specs.Decl.{Decl}
use Rattle.spirv.specs.Questions.{Question}
use Rattle.sheet.specs.Grammar.{Line, Setting, Declared, Decorated, Asked, read_line}
use Rattle.sheet.specs.Sheet.{Sheet, max_types, max_members, max_indices, member_count, index_count, takes_decoration, decorate_last, good_setting, first_line, next_line, formed, read_lines, read_pieces, read_sheet}
use Rattle.sheet.specs.Statements.{All, FitsDecl, FitsDecoration, FitsQuestion, FitsSetting, GoodSheet, ReadsGood}
use Rattle.sheet.proofs.Forms.{FitsLine, line_fits}
use Rattle.sheet.proofs.Types.{all_append, all_wider, FitFrom, fits_at, fit_append, members_append, ends_in_struct, ends_append, decorate}

-- what holds of the sheet so far, below the line `previous`
record Good (previous : Line) (s : Sheet) : Type 0 where
  setting : FitsSetting s.setting
  types : FitFrom 0 s.types
  few_types : length s.types ≤ max_types
  few_members : member_count s.types ≤ max_members
  questions : All (FitsQuestion (length s.types)) s.questions
  struct_last : takes_decoration previous ≡ true → ends_in_struct s.types ≡ true

-- a question keeps its form below more types
still_fits : (m n : ℕ) → m ≤ n → (q : Question) → FitsQuestion m q → FitsQuestion n q
still_fits m n l (Question.T t) p = omega arith
still_fits m n l (Question.E a b) p = (omega arith, omega arith)
still_fits m n l (Question.Q t start end) p = (omega arith, p.1, p.2)
still_fits m n l (Question.C op ptr indices) p = (omega arith, p.1, p.2)
still_fits m n l (Question.L ptr member) p = (omega arith, p.1)
still_fits m n l (Question.X ptr) p = omega arith

-- ---- line 1

first_good : (l : Line) {s : Sheet} → FitsLine 0 l → first_line l ≡ ok s → Good l s
unfolding first_line
first_good (Setting g) p h =
    let r = not_refused bad_setting (good_setting g) _ h in
    subst (Good (Setting g)) (value_is (passed _ _ h)) record {
      setting = p r;
      types = tt;
      few_types = omega arith;
      few_members = omega arith;
      questions = tt;
      struct_last = λ e. absurd (false≢true e);
    }
first_good (Declared d) p h = absurd (never h)
first_good (Decorated d) p h = absurd (never h)
first_good (Asked q) p h = absurd (never h)

-- ---- each further line

module _ {s : Sheet} {previous : Line} (good : Good previous s) where
  declared_good : (d : Decl) {t : Sheet} → FitsDecl (length s.types) d → next_line s previous (Declared d) ≡ ok t → Good (Declared d) t
  unfolding next_line
  declared_good d p h =
      let few = ltb-true (length s.types) max_types (not_refused oversize _ _ h) in
      let g = passed _ _ h in
      let members = leb-true (member_count s.types + length d.members) max_members (not_refused oversize _ _ g) in
      let count : length (s.types ++ (d ∷ [])) ≡ length s.types + 1 = length-append s.types (d ∷ []) in
      subst (Good (Declared d)) (value_is (passed _ _ g)) record {
        setting = good.setting;
        types = fit_append 0 s.types d good.types (rw zero-add p);
        few_types = omega arith;
        few_members = omega (arith, members_append s.types d);
        questions = all_wider (still_fits _ _ (omega arith)) s.questions good.questions;
        struct_last = ends_append s.types d;
      }

  decorated_good : (d : MemberDecoration) {t : Sheet} → FitsDecoration d → next_line s previous (Decorated d) ≡ ok t → Good (Decorated d) t
  unfolding next_line
  decorated_good d p h =
      let takes = not_refused misread (takes_decoration previous) _ h in
      let w = went (decorate_last s.types d) _ (passed _ _ h) in
      let same = decorate 0 s.types d good.types (good.struct_last takes) p w.here in
      subst (Good (Decorated d)) (value_is w.rest) record {
        setting = good.setting;
        types = same.fit;
        few_types = omega arith;
        few_members = omega arith;
        questions = all_wider (still_fits _ _ (omega arith)) s.questions good.questions;
        struct_last = λ e. same.ends;
      }

  asked_good : (q : Question) {t : Sheet} → FitsLine (length s.types) (Asked q) → next_line s previous (Asked q) ≡ ok t → Good (Asked q) t
  unfolding next_line
  asked_good q p h =
      let few = leb-true (index_count q) max_indices (not_refused oversize _ _ h) in
      subst (Good (Asked q)) (value_is (passed _ _ h)) record {
        setting = good.setting;
        types = good.types;
        few_types = good.few_types;
        few_members = good.few_members;
        questions = all_append _ s.questions q good.questions (p few);
        struct_last = λ e. absurd (false≢true e);
      }

  next_good : (l : Line) {t : Sheet} → FitsLine (length s.types) l → next_line s previous l ≡ ok t → Good l t
  unfolding next_line
  next_good (Setting g) p h = absurd (never h)
  next_good (Declared d) p h = declared_good d p h
  next_good (Decorated d) p h = decorated_good d p h
  next_good (Asked q) p h = asked_good q p h

-- ---- the whole

formed_fits : (above : ℕ) (line : List ℕ) {l : Line} → formed (read_line above line) ≡ ok l → FitsLine above l
formed_fits above line h = by (read_line above line) (line_fits above line).value h
  where
    by : (o : Option Line) → ((l : Line) → o ≡ some l → FitsLine above l) → {l : Line} → formed o ≡ ok l → FitsLine above l
    by none f h = absurd (never h)
    by (some l) f h = subst (FitsLine above) (value_is h) (f l refl)

good_sheet : {previous : Line} {s : Sheet} → Good previous s → GoodSheet s
good_sheet {s = s} g = record {
  setting = g.setting;
  types = λ t d h. subst (λ (n : ℕ). FitsDecl n d) (zero-add t) (fits_at 0 s.types g.types t d h);
  few_types = g.few_types;
  few_members = g.few_members;
  questions = g.questions;
}

lines_good : (pieces : List (List ℕ)) {previous : Line} {s : Sheet} → Good previous s → {t : Sheet} → read_lines s previous pieces ≡ ok t → GoodSheet t
unfolding read_lines
lines_good [] g h = subst GoodSheet (value_is h) (good_sheet g)
lines_good ([] ∷ []) g h = subst GoodSheet (value_is h) (good_sheet g)
lines_good ((b ∷ bs) ∷ []) g h = absurd (never h)
lines_good (line ∷ more ∷ rest) {previous} {s} g h =
    let l = went (formed (read_line (length s.types) line)) _ h in
    let t = went (next_line s previous l.value) _ l.rest in
    lines_good (more ∷ rest) (next_good g l.value (formed_fits _ line l.here) t.here) t.rest

pieces_good : (pieces : List (List ℕ)) {t : Sheet} → read_pieces pieces ≡ ok t → GoodSheet t
unfolding read_pieces
pieces_good [] h = absurd (never h)
pieces_good (last ∷ []) h = absurd (never h)
pieces_good (line ∷ more ∷ rest) h =
    let l = went (formed (read_line 0 line)) _ h in
    let s = went (first_line l.value) _ l.rest in
    lines_good (more ∷ rest) (first_good l.value (formed_fits 0 line l.here) s.here) s.rest

pub reads_good : ReadsGood
unfolding read_sheet
reads_good input s h = pieces_good (split (code "\n") input) (passed _ _ h)
