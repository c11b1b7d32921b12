-- The counts of a sheet that is being read, and what a line does to both. Assumes nothing.
use Prim.Native.Nat.{ℕ, ◌+◌, ◌≤◌}
use native.Mathlib.Omega.{arith}
use mathlib.Core.Path.{◌≡◌, refl, ap, ◌∙◌, subst}
use mathlib.Core.Bool.{Bool, true, false, cond}
use mathlib.Core.List.{List, [], ◌∷◌, ◌++◌}
use mathlib.Core.Option.{Option, some}
use borrow.Author.Tests.{leb-true}
use lib.Dec.{leb, ltb, eqb}
use lib.ListN.{length, length-append}
use Rattle.arith.specs.Refusals.{ok, refused, ◌>>=◌, ◌>>◌, refuse◌unless◌, misread, oversize, bad_setting}
use Rattle.spirv.specs.declared.Decoration.{Decoration}
use Rattle.spirv.specs.declared.Decoration.TheVariants.{RowMajor, Offset}
use Rattle.spirv.specs.declared.MemberDecoration.{MemberDecoration}
use Rattle.spirv.specs.declared.SpvType.{SpvType}
use Rattle.spirv.specs.declared.DeclRow.{DeclRow}
use Rattle.spirv.specs.Decl.{Decl, is_struct, before}
use Rattle.spirv.specs.Rows.{struct_row}
use Rattle.spirv.specs.Reduced.{reduced, decl_row}
use Rattle.shapes.specs.declared.LayoutConfig.{LayoutConfig}
use Rattle.sheet.specs.Fields.{read_type, read_all}
use Rattle.sheet.specs.Grammar.{Line, Setting, Declared, Decorated, Asked}
use Rattle.sheet.specs.Sheet.{Sheet, member_count, takes_decoration, first_line, good_setting, next_line, formed, max_types, max_members, max_indices}
use Rattle.sheet.proofs.Types.{members_append}
use Rattle.fields.specs.Pieces.{behind}
use Rattle.lines.specs.declared.Ask.{Ask}
use Rattle.lines.specs.declared.SheetLine.{SheetLine}
use Rattle.lines.specs.declared.SheetLine.TheVariants as says
use Rattle.lines.specs.Says.{count_of, question_of, Asks, Says}
use Rattle.lines.proofs.Indices.{question_count}
use Rattle.tally.specs.declared.Place.{Place}
use Rattle.tally.specs.declared.Place.TheVariants.{Closed, Open, After}
use Rattle.tally.specs.declared.Tally.{Tally}
use Rattle.std.specs.Prelude as code
use Rattle.std.specs.Prelude.{Some, None}
use Rattle.tally.specs.Counts.{more, stop, row_with, row_taking, row_by, read_in, is_open, placed, opened_by, declared_by, decorated_by, asked_by, judged, set_by, judged_first, start_tally}
use Rattle.tally.proofs.Decorated.{decorated, decorate_last_lem, rises_last, row_decorated}
use Rattle.tally.proofs.Went.{OpenAt, Placed, Matches, Redone, Went, WentBy, never_next, never_refused, next_is, number_is}

module _ {s : Sheet} {previous : Line} {t : Tally} (m : Matches s previous t) where
  -- ---- a type

  module _ (ty : SpvType) (members : List ℕ) where
    abbrev declaration : Decl
    declaration = record { type = ty; members = members; decorations = [] }

    abbrev with_type : Sheet
    with_type = record { setting = s.setting; types = s.types ++ (declaration ∷ []); questions = s.questions }

    type_next : next_line s previous (Declared declaration)
        ≡ cond (ltb t.types max_types) (cond (leb (t.members + length members) max_members) (ok with_type) (refused oversize)) (refused oversize)
    unfolding next_line ◌>>◌ refuse◌unless◌
    type_next = rw (m.types, m.members) (go (ltb (length s.types) max_types) (leb (member_count s.types + length members) max_members))
      where
        go : (a b : Bool) → ((refuse oversize unless a) >> ((refuse oversize unless b) >> ok with_type)) ≡ cond a (cond b (ok with_type) (refused oversize)) (refused oversize)
        go true true = refl
        go true false = refl
        go false b = refl

    opened : Placed (s.types ++ (declaration ∷ [])) (Declared declaration) (opened_by ty t.members (length members))
    unfolding opened_by decl_row reduced
    opened = go (is_struct ty) refl
      where
        row : is_struct ty ≡ true → struct_row ty t.members (length members) 0 0 ≡ decl_row (member_count s.types) declaration
        row e = rw (e, m.members)

        go : (b : Bool) → is_struct ty ≡ b → Placed (s.types ++ (declaration ∷ [])) (Declared declaration) (cond b (Open (struct_row ty t.members (length members) 0 0)) Closed)
        go true e = record { takes = e; above = s.types; last = declaration; split = refl; struct = e; held = row e; rising = λ d. refl }
        go false e = e

    type_matches : Matches with_type (Declared declaration) (record { setting = t.setting; types = t.types + 1; members = t.members + length members; place = opened_by ty t.members (length members) })
    type_matches = record {
      setting = m.setting;
      types = omega (arith, m.types, length-append s.types (declaration ∷ []));
      members = omega (arith, m.members, members_append s.types declaration);
      place = opened;
    }

    module _ (line : List ℕ) (at : ℕ) {o : Option Line} (r : read_all (read_type t.types) (behind line at) ≡ some members) (q : o ≡ some (Declared declaration)) where
      type_went : {u : Tally} → declared_by t ty (length members) ≡ more u → Went s previous t line (Some (says.Declared ty (length members) at)) o u
      unfolding declared_by
      type_went {u} e = go (ltb t.types max_types) (leb (t.members + length members) max_members) type_next e
        where
          go : (a b : Bool) → next_line s previous (Declared declaration) ≡ cond a (cond b (ok with_type) (refused oversize)) (refused oversize)
              → cond a (cond b (more record { setting = t.setting; types = t.types + 1; members = t.members + length members; place = opened_by ty t.members (length members) }) (stop oversize)) (stop oversize) ≡ more u
              → Went s previous t line (Some (says.Declared ty (length members) at)) o u
          go true true w e = record {
            said = Declared declaration;
            told = q;
            sheet = with_type;
            next = w;
            matches = rw (← next_is e) type_matches;
            grows = record { members = members; read = r; count = refl; types = refl };
          }
          go true false w e = absurd (never_next e)
          go false b w e = absurd (never_next e)

      type_stops : {n : ℕ} → declared_by t ty (length members) ≡ stop n → (formed o >>= next_line s previous) ≡ refused n
      unfolding declared_by ◌>>=◌
      type_stops {n} e = rw q (go (ltb t.types max_types) (leb (t.members + length members) max_members) type_next e)
        where
          go : (a b : Bool) → next_line s previous (Declared declaration) ≡ cond a (cond b (ok with_type) (refused oversize)) (refused oversize)
              → cond a (cond b (more record { setting = t.setting; types = t.types + 1; members = t.members + length members; place = opened_by ty t.members (length members) }) (stop oversize)) (stop oversize) ≡ stop n
              → next_line s previous (Declared declaration) ≡ refused n
          go true true w e = absurd (never_refused e)
          go true false w e = w ∙ ap refused (number_is e)
          go false b w e = w ∙ ap refused (number_is e)

  -- ---- a question

  abbrev with_question : Rattle.spirv.specs.Questions.Question → Sheet
  with_question q = record { setting = s.setting; types = s.types; questions = s.questions ++ (q ∷ []) }

  module _ {line : List ℕ} {a : Ask} {at : ℕ} {o : Option Line} (w : Asks line a at o) where
    ask_next : next_line s previous (Asked (question_of a w.indices)) ≡ cond (leb (count_of a) max_indices) (ok (with_question (question_of a w.indices))) (refused oversize)
    unfolding next_line ◌>>◌ refuse◌unless◌
    ask_next = rw (question_count a w.indices w.count) (go (leb (count_of a) max_indices))
      where
        go : (b : Bool) → ((refuse oversize unless b) >> ok (with_question (question_of a w.indices))) ≡ cond b (ok (with_question (question_of a w.indices))) (refused oversize)
        go true = refl
        go false = refl

    ask_went : {u : Tally} → asked_by t (count_of a) ≡ more u → Went s previous t line (Some (says.Asked a at)) o u
    unfolding asked_by
    ask_went {u} e = go (leb (count_of a) max_indices) ask_next e
      where
        go : (b : Bool) → next_line s previous (Asked (question_of a w.indices)) ≡ cond b (ok (with_question (question_of a w.indices))) (refused oversize)
            → cond b (more (placed t Closed)) (stop oversize) ≡ more u → Went s previous t line (Some (says.Asked a at)) o u
        go true n e = record {
          said = Asked (question_of a w.indices);
          told = w.told;
          sheet = with_question (question_of a w.indices);
          next = n;
          matches = rw (← next_is e) (record { setting = m.setting; types = m.types; members = m.members; place = refl });
          grows = refl;
        }
        go false n e = absurd (never_next e)

    ask_stops : {n : ℕ} → asked_by t (count_of a) ≡ stop n → (formed o >>= next_line s previous) ≡ refused n
    unfolding asked_by ◌>>=◌
    ask_stops {n} e = ap (λ (x : Option Line). formed x >>= next_line s previous) w.told ∙ go (leb (count_of a) max_indices) ask_next e
      where
        go : (b : Bool) → next_line s previous (Asked (question_of a w.indices)) ≡ cond b (ok (with_question (question_of a w.indices))) (refused oversize)
            → cond b (more (placed t Closed)) (stop oversize) ≡ stop n → next_line s previous (Asked (question_of a w.indices)) ≡ refused n
        go true w e = absurd (never_refused e)
        go false w e = w ∙ ap refused (number_is e)

  -- ---- a decoration

  module _ (d : MemberDecoration) where
    closed_stops : takes_decoration previous ≡ false → next_line s previous (Decorated d) ≡ refused misread
    unfolding next_line ◌>>◌ refuse◌unless◌
    closed_stops e = rw e

    module _ {row : DeclRow} {follows : MemberDecoration → Bool} (a : OpenAt s.types previous row follows) where
      abbrev with_decoration : Sheet
      with_decoration = record { setting = s.setting; types = a.above ++ (decorated a.last d ∷ []); questions = s.questions }

      decoration_next : next_line s previous (Decorated d) ≡ cond (follows d) (ok with_decoration) (refused misread)
      unfolding next_line ◌>>◌ ◌>>=◌ refuse◌unless◌
      decoration_next = rw (a.takes, a.split, decorate_last_lem a.above a.last d, a.rising d) (go (follows d))
        where
          go : (b : Bool) → (cond b (ok (a.above ++ (decorated a.last d ∷ []))) (refused misread) >>= (λ ts. ok (record { setting = s.setting; types = ts; questions = s.questions })))
              ≡ cond b (ok with_decoration) (refused misread)
          go true = refl
          go false = refl

      decoration_matches : Matches with_decoration (Decorated d) (placed t (After (row_by row d) d))
      decoration_matches =
          let ls = ap length a.split in
          let ms = ap member_count a.split in
          record {
            setting = m.setting;
            types = omega (arith, m.types, length-append a.above (a.last ∷ []), length-append a.above (decorated a.last d ∷ []));
            members = omega (arith, m.members, members_append a.above a.last, members_append a.above (decorated a.last d));
            place = record {
              takes = refl;
              above = a.above;
              last = decorated a.last d;
              split = refl;
              struct = a.struct;
              held = rw a.held (row_decorated (member_count a.above) a.last d a.struct);
              rising = λ e. rises_last a.last.decorations d e;
            };
          }

      redone : Redone row d s.types with_decoration.types
      redone = record { above = a.above; last = a.last; was = a.split; now = refl; struct = a.struct; held = a.held }

    -- where the order lets it stand there
    opened_went : {row : DeclRow} {follows : MemberDecoration → Bool} {u : Tally} (a : OpenAt s.types previous row follows) → follows d ≡ true → more (placed t (After (row_by row d) d)) ≡ more u
        → (sheet : Sheet) × (next_line s previous (Decorated d) ≡ ok sheet) × Matches sheet (Decorated d) u × Redone row d s.types sheet.types
    opened_went {row} {follows} {u} a f e = (with_decoration a, decoration_next a ∙ (rw f), rw (← next_is e) (decoration_matches a), redone a)

    decoration_went : {u : Tally} (p : Place) → Placed s.types previous p → decorated_by t p d ≡ more u → WentBy s previous p d u
    unfolding decorated_by
    decoration_went Closed a e = absurd (never_next e)
    decoration_went (Open row) a e = let w = opened_went a refl e in record { sheet = w.0; next = w.1; matches = w.2; grows = w.3 }
    decoration_went {u} (After row c) a e = go (before c d) refl e
      where
        go : (b : Bool) → before c d ≡ b → cond b (more (placed t (After (row_by row d) d))) (stop misread) ≡ more u → WentBy s previous (After row c) d u
        go true f e = let w = opened_went a f e in record { sheet = w.0; next = w.1; matches = w.2; grows = w.3 }
        go false f e = absurd (never_next e)

    decoration_stops : {n : ℕ} (p : Place) → Placed s.types previous p → decorated_by t p d ≡ stop n → next_line s previous (Decorated d) ≡ refused n
    unfolding decorated_by
    decoration_stops Closed a e = closed_stops a ∙ ap refused (number_is e)
    decoration_stops (Open row) a e = absurd (never_refused e)
    decoration_stops {n} (After row c) a e = go (before c d) refl e
      where
        go : (b : Bool) → before c d ≡ b → cond b (more (placed t (After (row_by row d) d))) (stop misread) ≡ stop n → next_line s previous (Decorated d) ≡ refused n
        go true f e = absurd (never_refused e)
        go false f e = decoration_next a ∙ (rw f) ∙ ap refused (number_is e)

  -- ---- any line

  module _ (line : List ℕ) (o : Option Line) where
    pub next_line_lem : {u : Tally} (l : code.Option SheetLine) → Says t.types line l o → judged t l ≡ more u → Went s previous t line l o u
    unfolding judged
    next_line_lem (Some (says.Setting g)) w e = absurd (never_next e)
    next_line_lem {u} (Some (says.Declared ty n at)) w e =
        subst (λ (k : ℕ). Went s previous t line (Some (says.Declared ty k at)) o u) w.count
        (type_went ty w.members line at w.read w.told (ap (declared_by t ty) w.count ∙ e))
    next_line_lem (Some (says.Decorated d)) w e =
        let r = decoration_went d t.place m.place e in
        record { said = Decorated d; told = w; sheet = r.sheet; next = r.next; matches = r.matches; grows = r.grows }
    next_line_lem (Some (says.Asked a at)) w e = ask_went w e
    next_line_lem None w e = absurd (never_next e)

    pub line_stops : {n : ℕ} (l : code.Option SheetLine) → Says t.types line l o → judged t l ≡ stop n → (formed o >>= next_line s previous) ≡ refused n
    unfolding judged ◌>>=◌ next_line
    line_stops (Some (says.Setting g)) w e = rw w (ap refused (number_is e))
    line_stops (Some (says.Declared ty n at)) w e = type_stops ty w.members line at w.read w.told (ap (declared_by t ty) w.count ∙ e)
    line_stops (Some (says.Decorated d)) w e = rw w (decoration_stops d t.place m.place e)
    line_stops (Some (says.Asked a at)) w e = ask_stops w e
    line_stops None w e = rw w (ap refused (number_is e))

-- ---- the bounds that the counts keep

row_reads : (row : DeclRow) (d : MemberDecoration) → (row_by row d).read ≤ row.read + 1
unfolding row_by
row_reads row d = go (eqb row.refusal 0) d.decoration
  where
    inner : (a b : Bool) → (cond a (row_with row 13 row.read) (cond b (row_with row 14 row.read) (row_with row 0 (row.read + 1)))).read ≤ row.read + 1
    inner true b = omega arith
    inner false true = omega arith
    inner false false = omega arith

    go : (a : Bool) (c : Decoration) → (cond a (row_taking row d.member c) row).read ≤ row.read + 1
    go true RowMajor = omega arith
    go true (Offset value) = inner (ltb d.member row.read) (ltb row.read d.member)
    go false c = omega arith

-- a line adds one offset at most
pub reads_more : (t : Tally) (l : code.Option SheetLine) {u : Tally} → judged t l ≡ more u → read_in u.place ≤ read_in t.place + 1
unfolding judged declared_by decorated_by asked_by opened_by
reads_more t (Some (says.Setting g)) e = absurd (never_next e)
reads_more t (Some (says.Declared ty n at)) {u} e = go (ltb t.types max_types) (leb (t.members + n) max_members) (is_struct ty) e
  where
    place : (c : Bool) → read_in (cond c (Open (struct_row ty t.members n 0 0)) Closed) ≤ 0
    place true = omega arith
    place false = omega arith

    go : (a b c : Bool) → cond a (cond b (more record { setting = t.setting; types = t.types + 1; members = t.members + n; place = cond c (Open (struct_row ty t.members n 0 0)) Closed }) (stop oversize)) (stop oversize) ≡ more u
        → read_in u.place ≤ read_in t.place + 1
    go true true c e = rw (← next_is e) (omega (arith, place c))
    go true false c e = absurd (never_next e)
    go false b c e = absurd (never_next e)
reads_more t (Some (says.Decorated d)) {u} e = go t.place e
  where
    row_after : (row : DeclRow) → more (placed t (After (row_by row d) d)) ≡ more u → read_in u.place ≤ row.read + 1
    row_after row e = rw (← next_is e) (row_reads row d)

    go : (p : Place) → decorated_by t p d ≡ more u → read_in u.place ≤ read_in p + 1
    go Closed e = absurd (never_next e)
    go (Open row) e = row_after row e
    go (After row c) e = inner (before c d) e
      where
        inner : (b : Bool) → cond b (more (placed t (After (row_by row d) d))) (stop misread) ≡ more u → read_in u.place ≤ row.read + 1
        inner true e = row_after row e
        inner false e = absurd (never_next e)
reads_more t (Some (says.Asked a at)) {u} e = go (leb (count_of a) max_indices) e
  where
    go : (b : Bool) → cond b (more (placed t Closed)) (stop oversize) ≡ more u → read_in u.place ≤ read_in t.place + 1
    go true e = rw (← next_is e) (omega arith)
    go false e = absurd (never_next e)
reads_more t None e = absurd (never_next e)

-- a type that is not refused has few members
pub few_declared : (t : Tally) (ty : SpvType) (n at : ℕ) {u : Tally} → judged t (Some (says.Declared ty n at)) ≡ more u → n ≤ max_members
unfolding judged declared_by
few_declared t ty n at {u} e = go (ltb t.types max_types) (leb (t.members + n) max_members) refl e
  where
    go : (a b : Bool) → leb (t.members + n) max_members ≡ b
        → cond a (cond b (more record { setting = t.setting; types = t.types + 1; members = t.members + n; place = opened_by ty t.members n }) (stop oversize)) (stop oversize) ≡ more u → n ≤ max_members
    go true true f e = omega (arith, leb-true (t.members + n) max_members f)
    go true false f e = absurd (never_next e)
    go false b f e = absurd (never_next e)

-- a struct above is a type
pub some_type : {s : Sheet} {previous : Line} {t : Tally} → Matches s previous t → is_open t.place ≡ true → 1 ≤ t.types
some_type {s} {previous} {t} m e = go t.place m.place e
  where
    has : {row : DeclRow} {follows : MemberDecoration → Bool} → OpenAt s.types previous row follows → 1 ≤ t.types
    has a = omega (arith, m.types, ap length a.split, length-append a.above (a.last ∷ []))

    go : (p : Place) → Placed s.types previous p → is_open p ≡ true → 1 ≤ t.types
    go Closed a e = absurd (let z : ◌≡◌ {A = ℕ} 0 1 = cc in omega arith)
    go (Open row) a e = has a
    go (After row c) a e = has a

-- ---- line 1

-- a sheet of its setting alone
abbrev pub empty_sheet : LayoutConfig → Sheet
empty_sheet g = record { setting = g; types = []; questions = [] }

pub start_matches : (g : LayoutConfig) → Matches (empty_sheet g) (Setting g) (start_tally g)
start_matches g = record { setting = refl; types = refl; members = refl; place = refl }

module _ (line : List ℕ) (o : Option Line) where
  pub first_went : {u : Tally} (l : code.Option SheetLine) → Says 0 line l o → judged_first l ≡ more u → (u ≡ start_tally u.setting) × (o ≡ some (Setting u.setting)) × (first_line (Setting u.setting) ≡ ok (empty_sheet u.setting))
  unfolding judged_first set_by first_line ◌>>◌ refuse◌unless◌
  first_went {u} (Some (says.Setting g)) w e = go (good_setting g) refl e
    where
      good : {h : LayoutConfig} → good_setting h ≡ true → ((refuse bad_setting unless good_setting h) >> ok (empty_sheet h)) ≡ ok (empty_sheet h)
      good {h} f = rw f

      go : (b : Bool) → good_setting g ≡ b → cond b (more (start_tally g)) (stop bad_setting) ≡ more u → (u ≡ start_tally u.setting) × (o ≡ some (Setting u.setting)) × (first_line (Setting u.setting) ≡ ok (empty_sheet u.setting))
      go true f e =
          let q : start_tally g ≡ u = next_is e in
          subst (λ (x : Tally). (x ≡ start_tally x.setting) × (o ≡ some (Setting x.setting)) × (first_line (Setting x.setting) ≡ ok (empty_sheet x.setting))) q
          (refl, w, good f)
      go false f e = absurd (never_next e)
  first_went (Some (says.Declared ty n at)) w e = absurd (never_next e)
  first_went (Some (says.Decorated d)) w e = absurd (never_next e)
  first_went (Some (says.Asked a at)) w e = absurd (never_next e)
  first_went None w e = absurd (never_next e)

  pub first_stops : {n : ℕ} (l : code.Option SheetLine) → Says 0 line l o → judged_first l ≡ stop n → (formed o >>= first_line) ≡ refused n
  unfolding judged_first set_by first_line ◌>>=◌ ◌>>◌ refuse◌unless◌
  first_stops {n} (Some (says.Setting g)) w e = rw w (go (good_setting g) e)
    where
      go : (b : Bool) → cond b (more (start_tally g)) (stop bad_setting) ≡ stop n → ((refuse bad_setting unless b) >> ok (empty_sheet g)) ≡ refused n
      go true e = absurd (never_refused e)
      go false e = ap refused (number_is e)
  first_stops (Some (says.Declared ty n at)) w e = rw w.told (ap refused (number_is e))
  first_stops (Some (says.Decorated d)) w e = rw w (ap refused (number_is e))
  first_stops (Some (says.Asked a at)) w e = rw w.told (ap refused (number_is e))
  first_stops None w e = rw w (ap refused (number_is e))
