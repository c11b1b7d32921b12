-- The lines of a sheet from the top: what the loop of a pass keeps. Assumes nothing.
use Prim.Native.Nat.{ℕ, ◌+◌, ◌-◌, ◌≤◌, ◌<◌}
use native.Mathlib.Omega.{arith}
use mathlib.Core.Path.{◌≡◌, refl, sym, ap, ◌∙◌, subst}
use mathlib.Core.Bool.{Bool, true, false}
use mathlib.Core.List.{List, [], ◌∷◌}
use mathlib.Core.Option.{some}
use borrow.Author.Tests.{lt-ltb, le-ltb}
use lib.ListN.{length, drop, length-drop}
use lib.Seq.{length-sets}
use Rattle.arith.specs.Refusals.{Result, ok, refused, ◌>>=◌, misread}
use Rattle.std.specs.Prelude.{Ok, Some, None}
use Rattle.std.specs.Prelude as std
use Rattle.arith.specs.InCode.{OrRefusal, err}
use Rattle.arith.proofs.Results.{value_is, number_is, never, not_both}
use Rattle.decimal.specs.Text.{split}
use Rattle.sheet.specs.Grammar.{Line, Setting, read_line}
use Rattle.sheet.specs.Sheet.{Sheet, next_line, first_line, formed, finished, read_lines, read_pieces}
use Rattle.sheet.specs.Tables.{types_words, members_words, offsets_words}
use Rattle.fields.specs.Lines.{Ahead}
use Rattle.fields.proofs.Pieces.{split_some}
use Rattle.lines.specs.declared.SheetLine.{SheetLine}
use Rattle.lines.specs.declared.SheetLine.TheVariants as says
use Rattle.lines.specs.Says.{Says}
use Rattle.tally.specs.declared.Tally.{Tally}
use Rattle.tally.specs.Counts.{read_in, Small, judged, judged_first}
use Rattle.tally.proofs.Went.{Matches}
use Rattle.tally.proofs.Steps.{next_line_lem, line_stops, reads_more, few_declared, some_type, first_went, first_stops}
use Rattle.reading.specs.declared.Counts.{Counts}
use Rattle.puts.specs.Puts.{Untouched, Filled, declared_count, Putable, Put, Wrote}
use Rattle.reading.specs.Reads.{empty_sheet, end_of, finished_by, Passed}
use Rattle.puts.proofs.Grown.{grown}

-- ---- a line of several

-- two steps where the first two are refused
bind_refused : {A B C : Type 0} {n : ℕ} (r : Result A) (f : A → Result B) (g : A → B → Result C) → (r >>= f) ≡ refused n → (r >>= (λ a. f a >>= g a)) ≡ refused n
unfolding ◌>>=◌
bind_refused {A} {B} {C} {n} (ok a) f g e = go (f a) e
  where
    go : (x : Result B) → x ≡ refused n → (x >>= g a) ≡ refused n
    go (ok b) e = absurd (not_both e)
    go (refused m) e = ap refused (number_is e)
bind_refused (refused m) f g e = ap refused (number_is e)

lines_refused : {n : ℕ} (s : Sheet) (previous : Line) (line more : List ℕ) (rest : List (List ℕ))
    → (formed (read_line (length s.types) line) >>= next_line s previous) ≡ refused n → read_lines s previous (line ∷ more ∷ rest) ≡ refused n
unfolding read_lines
lines_refused s previous line more rest e = bind_refused (formed (read_line (length s.types) line)) (next_line s previous) (λ l t. read_lines t l (more ∷ rest)) e

lines_read : (s t : Sheet) (previous l : Line) (line more : List ℕ) (rest : List (List ℕ))
    → read_line (length s.types) line ≡ some l → next_line s previous l ≡ ok t → read_lines s previous (line ∷ more ∷ rest) ≡ read_lines t l (more ∷ rest)
unfolding read_lines ◌>>=◌
lines_read s t previous l line more rest p q = rw (p, q)

pieces_refused : {n : ℕ} (line more : List ℕ) (rest : List (List ℕ)) → (formed (read_line 0 line) >>= first_line) ≡ refused n → read_pieces (line ∷ more ∷ rest) ≡ refused n
unfolding read_pieces
pieces_refused line more rest e = bind_refused (formed (read_line 0 line)) first_line (λ l s. read_lines s l (more ∷ rest)) e

pieces_read : (s : Sheet) (l : Line) (line more : List ℕ) (rest : List (List ℕ)) → read_line 0 line ≡ some l → first_line l ≡ ok s → read_pieces (line ∷ more ∷ rest) ≡ read_lines s l (more ∷ rest)
unfolding read_pieces ◌>>=◌
pieces_read s l line more rest p q = rw (p, q)

-- ---- some lines were read

-- up to index at of s: they make a sheet, whose counts are t and whose tables, where they are to be written, stand in the lists; what is left makes of it what o is
pub record Reached (s : List ℕ) (write : Bool) (o : Result Sheet) (ty₀ me₀ gi₀ : List ℕ) (at : ℕ) (t : Tally) (ty me gi : List ℕ) : Type 0 where
  pub sheet : Sheet
  pub previous : Line
  pub matches : Matches sheet previous t
  pub within : at ≤ length s
  pub few : read_in t.place ≤ at
  pub left : o ≡ read_lines sheet previous (split 10 (drop at s))
  pub untouched : write ≡ false → Untouched ty₀ me₀ gi₀ ty me gi
  pub filled : write ≡ true → Filled sheet.types ty₀ me₀ gi₀ ty me gi

-- a pass that writes has put a line, and one that only judges has left the lists
opposite : true ≡ false → ⊥
opposite h = let z : ◌≡◌ {A = ℕ} 0 1 = cc in omega arith

module _ {write : Bool} {t : Tally} {line : List ℕ} {l : std.Option SheetLine} {ty me gi : List ℕ} where
  pub written : {ty' me' gi' : List ℕ} → write ≡ true → Put t line l ty me gi ty' me' gi' → Wrote write t line l ty me gi ty' me' gi'
  written e p = record { yes = λ h. p; no = λ h. absurd (opposite (sym e ∙ h)) }

  pub passed_over : write ≡ false → Wrote write t line l ty me gi ty me gi
  passed_over e = record { yes = λ h. absurd (opposite (sym h ∙ e)); no = λ h. record { types = refl; members = refl; given = refl } }

-- the counts that a pass tells
abbrev counts : Tally → Counts
counts t = record { setting = t.setting; types = t.types; members = t.members }

-- the lists keep their lengths
pub record Sizes (ty₀ me₀ gi₀ ty me gi : List ℕ) : Type 0 where
  pub types : length ty ≡ length ty₀
  pub members : length me ≡ length me₀
  pub given : length gi ≡ length gi₀

module _ {s : List ℕ} {write : Bool} {o : Result Sheet} {ty₀ me₀ gi₀ : List ℕ} {at : ℕ} {t : Tally} {ty me gi : List ℕ} (w : Reached s write o ty₀ me₀ gi₀ at t ty me gi) where
  pub sizes : Sizes ty₀ me₀ gi₀ ty me gi
  sizes = go write refl
    where
      go : (b : Bool) → write ≡ b → Sizes ty₀ me₀ gi₀ ty me gi
      go true e = let f = w.filled e in record {
        types = ap length f.types ∙ length-sets ty₀ 0 (types_words 0 w.sheet.types);
        members = ap length f.members ∙ length-sets me₀ 0 (members_words w.sheet.types);
        given = ap length f.given ∙ length-sets gi₀ 0 (offsets_words w.sheet.types);
      }
      go false e = let u = w.untouched e in record { types = ap length u.types; members = ap length u.members; given = ap length u.given }

  pub small : length s ≤ 65536 → Small t
  small h = record { read = omega (arith, w.few, w.within); some_type = some_type w.matches }

  pub putable : length s ≤ 65536 → (l : std.Option SheetLine) {u : Tally} → judged t l ≡ Ok u → Putable t l
  putable h l {u} e = record { few = go l e; small = small h }
    where
      go : (l : std.Option SheetLine) → judged t l ≡ Ok u → declared_count l ≤ 1024
      go (Some (says.Setting g)) e = omega arith
      go (Some (says.Declared ty n at)) e = few_declared t ty n at e
      go (Some (says.Decorated d)) e = omega arith
      go (Some (says.Asked a at)) e = omega arith
      go None e = omega arith

  -- a refusal leaves what was written so far to nobody
  pub stopped : {n : ℕ} → o ≡ refused n → Passed write o (err n) ty₀ me₀ gi₀ ty me gi
  unfolding end_of
  stopped {n} e = record { answer = rw e; untouched = w.untouched; filled = λ x y z. absurd (never (sym e ∙ z)) }

  done : o ≡ ok w.sheet → Passed write o (Ok (counts t)) ty₀ me₀ gi₀ ty me gi
  unfolding end_of
  done e = record {
    answer = rw (e, w.matches.setting, w.matches.types, w.matches.members);
    untouched = w.untouched;
    filled = λ x y z. let q : w.sheet ≡ x = value_is (sym e ∙ z) in subst (λ (k : Sheet). Filled k.types ty₀ me₀ gi₀ ty me gi) q (w.filled y);
  }

  -- behind the last LF
  pub ended : split 10 (drop at s) ≡ drop at s ∷ [] → {r : OrRefusal Counts} → r ≡ finished_by (length s - at) t → Passed write o r ty₀ me₀ gi₀ ty me gi
  unfolding finished_by read_lines
  ended h {r} q = go (drop at s) refl
    where
      is : (last : List ℕ) → drop at s ≡ last → o ≡ finished w.sheet last
      is last g = w.left ∙ ap (read_lines w.sheet w.previous) (h ∙ ap (λ (x : List ℕ). x ∷ []) g)

      go : (last : List ℕ) → drop at s ≡ last → Passed write o r ty₀ me₀ gi₀ ty me gi
      go [] g =
          let n : length s - at ≤ 0 = omega (arith, length-drop at s, ap length g) in
          let z : r ≡ Ok (counts t) = q ∙ (rw (le-ltb 0 (length s - at) n)) in
          rw z (done (is [] g))
      go (b ∷ bs) g =
          let n : 0 < length s - at = omega (arith, length-drop at s, ap length g) in
          let z : r ≡ err misread = q ∙ (rw (lt-ltb 0 (length s - at) n)) in
          rw z (stopped (is (b ∷ bs) g))

  module _ {line : List ℕ} (p : Ahead s at line) where
    -- a line is followed by another piece, if only by an empty one
    pieces : (more : List ℕ) × (rest : List (List ℕ)) × (split 10 (drop (at + (length line + 1)) s) ≡ more ∷ rest) × (o ≡ read_lines w.sheet w.previous (line ∷ more ∷ rest))
    pieces =
        let q = split_some 10 (drop (at + (length line + 1)) s) in
        (q.0, q.1, q.2, w.left ∙ ap (read_lines w.sheet w.previous) (p.pieces ∙ ap (λ (x : List (List ℕ)). line ∷ x) q.2))

    module _ (l : std.Option SheetLine) (y : Says t.types line l (read_line t.types line)) where
      pub refusal : {n : ℕ} → judged t l ≡ err n → o ≡ refused n
      refusal {n} j =
          let c = pieces in
          let f = line_stops w.matches line (read_line t.types line) l y j in
          c.3 ∙ lines_refused w.sheet w.previous line c.0 c.1 (subst (λ (k : ℕ). (formed (read_line k line) >>= next_line w.sheet w.previous) ≡ refused n) w.matches.types f)

      pub onward : {u : Tally} {ty' me' gi' : List ℕ} → judged t l ≡ Ok u → Wrote write t line l ty me gi ty' me' gi' → Reached s write o ty₀ me₀ gi₀ (at + (length line + 1)) u ty' me' gi'
      onward {u} {ty'} {me'} {gi'} j v =
          let c = pieces in
          let f = next_line_lem w.matches line (read_line t.types line) l y j in
          let told = subst (λ (k : ℕ). read_line k line ≡ some f.said) w.matches.types f.told in
          record {
            sheet = f.sheet;
            previous = f.said;
            matches = f.matches;
            within = omega (arith, p.within);
            few = omega (arith, reads_more t l j, w.few);
            left = c.3 ∙ lines_read w.sheet f.sheet w.previous f.said line c.0 c.1 told f.next ∙ ap (read_lines f.sheet f.said) (sym c.2);
            untouched = λ b. let a = w.untouched b in let d = v.no b in record { types = d.types ∙ a.types; members = d.members ∙ a.members; given = d.given ∙ a.given };
            filled = λ b. grown t line l w.matches.types w.matches.members f.grows (w.filled b) (v.yes b);
          }

-- ---- line 1

-- a sheet without any LF
pub no_first : (s : List ℕ) → split 10 s ≡ s ∷ [] → read_pieces (split 10 s) ≡ refused misread
unfolding read_pieces
no_first s h = rw h

module _ {s line : List ℕ} (p : Ahead s 0 line) (l : std.Option SheetLine) (y : Says 0 line l (read_line 0 line)) where
  pieces_first : (more : List ℕ) × (rest : List (List ℕ)) × (split 10 (drop (length line + 1) s) ≡ more ∷ rest) × (split 10 s ≡ line ∷ more ∷ rest)
  pieces_first =
      let q = split_some 10 (drop (length line + 1) s) in
      let z : 0 + (length line + 1) ≡ length line + 1 = omega arith in
      (q.0, q.1, q.2, p.pieces ∙ ap (λ (i : ℕ). line ∷ split 10 (drop i s)) z ∙ ap (λ (x : List (List ℕ)). line ∷ x) q.2)

  pub first_refused : {n : ℕ} → judged_first l ≡ err n → read_pieces (split 10 s) ≡ refused n
  first_refused j =
      let c = pieces_first in
      ap read_pieces c.3 ∙ pieces_refused line c.0 c.1 (first_stops line (read_line 0 line) l y j)

  pub first_read : {u : Tally} → judged_first l ≡ Ok u → read_pieces (split 10 s) ≡ read_lines (empty_sheet u.setting) (Setting u.setting) (split 10 (drop (length line + 1) s))
  first_read {u} j =
      let c = pieces_first in
      let f = first_went line (read_line 0 line) l y j in
      ap read_pieces c.3 ∙ pieces_read (empty_sheet u.setting) (Setting u.setting) line c.0 c.1 f.1 f.2 ∙ ap (read_lines (empty_sheet u.setting) (Setting u.setting)) (sym c.2)

-- a pass that is refused at once
pub at_once : {write : Bool} {o : Result Sheet} {n : ℕ} (ty me gi : List ℕ) → o ≡ refused n → Passed write o (err n) ty me gi ty me gi
unfolding end_of
at_once ty me gi e = record { answer = rw e; untouched = λ b. record { types = refl; members = refl; given = refl }; filled = λ x y z. absurd (never (sym e ∙ z)) }
