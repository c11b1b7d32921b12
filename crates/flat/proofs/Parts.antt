-- The parts of a table that was read are the sheet's. Assumes nothing.
use Prim.Native.Nat.{ℕ, ◌+◌}
use native.Mathlib.Omega.{arith}
use mathlib.Core.Path.{◌≡◌, refl, ap, ◌∙◌}
use mathlib.Core.List.{List, [], ◌∷◌, ◌++◌, append_assoc}
use lib.ListN.{length, drop, replicate}
use lib.Seq.{drop-append-add, take_at}
use Rattle.arith.specs.Refusals.{Result, ok, refused, in_room}
use Rattle.arith.proofs.Results.{went, passed, value_is}
use Rattle.shapes.specs.Spans.{span_of}
use Rattle.sheet.specs.Sheet.{Sheet, read_sheet}
use Rattle.sheet.specs.Tables.{over, setting_words}
use Rattle.sheet.proofs.GoodSheet.{reads_good}
use Rattle.std.specs.Prelude.{Ok}
use Rattle.reading.specs.Reads.{told, words_in}
use Rattle.laid.specs.Statements.{Tables}
use Rattle.laid.proofs.OfSheet.{sheet_tables}
use Rattle.joined.proofs.Made.{setting_back}
use Rattle.flat.specs.Table.{count_in, setting_in, types_in, members_in, given_in, places_in, layouts_in, types_part, members_part, given_part, places_part, layouts_part, table_words}
use Rattle.flat.specs.Reads.{read_in, ReadsTable}
use Rattle.flat.proofs.Laws.{Sized, sized}

-- ---- one of the parts that stand one behind the other

skip : (a b : List ℕ) (n k m : ℕ) → length a ≡ n → span_of (a ++ b) (n + k) m ≡ span_of b k m
skip a b n k m e = rw (← e, drop-append-add a b k)

here : (a b : List ℕ) (m : ℕ) → length a ≡ m → span_of (a ++ b) 0 m ≡ a
here a b m e = take_at a b m e

pub record Parts (s : Sheet) (table : List ℕ) : Type 0 where
  pub count : count_in table ≡ length s.types
  pub setting : setting_in table ≡ s.setting
  pub types : types_in table ≡ types_part s
  pub members : members_in table ≡ members_part s
  pub given : given_in table ≡ given_part s
  pub places : places_in table ≡ places_part s
  pub layouts : layouts_in table ≡ layouts_part s

module _ (s : Sheet) (z : Sized s) (rest : List ℕ) where
  abbrev from_layouts : List ℕ
  from_layouts = layouts_part s ++ rest

  abbrev from_places : List ℕ
  from_places = places_part s ++ from_layouts

  abbrev from_given : List ℕ
  from_given = given_part s ++ from_places

  abbrev from_members : List ℕ
  from_members = members_part s ++ from_given

  abbrev from_types : List ℕ
  from_types = types_part s ++ from_members

  abbrev from_setting : List ℕ
  from_setting = setting_words s.setting ++ from_types

  abbrev from_count : List ℕ
  from_count = (length s.types ∷ []) ++ from_setting

  apart : table_words s ++ rest ≡ from_count
  unfolding table_words
  apart =
      let g = places_part s ++ layouts_part s in
      let f = given_part s ++ g in
      let e = members_part s ++ f in
      let d = types_part s ++ e in
      ap (λ (l : List ℕ). (length s.types ∷ []) ++ (setting_words s.setting ++ l))
      (append_assoc (types_part s) e rest
      ∙ ap (λ (l : List ℕ). types_part s ++ l) (append_assoc (members_part s) f rest
      ∙ ap (λ (l : List ℕ). members_part s ++ l) (append_assoc (given_part s) g rest
      ∙ ap (λ (l : List ℕ). given_part s ++ l) (append_assoc (places_part s) (layouts_part s) rest))))

  at_types : (k m : ℕ) → span_of from_count (7 + k) m ≡ span_of from_types k m
  at_types k m = skip ((length s.types ∷ []) ++ setting_words s.setting) from_types 7 k m refl

  at_members : (k m : ℕ) → span_of from_count (7 + (1536 + k)) m ≡ span_of from_members k m
  at_members k m = at_types (1536 + k) m ∙ skip (types_part s) from_members 1536 k m z.types

  at_given : (k m : ℕ) → span_of from_count (7 + (1536 + (1024 + k))) m ≡ span_of from_given k m
  at_given k m = at_members (1024 + k) m ∙ skip (members_part s) from_given 1024 k m z.members

  at_places : (k m : ℕ) → span_of from_count (7 + (1536 + (1024 + (1024 + k)))) m ≡ span_of from_places k m
  at_places k m = at_given (1024 + k) m ∙ skip (given_part s) from_places 1024 k m z.given

  at_layouts : (k m : ℕ) → span_of from_count (7 + (1536 + (1024 + (1024 + (1024 + k))))) m ≡ span_of from_layouts k m
  at_layouts k m = at_places (1024 + k) m ∙ skip (places_part s) from_layouts 1024 k m z.places

  pub parts_of : Parts s (table_words s ++ rest)
  parts_of = rw apart (record {
    count = refl;
    setting = setting_back s.setting [];
    types = at_types 0 1536 ∙ here (types_part s) from_members 1536 z.types;
    members = at_members 0 1024 ∙ here (members_part s) from_given 1024 z.members;
    given = at_given 0 1024 ∙ here (given_part s) from_places 1024 z.given;
    places = at_places 0 1024 ∙ here (places_part s) from_layouts 1024 z.places;
    layouts = at_layouts 0 2560 ∙ here (layouts_part s) rest 2560 z.layouts;
  })

-- ---- a table that was read

pub record Read (input table : List ℕ) (n : ℕ) : Type 0 where
  pub sheet : Sheet
  pub is_sheet : read_sheet input ≡ ok sheet
  pub types : n ≡ length sheet.types
  pub parts : Parts sheet table
  pub sizes : Sized sheet
  pub tables : Tables sheet.types (types_part sheet) (members_part sheet) (given_part sheet) 1024

pub was_read : (input : List ℕ) (n : ℕ) (table₀ table : List ℕ) → ReadsTable input (Ok n) table₀ table → Read input table n
unfolding in_room
was_read input n table₀ table x = by (read_in (length table₀) input) refl x.answer
  where
    by : (o : Result Sheet) → read_in (length table₀) input ≡ o → Ok n ≡ told o → Read input table n
    by (refused e) i t = absurd (let z : ◌≡◌ {A = ℕ} 0 1 = cc in omega arith)
    by (ok s) i t =
        let w = went (read_sheet input) _ i in
        let same : w.value ≡ s = value_is (passed _ _ w.rest) in
        let read : read_sheet input ≡ ok s = w.here ∙ ap ok same in
        let words : table ≡ over (table_words s) table₀ = x.words ∙ ap (λ (r : Result Sheet). over (words_in table_words r) table₀) i in
        let z = sized input s read in
        record {
          sheet = s;
          is_sheet = read;
          types = cc;
          parts = rw words (parts_of s z (drop (length (table_words s)) table₀));
          sizes = z;
          tables = sheet_tables s.types (replicate 1536 0) (replicate 1024 0) (replicate 1024 0) 1024 (reads_good input s read).few_members;
        }
