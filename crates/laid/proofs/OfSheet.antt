-- The tables of a sheet hold its types, and what they answer is what the sheet answers. Assumes nothing.
use Prim.Native.Nat.{ℕ, zero, suc}
use mathlib.Core.Path.{◌≡◌, refl, sym, ap, ◌∙◌, fun_ext}
use mathlib.Core.Bool.{Bool, true, false}
use mathlib.Core.List.{List, [], ◌∷◌, ◌++◌}
use native.Mathlib.Omega.{arith}
use lib.Dec.{ltb}
use lib.ListN.{length, get_or, get_elem?, drop, length-append, get_or-map}
use borrow.Author.Tests.{lt-ltb, le-ltb, ltb-true, ltb-false}
use Rattle.arith.specs.Refusals.{Result, refused, ◌>>◌, refuse◌unless◌, misread}
use Rattle.spirv.specs.Decl.{Decl}
use Rattle.shapes.specs.Rows.{answer_at, flat}
use Rattle.shapes.specs.Spans.{answer_over}
use Rattle.arith.specs.InCode.{err}
use Rattle.shapes.proofs.RowLaws.{answer_of_list}
use Rattle.sheet.specs.Sheet.{declared}
use Rattle.sheet.specs.Tables.{members_words, offsets_words}
use Rattle.sheet.proofs.Tables.{members_length, offsets_length, spans, read_back}
use Rattle.layout.specs.Arrays as arrays
use Rattle.layout.specs.Layouts.{answer_in}
use Rattle.layout.specs.Lookup.{lookup_by}
use Rattle.records.proofs.Filled.{records_length}
use Rattle.laid.specs.Statements.{SheetTables, answers_of, offsets_of, RowsOfSheet, LookupsOfSheet}
use Rattle.laid.proofs.AllTypes.{laid_out}

pub sheet_tables : SheetTables
sheet_tables ds t₀ m₀ g₀ room h =
    let r = read_back ds in
    record {
      row = r.row t₀;
      span = λ t d e.
          let i = (spans ds).inside t d e in
          let m = members_length ds in
          let g = offsets_length ds in
          let a = length-append (members_words ds) (drop (length (members_words ds)) m₀) in
          let b = length-append (offsets_words ds) (drop (length (offsets_words ds)) g₀) in
          record {
            members_there = r.members m₀ t d e;
            given_there = r.given g₀ t d e;
            in_members = omega arith;
            in_given = omega arith;
            in_room_lem = omega arith;
          };
    }

pub rows_of_sheet : RowsOfSheet
unfolding answer_in
rows_of_sheet s types members given offsets rest tables t =
    let rs = answers_of s types members given offsets in
    let n = records_length s.setting types members given offsets (length s.types) in
    let os = offsets_of s types members given offsets in
    ap (λ (k : ℕ). answer_over os members (answer_at (flat rs ++ rest) k t)) (sym n)
    ∙ ap (answer_over os members) (answer_of_list rs rest t)
    ∙ sym (get_or-map (answer_over os members) rs t (err misread))
    ∙ ap (λ (l : List arrays.Answer). get_or l t (refused misread)) (laid_out s.setting s.types types members given offsets tables)

-- a number that is no type
one_less : (t n : ℕ) → ltb (suc t) (suc n) ≡ ltb t n
one_less t n = by (ltb t n) refl
  where
    by : (b : Bool) → ltb t n ≡ b → ltb (suc t) (suc n) ≡ b
    by true e = lt-ltb (suc t) (suc n) (omega (arith, ltb-true t n e))
    by false e = le-ltb (suc t) (suc n) (omega (arith, ltb-false t n e))

pub type_test : {A : Type 0} (ds : List Decl) (t : ℕ) (next : Result A) → ((refuse misread unless ltb t (length ds)) >> next) ≡ (declared (get_elem? ds t) >> next)
unfolding ◌>>◌ refuse◌unless◌
type_test [] t next = rw (le-ltb t 0 (omega arith))
type_test (d ∷ ds) zero next = rw (lt-ltb 0 (length (d ∷ ds)) (omega arith))
type_test (d ∷ ds) (suc t) next = rw (one_less t (length ds)) (type_test ds t next)

pub lookups_of_sheet : LookupsOfSheet
lookups_of_sheet s types members given offsets rest tables t start end =
    ap (λ (answer-of : ℕ → arrays.Answer). lookup_by (length s.types) answer-of t start end) (fun_ext λ u. rows_of_sheet s types members given offsets rest tables u)
