-- What a table that was read tells of pointers and types is what its sheet says. Assumes nothing.
use Prim.Native.Nat.{ℕ, ◌*◌}
use mathlib.Core.Path.{◌≡◌, fun_ext}
use mathlib.Core.List.{List}
use lib.ListN.{length, drop, replicate}
use Rattle.arith.specs.Refusals.{Result}
use Rattle.sheet.specs.Sheet.{Sheet, pointee_in}
use Rattle.layout.specs.Arrays.{Answer}
use Rattle.layout.specs.Layouts.{answer_in}
use Rattle.components.specs.Found.{answers_in}
use Rattle.laid.proofs.OfSheet.{rows_of_sheet}
use Rattle.pointers.specs.OverTables.{pointee_at}
use Rattle.joined.proofs.Pointers.{pointees_of_sheet}
use Rattle.flat.specs.Table.{count_in, types_in, members_in, places_in, layouts_in, types_part, members_part, given_part}
use Rattle.flat.proofs.Parts.{Read}

module _ {input table : List ℕ} {n : ℕ} (r : Read input table n) where
  abbrev s : Sheet
  s = r.sheet

  pub pointees : ◌≡◌ {A = ℕ → Result ℕ} (pointee_at (types_in table) (count_in table)) (pointee_in s)
  pointees = rw (r.parts.types, r.parts.count) (fun_ext λ ptr. pointees_of_sheet s (types_part s) (members_part s) (given_part s) 1024 r.tables ptr)

  pub answers : ◌≡◌ {A = ℕ → Answer} (answers_in (layouts_in table) (count_in table) (places_in table) (members_in table)) (answer_in s)
  answers =
      rw (r.parts.layouts, r.sizes.rows, r.parts.count, r.parts.places, r.parts.members)
      (fun_ext λ t. rows_of_sheet s (types_part s) (members_part s) (given_part s) (replicate 1024 0) (drop (10 * length s.types) (replicate 2560 0)) r.tables t)
