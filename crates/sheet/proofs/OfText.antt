-- What is asked of the sheet that a text is: the form of the examples by computation. Assumes nothing.
use Prim.Native.String.{String}
use Rattle.arith.specs.Refusals.{Result, ok, refused}
use Rattle.decimal.specs.Text.{bytes}
use Rattle.sheet.specs.Sheet.{Sheet, read_sheet}

abbrev pub of_sheet : {A : Type 0} → Result Sheet → (Sheet → A) → Result A
of_sheet (ok s) ask = ok (ask s)
of_sheet (refused n) ask = refused n

abbrev pub of : {A : Type 0} → String → (Sheet → A) → Result A
of text ask = of_sheet (read_sheet (bytes text)) ask
