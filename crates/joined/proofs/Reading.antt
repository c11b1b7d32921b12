-- The lists that reading writes hold the sheet's types. Assumes nothing.
use mathlib.Core.Path.{◌≡◌, ap, ◌∙◌}
use Rattle.arith.specs.Refusals.{Result}
use Rattle.sheet.specs.Sheet.{Sheet}
use Rattle.sheet.specs.Tables.{over, types_words, members_words, offsets_words}
use Rattle.reading.specs.Reads.{words_in}
use Rattle.laid.proofs.OfSheet.{sheet_tables}
use Rattle.joined.specs.Statements.{TablesOfReading}

pub tables_of_reading : TablesOfReading
tables_of_reading input s r se ty me gi se' ty' me' gi' reads e room h =
    let types : ty' ≡ over (types_words 0 s.types) ty = reads.types ∙ ap (λ (o : Result Sheet). over (words_in (λ x. types_words 0 x.types) o) ty) e in
    let members : me' ≡ over (members_words s.types) me = reads.members ∙ ap (λ (o : Result Sheet). over (words_in (λ x. members_words x.types) o) me) e in
    let given : gi' ≡ over (offsets_words s.types) gi = reads.given ∙ ap (λ (o : Result Sheet). over (words_in (λ x. offsets_words x.types) o) gi) e in
    rw (types, members, given) (sheet_tables s.types ty me gi room h)
