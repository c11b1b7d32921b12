-- Document 01, program `lay`: the answers of T, E and Q by what stands in tables of layouts.
use Rattle.std.specs.Prelude.{ℕ, Bool, List, ◌∷◌, map, length, Ok, Err}
use Rattle.arith.specs.Refusals.{Result, ok, ◌>>=◌, in_room}
use Rattle.arith.specs.InCode.{OrRefusal}
use Rattle.decimal.specs.Text.{bytes}
use Rattle.decimal.specs.Decimal.{decimal}
use Rattle.components.specs.Found.{answers_in, lookup_in}
use Rattle.answers.specs.Lines.{AnswerLine, layout_line, equal_line}
use Rattle.printing.specs.Texts.{equal_text, refusal_text}

-- the text of E by what was found
abbrev pub equal_or_refusal : OrRefusal Bool → List ℕ
equal_or_refusal (Ok same) = equal_text same
equal_or_refusal (Err e) = refusal_text e.number

module _ (layouts : List ℕ) (n : ℕ) (offsets members : List ℕ) where
  abbrev pub layout_reply : (type : ℕ) → Result AnswerLine
  layout_reply t = do
    l ← answers_in layouts n offsets members t
    ok (layout_line l)

  abbrev pub equal_reply : (first second : ℕ) → Result AnswerLine
  equal_reply first second = do
    a ← answers_in layouts n offsets members first
    b ← answers_in layouts n offsets members second
    ok (equal_line a b)

  -- Q into a list of 1,024 places: 24 where there are more, which no sheet's tables have
  abbrev pub found_in_room : (type start end : ℕ) → Result (List ℕ)
  found_in_room t start end = in_room 1024 length (lookup_in layouts n offsets members t start end)

  abbrev pub components_reply : (type start end : ℕ) → Result AnswerLine
  components_reply t start end = do
    found ← found_in_room t start end
    ok (bytes "q" ∷ map decimal found)
