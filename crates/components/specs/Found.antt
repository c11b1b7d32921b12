-- Document 01, "Lookup on elements" and "On fields", and Q's refusals, over the tables.
use Rattle.std.specs.Prelude.{ℕ, List, [], ◌∷◌, length, Option, Some, None, Ok}
use Rattle.std.proofs.lemmas.List.Edits.{sets}
use Rattle.arith.specs.InCode.{OrRefusal, err}
use Rattle.arith.specs.Pairs.{both}
use Rattle.arith.specs.Refusals.{Result, ok, refused, in_room}
use Rattle.shapes.specs.declared.Components.{Components}
use Rattle.shapes.specs.Spans.{spans_of, parts_by, answer_over}
use Rattle.shapes.specs.Rows.{answer_at}
use Rattle.layout.specs.Arrays.{Answer}
use Rattle.layout.specs.Lookup.{components_containing, lookup_by}

-- what a type answers, from the tables
abbrev pub answers_in : (layouts : List ℕ) (n : ℕ) (offsets members : List ℕ) → ℕ → Answer
answers_in layouts n offsets members t = answer_over offsets members (answer_at layouts n t)

-- the components of a layout that hold a range of bytes
abbrev pub found_in : (layouts : List ℕ) (n : ℕ) (offsets members : List ℕ) → Components → (start end : ℕ) → List ℕ
found_in layouts n offsets members c start end = components_containing (answers_in layouts n offsets members) (parts_by (spans_of offsets members) c) start end

-- Q over the tables
abbrev pub lookup_in : (layouts : List ℕ) (n : ℕ) (offsets members : List ℕ) → (type start end : ℕ) → Result (List ℕ)
lookup_in layouts n offsets members t start end = lookup_by n (answers_in layouts n offsets members) t start end

-- ---- as the code answers

unfoldable pub held_element : List ℕ → Option ℕ
held_element [] = None
held_element (i ∷ rest) = Some i

-- how many are found, and the list with them; what lies past its end is left out
unfoldable pub counted : (out found : List ℕ) → ℕ × List ℕ
counted out found = both (length found) (sets out 0 found)

-- the answer, and the list afterwards: untouched where the question is refused
unfoldable pub lookup_both : (out : List ℕ) → Result (List ℕ) → OrRefusal ℕ × List ℕ
lookup_both out (ok found) = both (Ok (length found)) (sets out 0 found)
lookup_both out (refused n) = both (err n) out

abbrev pub answered_in : (out : List ℕ) → Result (List ℕ) → OrRefusal ℕ × List ℕ
answered_in out r = lookup_both out (in_room (length out) length r)
