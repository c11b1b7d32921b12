-- Document 01, program `lay`: a line per question, of the questions of a sheet from a place on; and what a buffer of whole lines holds of them.
use Rattle.std.specs.Prelude.{ℕ, ◌+◌, ◌<◌, ◌≤◌, ◌≡◌, Bool, true, false, cond, List, [], ◌∷◌, ◌++◌, ◌⊎◌, leb, length, take}
use Rattle.std.proofs.lemmas.List.Edits.{sets}
use Rattle.spirv.specs.Questions.{Question}
use Rattle.sheet.specs.Sheet.{index_count, max_indices}
use Rattle.asking.specs.Questions.{questions_from}
use Rattle.answers.specs.Lines.{Source, answer_by}
use Rattle.answers.specs.Output.{text_of, lines_by}
use Rattle.listing.specs.declared.Filled.{Filled}

-- the questions in front of the first that has more than 255 indices: all, of a sheet that is read
unfoldable pub answerable : List Question → List Question
answerable [] = []
answerable (q ∷ qs) = cond (leb (index_count q) max_indices) (q ∷ answerable qs) []

abbrev pub lines_from : Source → (sheet : List ℕ) (at : ℕ) → List ℕ
lines_from x sheet at = lines_by (answer_by x) (answerable (questions_from sheet at))

-- ---- a buffer of whole lines

abbrev pub filled_with : (next bytes : ℕ) (more : Bool) → Filled
filled_with next bytes more = record { next = next; bytes = bytes; more = more }

-- the line of the first question from a place on
pub record FirstLine (x : Source) (sheet : List ℕ) (at : ℕ) (line : List ℕ) : Type 0 where
  pub question : Question
  pub rest : List Question
  pub first : answerable (questions_from sheet at) ≡ question ∷ rest
  pub is : line ≡ text_of (answer_by x question)

-- what was tried behind the lines that fit: where there are more the first of those that are left, which doesn't fit; else nothing is left
abbrev pub Left : Source → (sheet : List ℕ) (at room : ℕ) (more : Bool) (text tried : List ℕ) → Type 0
Left x sheet at room true text tried = FirstLine x sheet at tried × (room < length text + length tried)
Left x sheet at room false text tried = (lines_from x sheet at ≡ []) × (tried ≡ [])

-- nothing is written, or the place lies behind
abbrev pub Moved : (sheet : List ℕ) (from next bytes : ℕ) → Type 0
Moved sheet from next bytes = ((next ≡ from) × (bytes ≡ 0)) ⊎ ((from < next) × (next ≤ length sheet))

-- so many bytes in front of the buffer are the lines of questions that, with those from `next` on, are all from `from` on
pub record Fills (x : Source) (sheet : List ℕ) (from : ℕ) (r : Filled) (old new : List ℕ) : Type 0 where
  pub done : List Question
  pub tried : List ℕ
  pub bytes : r.bytes ≡ length (lines_by (answer_by x) done)
  pub fits : r.bytes ≤ length old
  pub asked : done ++ answerable (questions_from sheet r.next) ≡ answerable (questions_from sheet from)
  pub list : new ≡ sets old 0 (lines_by (answer_by x) done ++ tried)
  pub left : Left x sheet r.next (length old) r.more (lines_by (answer_by x) done) tried
  pub moved : Moved sheet from r.next r.bytes

-- what the buffers hold of which the last says that there are no more, each from where the one before it ended
pub data Streamed (x : Source) (sheet : List ℕ) : ℕ → List ℕ → Type 0 where
  last : {from : ℕ} {r : Filled} {old new : List ℕ} → Fills x sheet from r old new → r.more ≡ false → Streamed x sheet from (take r.bytes new)
  then : {from : ℕ} {r : Filled} {old new rest : List ℕ} → Fills x sheet from r old new → r.more ≡ true → Streamed x sheet r.next rest
      → Streamed x sheet from (take r.bytes new ++ rest)

-- the pieces add up
abbrev pub Pieces : Type 0
Pieces = (x : Source) (sheet : List ℕ) (from : ℕ) (text : List ℕ) → Streamed x sheet from text → text ≡ lines_from x sheet from

-- where the buffer holds the next line, some of the lines are written
abbrev pub Advances : Type 0
Advances =
    (x : Source) (sheet : List ℕ) (from : ℕ) (r : Filled) (old new : List ℕ) → Fills x sheet from r old new → r.more ≡ true
    → ((line : List ℕ) → FirstLine x sheet from line → length line ≤ length old) → from < r.next
