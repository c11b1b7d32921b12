-- Document 01, program `lay`, a buffer at a time: what the buffers hold adds up to what the whole sheet is answered.
use Rattle.std.specs.Prelude.{ℕ, ◌≤◌, ◌<◌, ◌≡◌, true, List, ◌++◌, length, Ok}
use Rattle.arith.specs.InCode.{OrRefusal}
use Rattle.spirv.specs.Questions.{Question}
use Rattle.sheet.specs.Sheet.{Sheet, max_members}
use Rattle.asking.specs.Questions.{questions_from}
use Rattle.answers.specs.Lines.{Source}
use Rattle.answers.specs.Output.{lay_output}
use Rattle.answering.specs.OfTables.{of_tables}
use Rattle.listing.specs.declared.Filled.{Filled}
use Rattle.listing.specs.Listing.{answerable, Fills, Streamed}
use Rattle.longest.specs.Statements.{longest}
use Rattle.prepared.specs.declared.Ready.{Ready}
use Rattle.prepared.specs.Prepared.{Prepares}
use Rattle.prepared.specs.Statements.{Roomy, Readied}

abbrev pub StreamedSheet : Type 0
StreamedSheet =
    (input : List ℕ) (r : OrRefusal Ready) (ty me os la ty' me' os' la' : List ℕ) → Prepares input r ty me os la ty' me' os' la' → Roomy ty me os la → length os' ≤ max_members
    → (t : Ready) → r ≡ Ok t → (text : List ℕ) → Streamed (of_tables t.cfg t.n ty' la' os' me') input 0 text → text ≡ lay_output input

-- ---- and it ends

-- a place from which on the last of the sheet's questions are asked
pub record Reaches (input : List ℕ) (s : Sheet) (at : ℕ) : Type 0 where
  pub done : List Question
  pub left : done ++ answerable (questions_from input at) ≡ s.questions

-- from the start on, and from where each buffer ended
pub record GoesOn (input : List ℕ) (x : Source) (ready : Readied input x) : Type 0 where
  pub start : Reaches input ready.sheet 0
  pub next : (from : ℕ) (r : Filled) (old new : List ℕ) → Reaches input ready.sheet from → Fills x input from r old new → Reaches input ready.sheet r.next
  -- a buffer of 16,384 bytes holds the next line, so the place moves while there are more
  pub advances : (from : ℕ) (r : Filled) (old new : List ℕ) → Reaches input ready.sheet from → Fills x input from r old new → r.more ≡ true
      → longest ≤ length old → from < r.next

abbrev pub AlwaysAdvances : Type 0
AlwaysAdvances = (input : List ℕ) (x : Source) (ready : Readied input x) → GoesOn input x ready
