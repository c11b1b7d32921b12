-- Lists of 1,536, 1,024, 1,024 and 2,560 words hold the tables of every sheet; and from these come the lines that `lay` writes.
use Rattle.std.specs.Prelude.{◌≤◌, ◌≡◌, ℕ, List, length, Ok, Err}
use Rattle.arith.specs.Refusals.{ok, refused}
use Rattle.arith.specs.InCode.{OrRefusal}
use Rattle.arith.specs.declared.refusal.Refusal.{Refusal}
use Rattle.spirv.specs.Questions.{Question}
use Rattle.sheet.specs.Sheet.{Sheet, index_count, max_indices, max_members, read_sheet}
use Rattle.answers.specs.Lines.{Source, answer_by, answer}
use Rattle.answers.specs.Output.{text_of, lay_output}
use Rattle.answering.specs.OfTables.{of_tables}
use Rattle.listing.specs.Listing.{lines_from}
use Rattle.prepared.specs.declared.Ready.{Ready}
use Rattle.prepared.specs.Prepared.{Prepares}

pub record Roomy (ty me os la : List ℕ) : Type 0 where
  pub types : 1536 ≤ length ty
  pub members : 1024 ≤ length me
  pub offsets : length os ≡ 1024
  pub layouts : 2560 ≤ length la

-- tables that answer each question of at most 255 indices as the sheet that the bytes are does
pub record Readied (input : List ℕ) (x : Source) : Type 0 where
  pub sheet : Sheet
  pub read : read_sheet input ≡ ok sheet
  pub same : (q : Question) → index_count q ≤ max_indices → answer_by x q ≡ answer sheet q

abbrev pub ReadyAnswers : Type 0
ReadyAnswers =
    (input : List ℕ) (r : OrRefusal Ready) (ty me os la ty' me' os' la' : List ℕ) → Prepares input r ty me os la ty' me' os' la' → Roomy ty me os la → length os' ≤ max_members
    → (t : Ready) → r ≡ Ok t → Readied input (of_tables t.cfg t.n ty' la' os' me')

abbrev pub ReadyTables : Type 0
ReadyTables =
    (input : List ℕ) (r : OrRefusal Ready) (ty me os la ty' me' os' la' : List ℕ) → Prepares input r ty me os la ty' me' os' la' → Roomy ty me os la → length os' ≤ max_members
    → (t : Ready) → r ≡ Ok t → lines_from (of_tables t.cfg t.n ty' la' os' me') input 0 ≡ lay_output input

abbrev pub ReadyRefused : Type 0
ReadyRefused =
    (input : List ℕ) (r : OrRefusal Ready) (ty me os la ty' me' os' la' : List ℕ) → Prepares input r ty me os la ty' me' os' la' → Roomy ty me os la
    → (e : Refusal) → r ≡ Err e → lay_output input ≡ text_of (refused e.number)
