-- What a sheet's tables come to in lent lists: its types and members, each member's offset, and a row of layout a type; or a refusal and every list
-- as it was.
use Rattle.std.specs.Prelude.{ℕ, ◌≡◌, List, length, replicate}
use Rattle.arith.specs.Pairs.{both}
use Rattle.std.specs.Prelude.{Ok}
use Rattle.arith.specs.Refusals.{Result, ok, refused}
use Rattle.arith.specs.InCode.{OrRefusal, err}
use Rattle.sheet.specs.Sheet.{Sheet, max_members, read_sheet}
use Rattle.sheet.specs.Tables.{over, types_words, members_words, offsets_words, held}
use Rattle.reading.specs.Reads.{words_in}
use Rattle.records.specs.Records.{filling}
use Rattle.prepared.specs.declared.Ready.{Ready}

-- a sheet whose types and members the lists hold; 24 where one is too short
abbrev pub read_into : (input types members : List ℕ) → Result Sheet
read_into input types members = held 6 (length types) (length members) max_members (read_sheet input)

abbrev pub ready_of : Result Sheet → OrRefusal Ready
ready_of (ok s) = Ok record { cfg = s.setting; n = length s.types }
ready_of (refused n) = err n

-- the lists of offsets and of layouts, by the types and members that the lists hold
abbrev pub laid_into : Result Sheet → (types members offsets layouts : List ℕ) → List ℕ × List ℕ
laid_into (ok s) types members offsets layouts =
    (filling s.setting types members (over (offsets_words s.types) (replicate max_members 0)) offsets layouts (length s.types)).1
laid_into (refused n) types members offsets layouts = both offsets layouts

pub record Prepares (input : List ℕ) (r : OrRefusal Ready) (ty me os la ty' me' os' la' : List ℕ) : Type 0 where
  pub says : r ≡ ready_of (read_into input ty me)
  pub types : ty' ≡ over (words_in (λ s. types_words 0 s.types) (read_into input ty me)) ty
  pub members : me' ≡ over (words_in (λ s. members_words s.types) (read_into input ty me)) me
  pub laid : both os' la' ≡ laid_into (read_into input ty me) ty' me' os la
