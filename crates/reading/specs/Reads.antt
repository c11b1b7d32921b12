-- What reading a sheet into lent lists comes to: the number of its types and its tables, or a refusal and every list as it was.
use Rattle.std.specs.Prelude.{ℕ, ◌*◌, ◌≡◌, Bool, true, false, cond, ◌&&◌, List, [], leb, ltb, length, Ok}
use Rattle.arith.specs.Refusals.{Result, ok, refused, misread}
use Rattle.arith.specs.InCode.{OrRefusal, err}
use Rattle.shapes.specs.declared.LayoutConfig.{LayoutConfig}
use Rattle.sheet.specs.Sheet.{Sheet, member_count, read_sheet}
use Rattle.sheet.specs.Tables.{over, setting_words, types_words, members_words, offsets_words, held}
use Rattle.tally.specs.declared.Tally.{Tally}
use Rattle.reading.specs.declared.Counts.{Counts}
use Rattle.puts.specs.Puts.{Untouched, Filled}

-- ---- a pass over the lines

-- a sheet of its setting alone
abbrev pub empty_sheet : LayoutConfig → Sheet
empty_sheet g = record { setting = g; types = []; questions = [] }

-- the setting and the counts of a sheet, or the refusal
unfoldable pub end_of : Result Sheet → OrRefusal Counts
end_of (ok s) = Ok record { setting = s.setting; types = length s.types; members = member_count s.types }
end_of (refused n) = err n

-- behind the last LF: so many bytes are left
unfoldable pub finished_by : ℕ → Tally → OrRefusal Counts
finished_by rest t = cond (ltb 0 rest) (err misread) (Ok record { setting = t.setting; types = t.types; members = t.members })

-- a pass that does not write leaves the lists; one that writes leaves the tables of a sheet that is read
pub record Passed (write : Bool) (o : Result Sheet) (r : OrRefusal Counts) (ty me gi ty' me' gi' : List ℕ) : Type 0 where
  pub answer : r ≡ end_of o
  pub untouched : write ≡ false → Untouched ty me gi ty' me' gi'
  pub filled : (s : Sheet) → write ≡ true → o ≡ ok s → Filled s.types ty me gi ty' me' gi'

-- ---- the whole

-- lists of these lengths hold so many types and members
unfoldable pub fits_by : (setting types members given typeCount member_count : ℕ) → Bool
fits_by setting types members given ts ms = leb 6 setting && (leb (6 * ts) types && (leb ms members && leb ms given))

abbrev pub told : Result Sheet → OrRefusal ℕ
told (ok s) = Ok (length s.types)
told (refused n) = err n

-- the words of a sheet that is read; a refusal has none
abbrev pub words_in : (Sheet → List ℕ) → Result Sheet → List ℕ
words_in words (ok s) = words s
words_in words (refused n) = []

-- what is read of an input into lists of these lengths: 24 where one is too short
abbrev pub into : (input se ty me gi : List ℕ) → Result Sheet
into input se ty me gi = held (length se) (length ty) (length me) (length gi) (read_sheet input)

-- the answer r and the lists se' .. that reading an input into the lists se .. leaves
pub record ReadsInto (input : List ℕ) (r : OrRefusal ℕ) (se ty me gi se' ty' me' gi' : List ℕ) : Type 0 where
  pub answer : r ≡ told (into input se ty me gi)
  pub setting : se' ≡ over (words_in (λ s. setting_words s.setting) (into input se ty me gi)) se
  pub types : ty' ≡ over (words_in (λ s. types_words 0 s.types) (into input se ty me gi)) ty
  pub members : me' ≡ over (words_in (λ s. members_words s.types) (into input se ty me gi)) me
  pub given : gi' ≡ over (words_in (λ s. offsets_words s.types) (into input se ty me gi)) gi
