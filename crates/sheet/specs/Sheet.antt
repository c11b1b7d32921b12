-- Document 01, "The sheet" and "The refusals": total length is tested first, then lines from the top, 1 before 2 before 3.
use Rattle.std.specs.Prelude.{ℕ, ◌+◌, Bool, true, false, ◌&&◌, List, [], ◌∷◌, ◌++◌, leb, ltb, length}
use Prim.Native.Char.{code}
use Rattle.std.proofs.Math.Option.{Option, none, some}
use Rattle.std.proofs.Math.ListN.{get_elem?}
use Rattle.arith.specs.Refusals.{Result, ok, refused, ◌>>=◌, ◌>>◌, refuse◌unless◌, misread, oversize, bad_setting}
use Rattle.arith.specs.Numbers.{is_power_of_two}
use Rattle.decimal.specs.Text.{split}
use Rattle.spirv.specs.declared.MemberDecoration.{MemberDecoration}
use Rattle.spirv.specs.Decl.{Decl, is_struct, pointee_of, before}
use Rattle.spirv.specs.Questions.{Question}
use Rattle.shapes.specs.declared.LayoutConfig.{LayoutConfig}
use Rattle.sheet.specs.Grammar.{Line, Setting, Declared, Decorated, Asked, read_line}

-- types are numbered from 0 in their order
pub record Sheet : Type 0 where
  pub setting : LayoutConfig
  pub types : List Decl
  pub questions : List Question

-- ---- the limits

abbrev pub max_bytes : ℕ
max_bytes = 65536

abbrev pub max_types : ℕ
max_types = 256

abbrev pub max_members : ℕ
max_members = 1024

abbrev pub max_indices : ℕ
max_indices = 255

-- how many members all types have
abbrev pub member_count : List Decl → ℕ
member_count [] = 0
member_count (d ∷ ds) = length d.members + member_count ds

-- how many indices a question has
abbrev pub index_count : Question → ℕ
index_count (Question.T t) = 0
index_count (Question.E a b) = 0
index_count (Question.Q t start end) = 0
index_count (Question.C op ptr indices) = length indices
index_count (Question.L ptr member) = 0
index_count (Question.X ptr) = 0

-- ---- decorations

-- a D line may stand directly after an S line or another D line
abbrev pub takes_decoration : Line → Bool
takes_decoration (Setting g) = false
takes_decoration (Declared d) = is_struct d.type
takes_decoration (Decorated d) = true
takes_decoration (Asked q) = false

-- d comes behind these in the order of an AttrSet
abbrev pub rises : List MemberDecoration → MemberDecoration → Bool
rises [] d = true
rises (c ∷ []) d = before c d
rises (b ∷ c ∷ cs) d = rises (c ∷ cs) d

-- the types with d behind the decorations of the last one; 1 where it does not rise
unfoldable pub decorate_last : List Decl → MemberDecoration → Result (List Decl)
decorate_last [] d = refused misread
decorate_last (t ∷ []) d = do
  refuse misread unless rises t.decorations d
  ok (record { type = t.type; members = t.members; decorations = t.decorations ++ (d ∷ []) } ∷ [])
decorate_last (t ∷ u ∷ us) d = do
  rest ← decorate_last (u ∷ us) d
  ok (t ∷ rest)

-- ---- line 1, and each further line

abbrev pub good_setting : LayoutConfig → Bool
good_setting g = is_power_of_two g.min_aggregate_legacy_align && (is_power_of_two g.abstract_bool_align && is_power_of_two g.logical_ptr_align)

unfoldable pub first_line : Line → Result Sheet
first_line (Setting g) = do
  refuse bad_setting unless good_setting g
  ok record { setting = g; types = []; questions = [] }
first_line (Declared d) = refused misread
first_line (Decorated d) = refused misread
first_line (Asked q) = refused misread

-- a line below others, the last of which is `previous`
unfoldable pub next_line : Sheet → (previous : Line) → Line → Result Sheet
next_line s previous (Setting g) = refused misread
next_line s previous (Declared d) = do
  refuse oversize unless ltb (length s.types) max_types
  refuse oversize unless leb (member_count s.types + length d.members) max_members
  ok record { setting = s.setting; types = s.types ++ (d ∷ []); questions = s.questions }
next_line s previous (Decorated d) = do
  refuse misread unless takes_decoration previous
  ts ← decorate_last s.types d
  ok record { setting = s.setting; types = ts; questions = s.questions }
next_line s previous (Asked q) = do
  refuse oversize unless leb (index_count q) max_indices
  ok record { setting = s.setting; types = s.types; questions = s.questions ++ (q ∷ []) }

-- ---- the whole

-- a line that breaks its form is 1
abbrev pub formed : Option Line → Result Line
formed none = refused misread
formed (some l) = ok l

-- what follows the last LF: nothing, or a line without its end
abbrev pub finished : Sheet → List ℕ → Result Sheet
finished s [] = ok s
finished s (b ∷ bs) = refused misread

-- the pieces between the LFs, below the line `previous`
unfoldable pub read_lines : Sheet → (previous : Line) → List (List ℕ) → Result Sheet
read_lines s previous [] = ok s
read_lines s previous (last ∷ []) = finished s last
read_lines s previous (line ∷ more ∷ rest) = do
  l ← formed (read_line (length s.types) line)
  t ← next_line s previous l
  read_lines t l (more ∷ rest)

-- line 1, and what follows it; a sheet without any line lacks line 1
unfoldable pub read_pieces : List (List ℕ) → Result Sheet
read_pieces [] = refused misread
read_pieces (last ∷ []) = refused misread
read_pieces (line ∷ more ∷ rest) = do
  l ← formed (read_line 0 line)
  s ← first_line l
  read_lines s l (more ∷ rest)

unfoldable pub read_sheet : List ℕ → Result Sheet
read_sheet input = do
  refuse oversize unless leb (length input) max_bytes
  read_pieces (split (code "\n") input)

-- ---- what a number names

-- the type of a number; 1 where there is none, as for a line that refers to a type not above
abbrev pub declared : Option Decl → Result Decl
declared none = refused misread
declared (some d) = ok d

unfoldable pub decl_in : Sheet → ℕ → Result Decl
decl_in s t = declared (get_elem? s.types t)

-- the pointee of a pointer; 18 on another type
unfoldable pub pointee_in : Sheet → (ptr : ℕ) → Result ℕ
pointee_in s ptr = do
  d ← decl_in s ptr
  pointee_of d.type
