-- Document 01, program `lay`: no line of a sheet is longer than 16,384 bytes, since every number shown has 32 bits, and there are at most 1,024 fields.
use Rattle.std.specs.Prelude.{ℕ, ◌≤◌, ◌≡◌, List, length}
use Rattle.arith.specs.Refusals.{ok}
use Rattle.shapes.specs.Shapes.{Components, Scalar, Elements, Fields, HandleLayout, Opaque, Buffer, MemTypeLayout, TypeLayout, Handle, HandleArray, Concrete, size_of, align_of, legacy_of, dyn_of}
use Rattle.sheet.specs.Sheet.{Sheet, max_members, read_sheet}
use Rattle.sheet.specs.Statements.{Fits, All, GoodSheet}
use Rattle.layout.specs.Statements.{IsLayoutIn}
use Rattle.answers.specs.Lines.{answer}
use Rattle.answers.specs.Output.{text_of}

-- ---- the numbers of a layout

abbrev pub FitsParts : Components → Type 0
FitsParts Scalar = Unit {0}
FitsParts (Elements stride elem len) = Fits stride × Fits len
FitsParts (Fields offsets types) = All Fits offsets × (length offsets ≤ max_members)

pub record FitsMemory (m : MemTypeLayout) : Type 0 where
  pub size : Fits (size_of m)
  pub align : Fits (align_of m)
  pub legacy : Fits (legacy_of m)
  pub dyn : Fits (dyn_of m)
  pub parts : FitsParts m.components

abbrev pub FitsHandle : HandleLayout → Type 0
FitsHandle Opaque = Unit {0}
FitsHandle (Buffer m) = FitsMemory m

abbrev pub FitsLayout : TypeLayout → Type 0
FitsLayout (Handle h) = FitsHandle h
FitsLayout (HandleArray h len) = FitsHandle h × Fits len
FitsLayout (Concrete m) = FitsMemory m

abbrev pub LayoutsFit : Type 0
LayoutsFit = (s : Sheet) → GoodSheet s → (l : TypeLayout) → IsLayoutIn s l → FitsLayout l

-- ---- the lines

abbrev pub longest : ℕ
longest = 16384

abbrev pub LongestLine : Type 0
LongestLine = (input : List ℕ) (s : Sheet) → read_sheet input ≡ ok s → All (λ q. length (text_of (answer s q)) ≤ longest) s.questions
