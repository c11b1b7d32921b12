-- Lines and sheets, read and refused, computed from the definitions. Assumes nothing.
use Prim.Native.Nat.{ℕ}
use Prim.Native.String.{String}
use mathlib.Core.Path.{◌≡◌, refl}
use mathlib.Core.Bool.{true, false}
use mathlib.Core.List.{[], ◌∷◌, ◌++◌, map}
use mathlib.Core.Option.{some}
use Rattle.arith.specs.Refusals.{Result, ok, refused}
use Rattle.decimal.specs.Text.{bytes}
use Rattle.spirv.specs.declared.Length.TheVariants.{Fixed, Specialization}
use Rattle.spirv.specs.declared.Stride.TheVariants as stride
use Rattle.spirv.specs.declared.Decoration.TheVariants.{RowMajor, Offset}
use Rattle.spirv.specs.declared.Index.TheVariants.{Known, Unknown}
use Rattle.spirv.specs.declared.ChainOp.TheVariants.{AccessChain, InBoundsAccessChain, PtrAccessChain, InBoundsPtrAccessChain}
use Rattle.spirv.specs.declared.SpvType.TheVariants as spv
use Rattle.spirv.specs.Decl.{plain}
use Rattle.spirv.specs.Questions.{Question}
use Rattle.shapes.specs.Settings.{scalar_setting, standard_setting, extended_setting}
use Rattle.sheet.specs.Grammar.{Setting, Declared, Decorated, Asked, declare, read_line}
use Rattle.sheet.specs.Sheet.{Sheet, read_sheet}
use Rattle.sheet.proofs.Opened.{opened}

-- ---- what lines say

settings : map (λ t. read_line 0 (bytes t)) ("G,1,1,1,1,1,1" ∷ "G,0,1,1,1,1,1" ∷ "G,0,16,1,1,1,1" ∷ []) ≡ map (λ g. some (Setting g)) (scalar_setting ∷ standard_setting ∷ extended_setting ∷ [])
unfolding opened
settings = refl

-- below four types
types : map (λ t. read_line 4 (bytes t)) ("B" ∷ "I,8" ∷ "F,32" ∷ "V,1,3" ∷ "M,2,4" ∷ "A,3,5,16" ∷ "A,0,s,-" ∷ "R,1,-" ∷ "P,12,2" ∷ "O" ∷ "U" ∷ [])
    ≡ map (λ t. some (declare t)) (spv.Bool ∷ spv.Int 8 ∷ spv.Float 32 ∷ spv.Vector 1 3 ∷ spv.Matrix 2 4 ∷ spv.Array 3 (Fixed 5) (stride.Decorated 16) ∷ spv.Array 0 Specialization stride.Undecorated ∷ spv.RuntimeArray 1 stride.Undecorated ∷ spv.Pointer 12 2 ∷ spv.Opaque ∷ spv.Unsupported ∷ [])
unfolding opened
types = refl

structs : map (λ t. read_line 4 (bytes t)) ("S,1,2,3,0" ∷ "D,7,35,8" ∷ "D,7,4,-" ∷ [])
    ≡ some (Declared record { type = spv.Struct true; members = 3 ∷ 0 ∷ []; decorations = [] }) ∷ some (Decorated record { member = 7; decoration = Offset 8 }) ∷ some (Decorated record { member = 7; decoration = RowMajor }) ∷ []
unfolding opened
structs = refl

questions : map (λ t. read_line 4 (bytes t)) ("T,3" ∷ "E,1,0" ∷ "Q,2,4,8" ∷ "C,65,1,7,v9" ∷ "C,66,1" ∷ "C,67,1" ∷ "C,70,1" ∷ "L,1,6" ∷ "X,1" ∷ [])
    ≡ map (λ q. some (Asked q)) (Question.T 3 ∷ Question.E 1 0 ∷ Question.Q 2 4 8 ∷ Question.C AccessChain 1 (Known 7 ∷ Unknown 9 ∷ []) ∷ Question.C InBoundsAccessChain 1 [] ∷ Question.C PtrAccessChain 1 [] ∷ Question.C InBoundsPtrAccessChain 1 [] ∷ Question.L 1 6 ∷ Question.X 1 ∷ [])
unfolding opened
questions = refl

whole : read_sheet (bytes "G,0,16,1,1,1,1\nF,32\nT,0\nS,0,2,0,0\nD,0,35,0\nD,1,35,4\nX,1\n") ≡ ok record {
  setting = extended_setting;
  types = plain (spv.Float 32) ∷ record { type = spv.Struct false; members = 0 ∷ 0 ∷ []; decorations = record { member = 0; decoration = Offset 0 } ∷ record { member = 1; decoration = Offset 4 } ∷ [] } ∷ [];
  questions = Question.T 0 ∷ Question.X 1 ∷ [];
}
unfolding opened
whole = refl

-- ---- which are refused

-- the number that a text is refused by, 0 where it is read
abbrev number : Result Sheet → ℕ
number (ok s) = 0
number (refused n) = n

abbrev refusal : String → ℕ
refusal text = number (read_sheet (bytes text))

-- the same of what follows a good line 1
abbrev below : String → ℕ
below text = number (read_sheet (bytes "G,1,1,1,1,1,1\n" ++ bytes text))

-- a sheet without line 1, or with another line there; line 1 without its LF, which is 1 before 3
no_line_1 : map refusal ("" ∷ "\n" ∷ "B\n" ∷ "G,1,1,1,1,1,1" ∷ "G,1,3,1,1,1,1" ∷ []) ≡ 1 ∷ 1 ∷ 1 ∷ 1 ∷ 1 ∷ []
unfolding opened
no_line_1 = refl

-- a bad setting comes after 1 in its line, and before a misread line 2; sizes are any numbers
bad_settings : map refusal ("G,1,3,1,1,1,1\n" ∷ "G,1,1,1,0,1,1\n" ∷ "G,1,1,1,1,1,6\n" ∷ "G,2,3,1,1,1,1\n" ∷ "G,1,3,1,1,1\n" ∷ "G,1,3,1,1,1,1\nZ\n" ∷ "G,1,1,3,2,0,4\n" ∷ []) ≡ 3 ∷ 3 ∷ 3 ∷ 1 ∷ 1 ∷ 3 ∷ 0 ∷ []
unfolding opened
bad_settings = refl

-- a further G, an unknown tag, an empty line, a field too few or too many, a number out of form, blanks and CR, an unfinished line
misread_lines : map below ("G,1,1,1,1,1,1\n" ∷ "Z\n" ∷ "b\n" ∷ "\n" ∷ "I\n" ∷ "I,8,8\n" ∷ "B,\n" ∷ "I,08\n" ∷ "I,+8\n" ∷ "I,4294967296\n" ∷ "B \n" ∷ "B\r\n" ∷ "B" ∷ [])
    ≡ 1 ∷ 1 ∷ 1 ∷ 1 ∷ 1 ∷ 1 ∷ 1 ∷ 1 ∷ 1 ∷ 1 ∷ 1 ∷ 1 ∷ 1 ∷ []
unfolding opened
misread_lines = refl

-- NUL, and a byte above 127
no_letters : map (λ b. number (read_sheet (bytes "G,1,1,1,1,1,1\n" ++ (b ∷ bytes "\n")))) (0 ∷ 200 ∷ []) ≡ 1 ∷ 1 ∷ []
unfolding opened
no_letters = refl

-- types above: neither itself nor a later one
above : map below ("F,32\nV,0,3\nT,1\n" ∷ "F,32\nV,1,3\n" ∷ "F,32\nV,2,3\nB\n" ∷ "P,12,0\n" ∷ "S,0,1,0\n" ∷ "T,0\nB\n" ∷ "B\nE,0,1\n" ∷ []) ≡ 0 ∷ 1 ∷ 1 ∷ 1 ∷ 1 ∷ 1 ∷ 1 ∷ []
unfolding opened
above = refl

-- `s` only as the length of A, and `-` only as a stride
marks : map below ("B\nA,0,s,-\n" ∷ "B\nA,0,-,4\n" ∷ "B\nA,0,4,s\n" ∷ "B\nV,0,s\n" ∷ "B\nR,0,s\n" ∷ "I,-\n" ∷ []) ≡ 0 ∷ 1 ∷ 1 ∷ 1 ∷ 1 ∷ 1 ∷ []
unfolding opened
marks = refl

-- as many members as S says, however many it says
member_counts : map below ("S,0,0\n" ∷ "S,0,0,\n" ∷ "S,2,0\n" ∷ "B\nS,0,1,0\n" ∷ "B\nS,0,1,0,0\n" ∷ "B\nS,0,2,0\n" ∷ "B\nS,0,4294967295,0\n" ∷ []) ≡ 0 ∷ 1 ∷ 1 ∷ 0 ∷ 1 ∷ 1 ∷ 1 ∷ []
unfolding opened
member_counts = refl

-- D directly after its S or another D: not after line 1, another type or a question; each S begins anew
places : map below ("D,0,4,-\n" ∷ "B\nD,0,4,-\n" ∷ "S,0,0\nB\nD,0,4,-\n" ∷ "S,0,0\nT,0\nD,0,4,-\n" ∷ "S,0,0\nD,0,4,-\nT,0\nD,1,4,-\n" ∷ "S,0,0\nD,1,4,-\nS,0,0\nD,0,4,-\n" ∷ []) ≡ 1 ∷ 1 ∷ 1 ∷ 1 ∷ 1 ∷ 0 ∷ []
unfolding opened
places = refl

-- rising by member, decoration and value, as numbers
rising : map below ("S,0,0\nD,2,4,-\nD,2,35,9\nD,2,35,10\nD,10,4,-\n" ∷ "S,0,0\nD,1,4,-\nD,0,4,-\n" ∷ "S,0,0\nD,0,35,0\nD,0,4,-\n" ∷ "S,0,0\nD,0,35,1\nD,0,35,0\n" ∷ "S,0,0\nD,0,35,1\nD,0,35,1\n" ∷ "S,0,0\nD,0,4,-\nD,0,4,-\n" ∷ []) ≡ 0 ∷ 1 ∷ 1 ∷ 1 ∷ 1 ∷ 1 ∷ []
unfolding opened
rising = refl

-- a member past n is allowed; 4 has no value, 35 has one, and no other decoration is known
decorations : map below ("B\nS,0,1,0\nD,9,35,0\n" ∷ "S,0,0\nD,0,4,0\n" ∷ "S,0,0\nD,0,35,-\n" ∷ "S,0,0\nD,0,5,-\n" ∷ "S,0,0\nD,0,4\n" ∷ []) ≡ 0 ∷ 1 ∷ 1 ∷ 1 ∷ 1 ∷ []
unfolding opened
decorations = refl

-- the four ops; a known word, or `v` and a number
chains : map below ("B\nC,70,0,4294967295,v4294967295\n" ∷ "B\nC,64,0\n" ∷ "B\nC,65,1\n" ∷ "B\nC,65,0,\n" ∷ "B\nC,65,0,v\n" ∷ "B\nC,65,0,V1\n" ∷ "B\nC,65,0,v01\n" ∷ "B\nC,65,0,v4294967296\n" ∷ "B\nC,65,0,-1\n" ∷ []) ≡ 0 ∷ 1 ∷ 1 ∷ 1 ∷ 1 ∷ 1 ∷ 1 ∷ 1 ∷ 1 ∷ []
unfolding opened
chains = refl
