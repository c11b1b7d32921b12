-- Sheets at the limits, computed: 65,536 bytes, 256 types, 1,024 members, 255 indices, and one more of each; 1 comes before 2 in a line, and an upper line before a lower one. Assumes nothing.
use Prim.Native.Nat.{ℕ, zero, suc}
use Prim.Native.String.{String}
use mathlib.Core.Path.{◌≡◌, refl}
use mathlib.Core.List.{List, [], ◌∷◌, ◌++◌, map}
use lib.ListN.{length, replicate}
use Rattle.arith.specs.Refusals.{Result, ok, refused, misread, oversize}
use Rattle.decimal.specs.Text.{bytes}
use Rattle.sheet.specs.Sheet.{Sheet, member_count, read_sheet}
use Rattle.sheet.proofs.Opened.{opened}

-- how many types, members and questions a sheet has
abbrev counts : Result Sheet → Result (ℕ × ℕ × ℕ)
counts (ok s) = ok (length s.types, member_count s.types, length s.questions)
counts (refused n) = refused n

-- a text n times
abbrev times : ℕ → List ℕ → List ℕ
times zero text = []
times (suc n) text = let more = times n text in text ++ more

-- line 1 and the text of many lines or fields, between two others
abbrev sheet : List ℕ → List ℕ → List ℕ → List ℕ
sheet first many last = bytes "G,1,1,1,1,1,1\n" ++ (first ++ (many ++ last))

-- ---- 65,536 bytes

-- a chain of n indices of ten digits, and what is added
abbrev chain : ℕ → List ℕ → List ℕ
chain n more = bytes "C,65,1" ++ (times n (bytes ",v4294967295") ++ (more ++ bytes "\n"))

-- a pointer, 21 chains of 255 indices and one of 92
abbrev largest : List ℕ
largest = sheet (bytes "F,32\nP,12,0\n") (times 21 (chain 255 [])) (chain 91 (bytes ",100"))

largest_bytes : length largest ≡ 65536
largest_bytes = refl

largest_read : counts (read_sheet largest) ≡ ok (2, 0, 22)
unfolding opened
largest_read = refl

-- total length is tested first
junk : map (λ n. counts (read_sheet (replicate n 0))) (65536 ∷ 65537 ∷ []) ≡ refused misread ∷ refused oversize ∷ []
unfolding opened
junk = refl

-- ---- 256 types

abbrev bools : ℕ → String → Result (ℕ × ℕ × ℕ)
bools n more = counts (read_sheet (sheet [] (times n (bytes "B\n")) (bytes more)))

most_types : bools 256 "T,255\n" ≡ ok (256, 0, 1)
unfolding opened
most_types = refl

-- the next one is 2 even if a line below is misread, and 1 if it breaks the form itself or has no LF
more_types : map (bools 256) ("B\n" ∷ "B\nZ\n" ∷ "B,\n" ∷ "B" ∷ "V,256,3\n" ∷ "T,256\n" ∷ []) ≡ map refused (oversize ∷ oversize ∷ misread ∷ misread ∷ misread ∷ misread ∷ [])
unfolding opened
more_types = refl

-- ---- 1,024 members

abbrev struct : String → ℕ → String → Result (ℕ × ℕ × ℕ)
struct first n more = counts (read_sheet (sheet (bytes first) (times n (bytes ",0")) (bytes more)))

most_members : struct "B\nS,0,1024" 1024 "\nS,0,0\n" ≡ ok (3, 1024, 0)
unfolding opened
most_members = refl

-- one more in the same S, or in another one
more_members : struct "B\nS,0,1025" 1025 "\n" ∷ struct "B\nS,0,1024" 1024 "\nS,0,1,0\n" ∷ [] ≡ map refused (oversize ∷ oversize ∷ [])
unfolding opened
more_members = refl

-- unlike the number that S says, and misread or not above in the last place
misread_members : struct "B\nS,0,1024" 1025 "\n" ∷ struct "B\nS,0,1026" 1025 "\n" ∷ struct "B\nS,0,1026" 1025 ",x\n" ∷ struct "B\nS,0,1026" 1025 ",1\n" ∷ [] ≡ map refused (misread ∷ misread ∷ misread ∷ misread ∷ [])
unfolding opened
misread_members = refl

-- ---- 255 indices

abbrev indices : String → ℕ → String → Result (ℕ × ℕ × ℕ)
indices first n more = counts (read_sheet (sheet (bytes first) (times n (bytes ",7")) (bytes more)))

most_indices : indices "B\nP,12,0\nC,65,1" 255 "\n" ≡ ok (2, 0, 1)
unfolding opened
most_indices = refl

-- one more, on a pointer and on another type
more_indices : indices "B\nP,12,0\nC,65,1" 256 "\n" ∷ indices "B\nP,12,0\nC,65,0" 256 "\nZ\n" ∷ [] ≡ map refused (oversize ∷ oversize ∷ [])
unfolding opened
more_indices = refl

-- on no type above, with one index misread, and without LF
misread_indices : indices "B\nP,12,0\nC,65,2" 256 "\n" ∷ indices "B\nP,12,0\nC,65,1" 256 ",07\n" ∷ indices "B\nP,12,0\nC,65,1" 256 "" ∷ [] ≡ map refused (misread ∷ misread ∷ misread ∷ [])
unfolding opened
misread_indices = refl
