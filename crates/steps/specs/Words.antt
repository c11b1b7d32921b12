-- A step as five words, its kind, bytes or stride, length, whether its index is known, and the index; and the step that any five words hold.
use Rattle.std.specs.Prelude.{ℕ, ◌-◌, ◌≡◌, Bool, true, cond, eqb, ℤ, pos, negsuc}
use Rattle.arith.specs.Numbers.{max_u32, signed, is_i32}
use Rattle.spirv.specs.declared.Index.{Index}
use Rattle.spirv.specs.declared.Index.TheVariants.{Known, Unknown}
use Rattle.spirv.specs.Rows.{index_by}
use Rattle.lower.specs.declared.QPtrOp.{QPtrOp}
use Rattle.lower.specs.declared.QPtrOp.TheVariants.{HandleArrayIndex, BufferData, Offset, DynOffset}
use Rattle.steps.specs.declared.StepWords.{StepWords}

-- ---- to words

-- the word that reads as a signed number: of −(n + 1) it is 4294967295 − n
abbrev pub word_of : ℤ → ℕ
word_of (pos n) = n
word_of (negsuc n) = max_u32 - n

-- an index is marked 0 where it is known, 1 where it is not
abbrev pub with_index : (kind bytes bound : ℕ) → Index → StepWords
with_index kind bytes bound (Known w) = record { kind = kind; bytes = bytes; bound = bound; mark = 0; index = w }
with_index kind bytes bound (Unknown v) = record { kind = kind; bytes = bytes; bound = bound; mark = 1; index = v }

-- kind 1 is H, 2 B, 3 O, 4 D; what a step does not have is 0
unfoldable pub encode : QPtrOp → StepWords
encode (HandleArrayIndex i) = with_index 1 0 0 i
encode BufferData = record { kind = 2; bytes = 0; bound = 0; mark = 0; index = 0 }
encode (Offset z) = record { kind = 3; bytes = word_of z; bound = 0; mark = 0; index = 0 }
encode (DynOffset stride bound i) = with_index 4 stride bound i

-- ---- and back

-- a kind that is none of the four reads as B, a mark other than 0 as unknown
unfoldable pub decode : StepWords → QPtrOp
decode s =
    cond (eqb s.kind 1) (HandleArrayIndex (index_by s.index s.mark))
    (cond (eqb s.kind 3) (Offset (signed s.bytes))
    (cond (eqb s.kind 4) (DynOffset s.bytes s.bound (index_by s.index s.mark))
    BufferData))

-- ---- each step is read back from its words, where its bytes, if it is an offset, fit signed 32 bits

abbrev pub offset_fits : QPtrOp → Bool
offset_fits (HandleArrayIndex i) = true
offset_fits BufferData = true
offset_fits (Offset z) = is_i32 z
offset_fits (DynOffset stride bound i) = true

abbrev pub ReadsBack : Type 0
ReadsBack = (s : QPtrOp) → offset_fits s ≡ true → decode (encode s) ≡ s
