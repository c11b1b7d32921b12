-- Document 01, "The refusals": the numbers under the trade's words, and results that may be refused.
use Rattle.std.specs.Prelude.{ℕ, Bool, true, false, ltb}

infixl 10 ◌>>=◌
infixr 10 ◌>>◌
infix 20 refuse◌when◌
infix 20 refuse◌unless◌
-- a value, or the number of the refusal alone
pub data Result (A : Type 0) : Type 0 where
  ok : A → Result A
  refused : ℕ → Result A

-- `do` goes on with the value; the first refusal met is the result
unfoldable pub ◌>>=◌ : {A B : Type 0} → Result A → (A → Result B) → Result B
◌>>=◌ (ok a) next = next a
◌>>=◌ (refused n) next = refused n

unfoldable pub ◌>>◌ : {A B : Type 0} → Result A → Result B → Result B
◌>>◌ (ok a) next = next
◌>>◌ (refused n) next = refused n

-- refusal n where the test holds
unfoldable pub refuse◌when◌ : ℕ → Bool → Result (Unit {0})
refuse◌when◌ n true = refused n
refuse◌when◌ n false = ok tt

-- refusal n unless the test holds
unfoldable pub refuse◌unless◌ : ℕ → Bool → Result (Unit {0})
refuse◌unless◌ n true = ok tt
refuse◌unless◌ n false = refused n

-- ---- the table: number, the trade's word, and when

-- line breaks the sheet's form
abbrev pub misread : ℕ
misread = 1

-- a count above its limit
abbrev pub oversize : ℕ
oversize = 2

-- min, balign or palign no power of two
abbrev pub bad_setting : ℕ
bad_setting = 3

-- `U`
abbrev pub unsupported : ℕ
unsupported = 4

-- not a power of two from 8
abbrev pub odd_width : ℕ
odd_width = 5

abbrev pub zero_length : ℕ
zero_length = 6

abbrev pub specialization : ℕ
specialization = 7

abbrev pub zero_stride : ℕ
zero_stride = 8

-- handle array in an array
abbrev pub nested_handles : ℕ
nested_handles = 9

abbrev pub unsized_element : ℕ
unsized_element = 10

abbrev pub handle_member : ℕ
handle_member = 11

abbrev pub row_major : ℕ
row_major = 12

-- member below the count read
abbrev pub offset_repeated : ℕ
offset_repeated = 13

-- member above it, or counts differ
abbrev pub offsets_missing : ℕ
offsets_missing = 14

abbrev pub unsized_misplaced : ℕ
unsized_misplaced = 15

-- rounding, sum, product or legacy multiple above 32 bits
abbrev pub overflow : ℕ
overflow = 16

abbrev pub ambiguous : ℕ
ambiguous = 17

-- C, L, X on a non-P
abbrev pub no_pointer : ℕ
no_pointer = 18

-- index into scalar or opaque; Q on a handle
abbrev pub no_parts : ℕ
no_parts = 19

-- field index not known
abbrev pub unknown_field : ℕ
unknown_field = 20

abbrev pub field_outside : ℕ
field_outside = 21

-- offset above 2147483647
abbrev pub far_field : ℕ
far_field = 22

-- merged sum outside signed 32 bits
abbrev pub step_overflow : ℕ
step_overflow = 23

-- result complete but longer than the lent list
abbrev pub short_list : ℕ
short_list = 24

-- L
abbrev pub no_buffer : ℕ
no_buffer = 25

-- L
abbrev pub no_runtime_array : ℕ
no_runtime_array = 26

-- L, block's size differs from the member's offset
abbrev pub not_last : ℕ
not_last = 27

-- Q, end below start
abbrev pub reversed : ℕ
reversed = 28

-- ---- 24, the last of a question's refusals

-- a result that is complete, held in a lent list of so many places
unfoldable pub in_room : {A : Type 0} → (room : ℕ) → (count : A → ℕ) → Result A → Result A
in_room room count r = do
  a ← r
  refuse short_list when ltb room (count a)
  ok a
