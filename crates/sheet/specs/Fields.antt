-- Document 01, "The sheet": fields in fixed order, parted by commas, no quoting. The kinds of field, and how a line's fields are read in turn.
use Rattle.std.specs.Prelude.{ℕ, Bool, true, false, cond, List, [], ◌∷◌, ltb, eqb}
use Prim.Native.Char.{code}
use Rattle.std.proofs.Math.Option.{Option, none, some}
use Rattle.arith.specs.Options.{◌>>=◌}
use Rattle.decimal.specs.Text.{bytes, same}
use Rattle.decimal.specs.Decimal.{read_number}
use Rattle.spirv.specs.declared.Length.{Length}
use Rattle.spirv.specs.declared.Length.TheVariants.{Fixed, Specialization}
use Rattle.spirv.specs.declared.Stride.{Stride}
use Rattle.spirv.specs.declared.Stride.TheVariants.{Decorated, Undecorated}
use Rattle.spirv.specs.declared.Decoration.{Decoration}
use Rattle.spirv.specs.declared.Decoration.TheVariants.{RowMajor, Offset}
use Rattle.spirv.specs.declared.Index.{Index}
use Rattle.spirv.specs.declared.Index.TheVariants.{Known, Unknown}
use Rattle.spirv.specs.declared.ChainOp.{ChainOp}
use Rattle.spirv.specs.declared.ChainOp.TheVariants.{AccessChain, InBoundsAccessChain, PtrAccessChain, InBoundsPtrAccessChain}

-- ---- what one field says, if it is of its kind

-- 0 or 1
unfoldable pub read_flag : List ℕ → Option Bool
read_flag f = cond (same f (bytes "0")) (some false) (cond (same f (bytes "1")) (some true) none)

-- a type above: a number below theirs
unfoldable pub read_type : ℕ → List ℕ → Option ℕ
read_type above f = do
  n ← read_number f
  cond (ltb n above) (some n) none

-- a number or `s`
unfoldable pub read_length : List ℕ → Option Length
read_length f = cond (same f (bytes "s")) (some Specialization) (do n ← read_number f; some (Fixed n))

-- a number or `-`
unfoldable pub read_stride : List ℕ → Option Stride
read_stride f = cond (same f (bytes "-")) (some Undecorated) (do n ← read_number f; some (Decorated n))

-- 65, 66, 67 or 70
unfoldable pub read_op : List ℕ → Option ChainOp
read_op f =
    cond (same f (bytes "65")) (some AccessChain)
    (cond (same f (bytes "66")) (some InBoundsAccessChain)
    (cond (same f (bytes "67")) (some PtrAccessChain)
    (cond (same f (bytes "70")) (some InBoundsPtrAccessChain) none)))

-- a known word, or `v` and an unknown's number
unfoldable pub read_index : List ℕ → Option Index
read_index [] = none
read_index (b ∷ bs) = cond (eqb b (code "v")) (do n ← read_number bs; some (Unknown n)) (do n ← read_number (b ∷ bs); some (Known n))

-- 4 RowMajor, whose value is `-`, or 35 Offset
unfoldable pub read_decoration : List ℕ → List ℕ → Option Decoration
read_decoration number value =
    cond (same number (bytes "4")) (cond (same value (bytes "-")) (some RowMajor) none)
    (cond (same number (bytes "35")) (do n ← read_number value; some (Offset n)) none)

-- each of some fields
abbrev pub read_all : {A : Type 0} → (List ℕ → Option A) → List (List ℕ) → Option (List A)
read_all read [] = some []
read_all read (f ∷ fs) = do
  a ← read f
  rest ← read_all read fs
  some (a ∷ rest)

-- ---- the fields of a line in turn: `number λ n. end x` is one field, a number n, and says x

-- the form of the fields that are left: what they say, if they keep it
abbrev pub Form : Type 0 → Type 0
Form A = List (List ℕ) → Option A

module _ {A : Type 0} where
  abbrev pub field : {B : Type 0} → (List ℕ → Option B) → (B → Form A) → Form A
  field read next [] = none
  field read next (f ∷ fs) = do
    b ← read f
    next b fs

  abbrev pub number : (ℕ → Form A) → Form A
  number = field read_number

  abbrev pub flag : (Bool → Form A) → Form A
  flag = field read_flag

  abbrev pub type : (above : ℕ) → (ℕ → Form A) → Form A
  type above = field (read_type above)

  abbrev pub number_or_s : (Length → Form A) → Form A
  number_or_s = field read_length

  abbrev pub number_or_dash : (Stride → Form A) → Form A
  number_or_dash = field read_stride

  abbrev pub op : (ChainOp → Form A) → Form A
  op = field read_op

  -- two fields
  abbrev pub decoration_value : (Decoration → Form A) → Form A
  decoration_value next [] = none
  decoration_value next (f ∷ []) = none
  decoration_value next (f ∷ g ∷ fs) = do
    d ← read_decoration f g
    next d fs

  -- all fields that are left
  abbrev pub types : (above : ℕ) → (List ℕ → Option A) → Form A
  types above next fs = do
    ts ← read_all (read_type above) fs
    next ts

  abbrev pub indices : (List Index → Option A) → Form A
  indices next fs = do
    is ← read_all read_index fs
    next is

  -- no field is left
  abbrev pub end : A → Form A
  end a [] = some a
  end a (f ∷ fs) = none
