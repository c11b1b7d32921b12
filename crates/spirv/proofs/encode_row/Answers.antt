-- `spirv::encode_row` meets its contract.
use Rattle.spirv.specs.Rows.{encode_row}
use Rattle.spirv.proofs.Words.{flag_word-is}
use Rattle.spirv.proofs.encode_row.Goals as goal

pub returns-in-Bool : goal.returns-in-Bool
unfolding encode_row
returns-in-Bool c = rw c.in-Bool.is

pub returns-in-Int : goal.returns-in-Int
unfolding encode_row
returns-in-Int c = rw c.in-Int.is

pub returns-in-Float : goal.returns-in-Float
unfolding encode_row
returns-in-Float c = rw c.in-Float.is

pub returns-in-Vector : goal.returns-in-Vector
unfolding encode_row
returns-in-Vector c = rw c.in-Vector.is

pub returns-in-Matrix : goal.returns-in-Matrix
unfolding encode_row
returns-in-Matrix c = rw c.in-Matrix.is

pub returns-in-Array : goal.returns-in-Array
unfolding encode_row
returns-in-Array c = rw (c.length_words-length.ensures, c.stride_words-kind.ensures, c.in-Array.is)

pub returns-in-RuntimeArray : goal.returns-in-RuntimeArray
unfolding encode_row
returns-in-RuntimeArray c = rw (c.stride_words-kind-in-RuntimeArray.ensures, c.in-RuntimeArray.is)

pub returns-in-Struct : goal.returns-in-Struct
unfolding encode_row
returns-in-Struct c = rw (c.from.ensures, flag_word-is c.in-Struct.block, c.in-Struct.is)

pub returns-in-Pointer : goal.returns-in-Pointer
unfolding encode_row
returns-in-Pointer c = rw c.in-Pointer.is

pub returns-in-Opaque : goal.returns-in-Opaque
unfolding encode_row
returns-in-Opaque c = rw c.in-Opaque.is

pub returns-in-Unsupported : goal.returns-in-Unsupported
unfolding encode_row
returns-in-Unsupported c = rw c.in-Unsupported.is
