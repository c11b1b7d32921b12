-- Document 02, n, "A whole may be refused by 23 where its parts aren't, and the reverse; show a case of each".
use Rattle.std.specs.Prelude.{ℕ, ◌≡◌, List, ◌∷◌, ◌++◌}
use Prim.Native.String.{String}
use Rattle.arith.specs.Refusals.{ok, refused, step_overflow}
use Rattle.decimal.specs.Text.{bytes}
use Rattle.spirv.specs.declared.ChainOp.{ChainOp}
use Rattle.spirv.specs.declared.Index.{Index}
use Rattle.sheet.specs.Sheet.{Sheet, read_sheet}
use Rattle.lower.specs.declared.QPtrOp.{QPtrOp}
use Rattle.lower.specs.Chain.{lower_chain}
use Rattle.lower.specs.Statements.{Accepted}
use Rattle.promise_split.specs.Parts.{lower_from_type}
use Rattle.promise_split.specs.Statements.{Reaches}

-- a chain of a sheet that is read from a text, split after its first index or later
pub record Case : Type 0 where
  pub text : String
  pub sheet : Sheet
  pub read : read_sheet (bytes text) ≡ ok sheet
  pub op : ChainOp
  pub ptr : ℕ
  pub index : Index
  pub first_indices : List Index
  pub second_indices : List Index
  pub first : List QPtrOp
  pub first_accepted : Accepted sheet op ptr (index ∷ first_indices) first
  pub type : ℕ
  pub type_reached : Reaches sheet op ptr (index ∷ first_indices) type

-- the whole is refused by 23, its parts aren't
pub record WholeRefused : Type 0 where
  pub case : Case
  pub second : List QPtrOp
  pub second_accepted : lower_from_type case.sheet case.type case.second_indices ≡ ok second
  pub whole_refused : lower_chain case.sheet case.op case.ptr ((case.index ∷ case.first_indices) ++ case.second_indices) ≡ refused step_overflow

-- the second part is refused by 23, the whole isn't
pub record SecondRefused : Type 0 where
  pub case : Case
  pub whole : List QPtrOp
  pub whole_accepted : Accepted case.sheet case.op case.ptr ((case.index ∷ case.first_indices) ++ case.second_indices) whole
  pub second_refused : lower_from_type case.sheet case.type case.second_indices ≡ refused step_overflow
