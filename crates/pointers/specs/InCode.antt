-- Results as the code gives them: a field, an array length, the memory of a variable, or the refusal.
use Rattle.std.specs.Prelude.{Ok}
use Rattle.std.specs.Prelude as std
use Rattle.std.proofs.Math.Option.{Option}
use Rattle.arith.specs.Refusals.{Result, ok, refused}
use Rattle.arith.specs.InCode.{OrRefusal, err, as_option}
use Rattle.shapes.specs.declared.MemLayout.{MemLayout}
use Rattle.lower.specs.Steps as steps
use Rattle.lower.specs.Other as other
use Rattle.pointers.specs.declared.Field.{Field}
use Rattle.pointers.specs.declared.ArrayLength.{ArrayLength}

abbrev pub as_field : Result steps.Field → OrRefusal Field
as_field (ok f) = Ok record { offset = f.offset; ty = f.type }
as_field (refused e) = err e

abbrev pub as_length : Result other.ArrayLength → OrRefusal ArrayLength
as_length (ok a) = Ok record { offset = a.offset; stride = a.stride }
as_length (refused e) = err e

abbrev pub as_variable : Result (Option MemLayout) → OrRefusal (std.Option MemLayout)
as_variable (ok m) = Ok (as_option m)
as_variable (refused e) = err e
