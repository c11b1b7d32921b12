-- Document 01, "decorations in order": the reduction of a struct's D lines that its row holds, against the offsets that a layout takes from them.
use Rattle.std.specs.Prelude.{◌≡◌, cond, List, eqb}
use Rattle.arith.specs.Refusals.{ok, refused}
use Rattle.spirv.specs.declared.MemberDecoration.{MemberDecoration}
use Rattle.spirv.specs.Reduced.{reduced}
use Rattle.layout.specs.Structs.{given_offsets}

-- without a refusal the offsets read, and else the refusal
abbrev pub ReducesRight : Type 0
ReducesRight = (ds : List MemberDecoration) → given_offsets 0 ds ≡ cond (eqb (reduced ds).refusal 0) (ok (reduced ds).offsets) (refused (reduced ds).refusal)
