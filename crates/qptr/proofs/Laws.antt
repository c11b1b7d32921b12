-- Laws of what C gets. Assumes nothing.
use Prim.Native.Nat.{ℕ, ◌<◌}
use native.Mathlib.Omega.{arith}
use mathlib.Core.Path.{◌≡◌, refl, sym, ap, ◌∙◌, subst}
use mathlib.Core.List.{List}
use lib.IntN.{ℤ}
use lib.ListN.{length}
use Rattle.arith.specs.Refusals.{Result, ok, refused}
use Rattle.arith.proofs.Results.{in_room_lem}
use Rattle.flat.specs.Reads.{ReadsTable}
use Rattle.tabled.specs.Chains.{chain_in, room_in, Lowered}
use Rattle.arith.specs.InCode.{OrRefusal}
use Rattle.text.specs.Whole.{Whole, held, answered}
use Rattle.recorded.specs.Code.{code_of, Small}
use Rattle.recorded.proofs.Laws.{small as small_chain}
use Rattle.qptr.specs.Answered.{Answered}
use Rattle.qptr.specs.OverTable.{TableRead, ChainLowered, Got}
use Rattle.answers.specs.Output.{lay_output}

pub small : {result : Result (List ℕ)} {old new : List ℕ} {r : OrRefusal ℕ} → length old < 9223372036854775808 → Whole result old r new → Small r
unfolding answered
small {result} {old} h w = subst Small (sym w.says) (by (held (length old) result) refl)
  where
    by : (o : Result (List ℕ)) → held (length old) result ≡ o → Small (answered o)
    by (refused e) i = tt
    by (ok l) i = let k = in_room_lem (length old) length result i in omega arith

pub told : {sheet old new : List ℕ} {a : OrRefusal ℕ} {x : ℤ} → Whole (ok (lay_output sheet)) old a new → x ≡ code_of a → Answered sheet old x new
told w e = record { says = e ∙ ap code_of w.says; holds = w.holds }

-- ---- over a table

pub small_walk : (table : List ℕ) (op ptr : ℕ) (indices old : List ℕ) {new : List ℕ} {w : OrRefusal ℕ} → length old < 9223372036854775808
    → Lowered (chain_in (room_in old) table op ptr indices) w old new → Small w
small_walk table op ptr indices old h x = small_chain (room_in old) table op ptr indices (omega arith) x.says

pub table_read : {sheet old new : List ℕ} {a : OrRefusal ℕ} {x : ℤ} → ReadsTable sheet a old new → x ≡ code_of a → TableRead sheet x old new
table_read r e = record { says = e ∙ ap code_of r.answer; words = r.words }

pub chain_lowered : (table : List ℕ) (op ptr : ℕ) (indices old : List ℕ) {new : List ℕ} {w : OrRefusal ℕ} {x : ℤ} → Lowered (chain_in (room_in old) table op ptr indices) w old new → x ≡ code_of w
    → ChainLowered table op ptr indices x old new
chain_lowered table op ptr indices old l e = record { says = e ∙ ap code_of l.says; holds = l.holds }

-- ---- words

pub got : {result : Result (List ℕ)} {old new : List ℕ} {a : OrRefusal ℕ} {x : ℤ} → Whole result old a new → x ≡ code_of a → Got result x old new
got w e = record { says = e ∙ ap code_of w.says; holds = w.holds }
