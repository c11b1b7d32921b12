-- What an answer says of the sheet that was read. Assumes nothing.
use Rattle.std.proofs.Common.{ℕ, ◌≡◌, ap, sym, arith}
use Rattle.std.specs.Prelude.{Ok, Err}
use Rattle.arith.specs.Refusals.{Result, ok, refused}
use Rattle.arith.specs.InCode.{OrRefusal, err}
use Rattle.sheet.specs.Sheet.{Sheet}
use Rattle.reading.specs.Reads.{told}

pub told_refused : (r : Result Sheet) {e : ℕ} → err e ≡ told r → r ≡ refused e
told_refused (refused m) {e} k = sym (ap refused (ap number_in k))
  where
    number_in : OrRefusal ℕ → ℕ
    number_in (Ok n) = n
    number_in (Err x) = x.number
told_refused (ok s) k = absurd (let z : ◌≡◌ {A = ℕ} 0 1 = cc in omega arith)
