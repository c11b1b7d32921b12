-- What is printed reads back, what is read is what is printed, and no two numbers print alike. Assumes nothing.
use Prim.Native.Nat.{ℕ, zero, suc, ◌+◌, ◌/◌, ◌%◌, ◌^◌, ◌<◌, ◌≤◌}
use native.Mathlib.Nat.{pow-suc}
use native.Mathlib.Omega.{arith}
use mathlib.Core.Path.{◌≡◌, refl, sym, ap, ◌∙◌}
use mathlib.Core.Bool.{Bool, true, false}
use mathlib.Core.List.{List, [], ◌∷◌}
use mathlib.Core.Option.{none}
use lib.Dec.{ltb}
use lib.IntN.{pos, negsuc}
use lib.ListN.{length, length-append}
use borrow.Author.Tests.{ltb-true, ltb-false, leb-true}
use Rattle.arith.specs.Numbers.{max_u32, max_i32, is_i32}
use Rattle.arith.specs.InCode.{as_option}
use Rattle.arith.proofs.Results.{no_some, some_is}
use Rattle.arith.proofs.Fitting.{some_of}
use Rattle.text.proofs.Laws.{in_place}
use Rattle.decimal.specs.Decimal.{digit_0, dash, read_number, decimal, signed_decimal}
use Rattle.decimal.specs.RoundTrip.{PrintedReads, ReadIsPrinted, UnsignedApart, SignedApart, TenDigits}
use Rattle.decimal.proofs.ReadsBack.{reads_back}
use Rattle.decimal.proofs.OneForm.{one_form}
use Rattle.decimal.proofs.LastDigit.{one_digit, more_digits}

pub printed_reads : PrintedReads
printed_reads n h old new at end small room p = ap as_option (ap read_number (in_place (decimal n) p room small) ∙ reads_back n h)

pub read_is_printed : ReadIsPrinted
read_is_printed f n h = (one_form f n (some_of (read_number f) n h)).printed

pub unsigned_apart : UnsignedApart
unsigned_apart m n h k e = some_is (sym (reads_back m h) ∙ ap read_number e ∙ reads_back n k)

-- a text with a sign is no unsigned number
signed_unread : (bs : List ℕ) → read_number (dash ∷ bs) ≡ none
unfolding read_number
signed_unread [] = refl
signed_unread (b ∷ bs) = refl

not_both : (n : ℕ) (bs : List ℕ) → n ≤ max_u32 → decimal n ≡ dash ∷ bs → ⊥
not_both n bs h e = no_some (sym (signed_unread bs) ∙ sym (ap read_number e) ∙ reads_back n h)

pub signed_apart : SignedApart
unfolding signed_decimal is_i32
signed_apart (pos m) (pos n) h k e = ap pos (unsigned_apart m n (omega (arith, leb-true m max_i32 h)) (omega (arith, leb-true n max_i32 k)) e)
signed_apart (pos m) (negsuc n) h k e = absurd (not_both m _ (omega (arith, leb-true m max_i32 h)) e)
signed_apart (negsuc m) (pos n) h k e = absurd (not_both n _ (omega (arith, leb-true n max_i32 k)) (sym e))
signed_apart (negsuc m) (negsuc n) h k e =
    let rest : decimal (suc m) ≡ decimal (suc n) = cc in
    let same = unsigned_apart (suc m) (suc n) (omega (arith, leb-true m max_i32 h)) (omega (arith, leb-true n max_i32 k)) rest in
    ap negsuc (omega arith)

-- a number below 10 ^ (k + 1) has at most k + 1 digits
short : (k n : ℕ) → n < 10 ^ suc k → length (decimal n) ≤ suc k
short zero n h = let p = pow-suc 10 0 in omega (arith, ap length (one_digit n (omega arith)))
short (suc k) n h = by (ltb n 10) refl (λ g. short k (n / 10) (let p = pow-suc 10 (suc k) in omega arith))
  where
    by : (t : Bool) → ltb n 10 ≡ t → (10 ≤ n → length (decimal (n / 10)) ≤ suc k) → length (decimal n) ≤ suc (suc k)
    by true e f = omega (arith, ap length (one_digit n (ltb-true n 10 e)))
    by false e f =
        let low = ltb-false n 10 e in
        omega (arith, f low, ap length (more_digits n low), length-append (decimal (n / 10)) ((digit_0 + n % 10) ∷ []))

pub ten_digits : TenDigits
ten_digits n h = short 9 n (omega arith)
