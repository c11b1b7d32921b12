-- The printed form of a number is the one text that has its form, and the one that reads as it; for signed ones too. Assumes nothing.
use Prim.Native.Nat.{ℕ, suc, ◌≤◌}
use native.Mathlib.Omega.{arith}
use mathlib.Core.Path.{◌≡◌, refl, sym, ap, ◌∙◌, subst}
use mathlib.Core.Bool.{◌&&◌}
use mathlib.Core.List.{List, ◌∷◌}
use mathlib.Core.Option.{some}
use lib.Dec.{leb}
use lib.IntN.{pos, negsuc}
use borrow.Author.Tests.{leb-true, le-leb}
use Rattle.arith.specs.Numbers.{max_u32, max_i32, is_i32}
use Rattle.arith.proofs.Results.{first_true, second_true, let_through}
use Rattle.decimal.specs.Decimal.{dash, all_digits, well_begun, spelled, read_number, decimal, signed_decimal}
use Rattle.decimal.proofs.ReadsBack.{reads_back}
use Rattle.decimal.proofs.OneForm.{one_form}
use Rattle.digits.specs.Forms.{DigitsOf, Unsigned, Signed}

-- what reads as n has its digits
digits_read : (text : List ℕ) (n : ℕ) → read_number text ≡ some n → DigitsOf text n
unfolding read_number
digits_read text n h =
    let g = let_through (well_begun text && (all_digits text && leb (spelled 0 text) max_u32)) (spelled 0 text) n h in
    let rest = second_true (well_begun text) _ g.holds in
    record { begun = first_true (well_begun text) _ g.holds; digits = first_true (all_digits text) _ rest; spell = g.value }

-- digits of 32 bits read as n
read_digits : (text : List ℕ) (n : ℕ) → n ≤ max_u32 → DigitsOf text n → read_number text ≡ some n
unfolding read_number
read_digits text n h d = rw d.begun (rw d.digits (rw d.spell (rw (le-leb n max_u32 h) refl)))

-- and are what is printed
printed : (text : List ℕ) (n : ℕ) → n ≤ max_u32 → DigitsOf text n → text ≡ decimal n
printed text n h d = (one_form text n (read_digits text n h d)).printed

has_digits : (n : ℕ) → n ≤ max_u32 → DigitsOf (decimal n) n
has_digits n h = digits_read (decimal n) n (reads_back n h)

pub unsigned : Unsigned
unsigned n h text =
    ((printed text n h, λ e. subst (λ (t : List ℕ). DigitsOf t n) (sym e) (has_digits n h)), (λ r. (one_form text n r).printed, λ e. ap read_number e ∙ reads_back n h))

pub signed : Signed
unfolding signed_decimal is_i32
signed (pos n) h text = (unsigned n (omega (arith, leb-true n max_i32 h)) text).0
signed (negsuc n) h text =
    let fits : suc n ≤ max_u32 = omega (arith, leb-true n max_i32 h) in (
      λ f. f.1 ∙ ap (λ (t : List ℕ). dash ∷ t) (printed f.0 (suc n) fits f.2),
      λ e. (decimal (suc n), e, has_digits (suc n) fits),
    )
