-- A sheet that goes on behind 65,537 bytes is refused, and so is its front.
use Rattle.std.proofs.Common.{◌≡◌, ◌<◌, ℕ, Bool, true, false, List, length, take, Ok, Err, OnOk, IfSome, None, Some, refl, sym, ap, subst, ◌∙◌, arith, take_all, length-take}
use borrow.Author.Tests.{lt-leb, leb-true, leb-false}
use lib.Dec.{leb}
use Rattle.std.specs.declared.option.Option.{Option}
use Rattle.std.specs.declared.result.Result.{Result}
use Rattle.std.specs.Io.KnownBytes.{Appends}
use Rattle.arith.specs.Refusals.{refused, oversize, ◌>>◌, refuse◌unless◌}
use Rattle.sheet.specs.Sheet.{read_sheet, max_bytes}
use Rattle.answers.specs.Output.{lay_output, output_of}
use Rattle.lay.proofs.run.Goals as goal

too_long : (input : List ℕ) → max_bytes < length input → read_sheet input ≡ refused oversize
unfolding read_sheet refuse◌unless◌ ◌>>◌
too_long input h = rw (lt-leb (length input) max_bytes h) refl

front_suffices : (input : List ℕ) → lay_output (take 65537 input) ≡ lay_output input
unfolding lay_output
front_suffices input = by (leb (length input) 65537) refl
  where
    by : (t : Bool) → leb (length input) 65537 ≡ t → output_of (read_sheet (take 65537 input)) ≡ output_of (read_sheet input)
    by true e = ap (λ l. output_of (read_sheet l)) (take_all 65537 input (leb-true (length input) 65537 e))
    by false e =
        let h = leb-false (length input) 65537 e in
        ap output_of (too_long (take 65537 input) (omega (arith, length-take 65537 input)) ∙ sym (too_long input (omega arith)))

module _ (a b : Option (List ℕ)) where
  all_written : {E : Type 0} (known : Option (List ℕ)) (r : Result (Unit {0}) E) (sheet now : List ℕ) → IfSome known (λ bytes. sheet ≡ take 65537 bytes) → now ≡ sheet
      → OnOk r (Appends a b (lay_output now)) → OnOk r (IfSome known (λ bytes. Appends a b (lay_output bytes)))
  all_written known (Err e) sheet now read same written = tt
  all_written None (Ok done) sheet now read same written = tt
  all_written (Some bytes) (Ok done) sheet now read same written = subst (Appends a b) (ap lay_output (same ∙ read) ∙ front_suffices bytes) written

pub returns : goal.returns
returns g c = all_written _ _ (g.R.Read.remaining c.args.input.now) c.answer.result _ _ c.in_ok-n.ensures.front refl c.answer.ensures
