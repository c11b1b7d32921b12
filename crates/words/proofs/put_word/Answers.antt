-- `words::put_word` meets its contract: all four bytes at once where they fit.
use Rattle.std.proofs.Common.{◌≡◌, ◌+◌, ◌-◌, arith, ◌∙◌}
use Rattle.arith.proofs.Stores.{all_put}
use Rattle.words.specs.Little.{little}
use Rattle.words.proofs.Words.{little_is}
use Rattle.words.proofs.put_word.Goals as goal

pub returns-then-at-out : goal.returns-then-at-out
unfolding little
returns-then-at-out c = record {
  place = omega arith;
  bytes =
      let four : c.args.at + 4 - c.args.at ≡ 4 = omega arith in
      let e = c.copy_from_slice.ensures.after ∙ (c.to_le_bytes-bytes.ensures ∙ little_is c.args.w) in
      rw e (all_put c.args.out.now c.args.at _ (little c.args.w) four (omega arith));
}

pub returns : goal.returns
returns c = rw (c.to_le_bytes-bytes.ensures, little_is) at c.bytes.ensures
