-- Steps stored in five parallel lent lists, a list for each word of a step.
use Rattle.std.specs.Prelude.{ℕ, ◌≡◌, List}
use Rattle.std.proofs.lemmas.List.Edits.{sets}
use Rattle.lower.specs.declared.QPtrOp.{QPtrOp}
use Rattle.steps.specs.Lists.{column}

-- from place n on; a word past a list's end is stored nowhere
pub record StoredAt (n : ℕ) (steps : List QPtrOp) (ks bs ls ms is ks' bs' ls' ms' is' : List ℕ) : Type 0 where
  pub kinds : ks' ≡ sets ks n (column (λ w. w.kind) steps)
  pub bytes : bs' ≡ sets bs n (column (λ w. w.bytes) steps)
  pub bounds : ls' ≡ sets ls n (column (λ w. w.bound) steps)
  pub marks : ms' ≡ sets ms n (column (λ w. w.mark) steps)
  pub indices : is' ≡ sets is n (column (λ w. w.index) steps)
