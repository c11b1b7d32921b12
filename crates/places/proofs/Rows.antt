-- Rows of memory and buffers, known by the words of their parts. Assumes nothing.
use Prim.Native.Nat.{ℕ}
use mathlib.Core.Path.{◌≡◌, ap, ◌∙◌}
use mathlib.Core.List.{List, [], ◌∷◌}
use lib.ListN.{length, get_or}
use Rattle.shapes.specs.Words.{memory_words, handle_words, encode, decode}
use Rattle.shapes.specs.declared.Components.{Components}
use Rattle.shapes.specs.declared.Components.TheVariants.{Scalar, Elements, Fields}
use Rattle.shapes.specs.declared.Handle.TheVariants as handle
use Rattle.shapes.specs.declared.TypeLayout.{TypeLayout}
use Rattle.shapes.specs.declared.TypeLayout.TheVariants as layout
use Rattle.std.specs.Prelude.{Ok}
use Rattle.shapes.proofs.ReadsBack.{decode_encode}
use Rattle.arith.proofs.Listed.{one_by_one}
use Rattle.places.specs.declared.Place.TheVariants.{Memory, Buffer}
use Rattle.places.specs.Places.{place_of, found_of, memory_with, Made}

module _ (ws : List ℕ) (h : length ws ≡ 10) (none : get_or ws 1 0 ≡ 0) where
  abbrev numbers : (last : List ℕ) → List ℕ
  numbers last = get_or ws 3 0 ∷ get_or ws 4 0 ∷ get_or ws 5 0 ∷ get_or ws 6 0 ∷ last

  -- a row of a kind
  of_kind : {kind : ℕ} → get_or ws 2 0 ≡ kind → ws ≡ get_or ws 0 0 ∷ 0 ∷ kind ∷ numbers (get_or ws 7 0 ∷ get_or ws 8 0 ∷ get_or ws 9 0 ∷ [])
  of_kind k = one_by_one 10 ws h
      ∙ ap (λ (x : ℕ). get_or ws 0 0 ∷ x ∷ get_or ws 2 0 ∷ numbers (get_or ws 7 0 ∷ get_or ws 8 0 ∷ get_or ws 9 0 ∷ [])) none
      ∙ ap (λ (x : ℕ). get_or ws 0 0 ∷ 0 ∷ x ∷ numbers (get_or ws 7 0 ∷ get_or ws 8 0 ∷ get_or ws 9 0 ∷ [])) k

  pub of_elements_lem : get_or ws 2 0 ≡ 2 → Made ws (Elements (get_or ws 7 0) (get_or ws 8 0) (get_or ws 9 0))
  unfolding memory_words
  of_elements_lem k = of_kind k

  pub of_fields : get_or ws 2 0 ≡ 3 → get_or ws 9 0 ≡ 0 → Made ws (Fields (get_or ws 7 0) (get_or ws 8 0))
  unfolding memory_words
  of_fields k last = of_kind k ∙ ap (λ (x : ℕ). get_or ws 0 0 ∷ 0 ∷ 3 ∷ numbers (get_or ws 7 0 ∷ get_or ws 8 0 ∷ x ∷ [])) last

  pub of_scalar : get_or ws 2 0 ≡ 1 → get_or ws 7 0 ≡ 0 → get_or ws 8 0 ≡ 0 → get_or ws 9 0 ≡ 0 → Made ws Scalar
  unfolding memory_words
  of_scalar k a b c = of_kind k
      ∙ ap (λ (x : ℕ). get_or ws 0 0 ∷ 0 ∷ 1 ∷ numbers (x ∷ get_or ws 8 0 ∷ get_or ws 9 0 ∷ [])) a
      ∙ ap (λ (x : ℕ). get_or ws 0 0 ∷ 0 ∷ 1 ∷ numbers (0 ∷ x ∷ get_or ws 9 0 ∷ [])) b
      ∙ ap (λ (x : ℕ). get_or ws 0 0 ∷ 0 ∷ 1 ∷ numbers (0 ∷ 0 ∷ x ∷ [])) c

-- what the words of a layout are read as
read : (ws : List ℕ) (l : TypeLayout) → ws ≡ encode (Ok l) → found_of (decode ws) ≡ Ok (place_of l)
read ws l e = ap (λ (x : List ℕ). found_of (decode x)) e ∙ ap found_of (decode_encode (Ok l))

module _ (ws : List ℕ) (c : Components) (made : Made ws c) where
  pub of_memory : get_or ws 0 0 ≡ 3 → found_of (decode ws) ≡ Ok (Memory c)
  unfolding encode
  of_memory tag = read ws (layout.Concrete (memory_with ws c)) (made ∙ ap (λ (x : ℕ). memory_words x 0 (memory_with ws c)) tag)

  pub of_buffer : get_or ws 0 0 ≡ 1 → found_of (decode ws) ≡ Ok (Buffer c)
  unfolding encode handle_words
  of_buffer tag = read ws (layout.Handle (handle.Buffer (memory_with ws c))) (made ∙ ap (λ (x : ℕ). memory_words x 0 (memory_with ws c)) tag)
