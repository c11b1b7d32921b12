-- Each answer is read back from its words, and a layout from no others. Assumes nothing.
use Prim.Native.Nat.{ℕ}
use mathlib.Core.Path.{◌≡◌, refl, sym, ap, ◌∙◌}
use mathlib.Core.Bool.{Bool, true, false, cond}
use mathlib.Core.List.{List}
use native.Mathlib.Omega.{arith}
use lib.ListN.{length}
use Rattle.arith.specs.Refusals.{misread}
use Rattle.spirv.specs.Rows.{same_words}
use Rattle.shapes.specs.Words.{memory_words, handle_words, encode, memory_of, answer_of, decode, ReadsBack}
use Rattle.shapes.specs.declared.Components.{Components}
use Rattle.shapes.specs.declared.Components.TheVariants.{Scalar, Elements, Fields}
use Rattle.shapes.specs.declared.MemTypeLayout.{MemTypeLayout}
use Rattle.shapes.specs.declared.MaybeDynMemLayout.{MaybeDynMemLayout}
use Rattle.shapes.specs.declared.Handle.{Handle}
use Rattle.shapes.specs.declared.Handle.TheVariants.{Opaque, Buffer}
use Rattle.shapes.specs.declared.TypeLayout.{TypeLayout}
use Rattle.shapes.specs.declared.TypeLayout.TheVariants as layout
use Rattle.arith.specs.InCode.{OrRefusal, err}
use Rattle.std.specs.Prelude.{Ok, Err}
use Rattle.spirv.proofs.Words.{same_self, same_is, other_length}

-- ---- ten words

abbrev with_parts : MaybeDynMemLayout → Components → MemTypeLayout
with_parts mem parts = record { mem = mem; components = parts }

memory_length : (tag n : ℕ) (mem : MaybeDynMemLayout) (parts : Components) → length (memory_words tag n (with_parts mem parts)) ≡ 10
unfolding memory_words
memory_length tag n mem Scalar = refl
memory_length tag n mem (Elements stride elem len) = refl
memory_length tag n mem (Fields start count) = refl

handle_length : (tag n : ℕ) (h : Handle) → length (handle_words tag n h) ≡ 10
unfolding handle_words
handle_length tag n Opaque = refl
handle_length tag n (Buffer m) = memory_length tag n m.mem m.components

pub encode_length : (a : OrRefusal TypeLayout) → length (encode a) ≡ 10
unfolding encode
encode_length (Err e) = refl
encode_length (Ok (layout.Handle h)) = handle_length 1 0 h
encode_length (Ok (layout.HandleArray h n)) = handle_length 2 n h
encode_length (Ok (layout.Concrete m)) = memory_length 3 0 m.mem m.components

-- ---- and back

memory_back : (tag n : ℕ) (mem : MaybeDynMemLayout) (parts : Components) → memory_of (memory_words tag n (with_parts mem parts)) ≡ with_parts mem parts
unfolding memory_words memory_of
memory_back tag n mem Scalar = refl
memory_back tag n mem (Elements stride elem len) = refl
memory_back tag n mem (Fields start count) = refl

handle_back : (n : ℕ) (mem : MaybeDynMemLayout) (parts : Components) → answer_of (memory_words 1 n (with_parts mem parts)) ≡ Ok (layout.Handle (Buffer (with_parts mem parts)))
unfolding answer_of memory_words memory_of
handle_back n mem Scalar = refl
handle_back n mem (Elements stride elem len) = refl
handle_back n mem (Fields start count) = refl

array_back : (n : ℕ) (mem : MaybeDynMemLayout) (parts : Components) → answer_of (memory_words 2 n (with_parts mem parts)) ≡ Ok (layout.HandleArray (Buffer (with_parts mem parts)) n)
unfolding answer_of memory_words memory_of
array_back n mem Scalar = refl
array_back n mem (Elements stride elem len) = refl
array_back n mem (Fields start count) = refl

concrete_back : (n : ℕ) (mem : MaybeDynMemLayout) (parts : Components) → answer_of (memory_words 3 n (with_parts mem parts)) ≡ Ok (layout.Concrete (with_parts mem parts))
unfolding answer_of memory_words memory_of
concrete_back n mem Scalar = refl
concrete_back n mem (Elements stride elem len) = refl
concrete_back n mem (Fields start count) = refl

answer_back : (a : OrRefusal TypeLayout) → answer_of (encode a) ≡ a
unfolding encode answer_of handle_words
answer_back (Err e) = refl
answer_back (Ok (layout.Handle Opaque)) = refl
answer_back (Ok (layout.Handle (Buffer m))) = handle_back 0 m.mem m.components
answer_back (Ok (layout.HandleArray Opaque n)) = refl
answer_back (Ok (layout.HandleArray (Buffer m) n)) = array_back n m.mem m.components
answer_back (Ok (layout.Concrete m)) = concrete_back 0 m.mem m.components

pub decode_encode : (a : OrRefusal TypeLayout) → decode (encode a) ≡ a
unfolding decode
decode_encode a = rw (answer_back a, same_self (encode a))

encoded_only : (ws : List ℕ) (l : TypeLayout) → decode ws ≡ Ok l → ws ≡ encode (Ok l)
unfolding decode
encoded_only ws l h = by_test (same_words (encode (answer_of ws)) ws) refl h
  where
    by_test : (t : Bool) → same_words (encode (answer_of ws)) ws ≡ t → cond t (answer_of ws) (err misread) ≡ Ok l → ws ≡ encode (Ok l)
    by_test true e g = sym (same_is _ _ e) ∙ ap encode g
    by_test false e g = let z : ◌≡◌ {A = ℕ} 0 1 = cc in absurd (omega arith)

pub reads_back : ReadsBack
reads_back = record { back = decode_encode; only = encoded_only }

-- words that are not ten are none's
pub not_ten : (ws : List ℕ) → (length ws ≡ 10 → ⊥) → decode ws ≡ err misread
unfolding decode
not_ten ws h = rw (other_length (encode (answer_of ws)) ws (λ e. h (sym e ∙ encode_length (answer_of ws))))
