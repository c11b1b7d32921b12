-- Sheets and their answers, computed from the definitions. Made by tools/examples from tools/cases/Length.txt.
use Prim.Native.Nat.{ℕ, zero, suc}
use mathlib.Core.List.{List, [], ◌∷◌, ◌++◌, map}
use mathlib.Core.Path.{◌≡◌, refl}
use Rattle.decimal.specs.Text.{bytes}
use Rattle.answers.specs.Output.{lay_output}
use Rattle.answers.proofs.Opened.{opened}

infix 70 ◌times◌
abbrev ◌times◌ : ℕ → List ℕ → List ℕ
◌times◌ zero text = []
◌times◌ (suc n) text = text ++ (n times text)

sheets : List (List ℕ × List ℕ)
sheets =
    -- 65,536 bytes: 22 chains into a scalar
    (bytes "G,1,1,1,1,1,1\nB\nP,0,0\n" ++ 21 times (bytes "C,65,1" ++ 255 times bytes ",v4294967295" ++ bytes "\n") ++ bytes "C,65,1" ++ 91 times bytes ",v4294967295" ++ bytes ",v429496\n", bytes "e,19\ne,19\ne,19\ne,19\ne,19\ne,19\ne,19\ne,19\ne,19\ne,19\ne,19\ne,19\ne,19\ne,19\ne,19\ne,19\ne,19\ne,19\ne,19\ne,19\ne,19\ne,19\n")
    -- by hand: 65,537 bytes, otherwise good
    ∷ (bytes "G,1,1,1,1,1,1\nB\nP,0,0\n" ++ 21 times (bytes "C,65,1" ++ 255 times bytes ",v4294967295" ++ bytes "\n") ++ bytes "C,65,1" ++ 91 times bytes ",v4294967295" ++ bytes ",v4294960\n", bytes "e,2\n")
    -- by hand: 65,536 bytes of which none is good
    ∷ (65536 times bytes "x", bytes "e,1\n")
    -- by hand: 65,537 bytes of which none is good
    ∷ (65537 times bytes "x", bytes "e,2\n")
    ∷ []

answered : map (λ row. lay_output row.0) sheets ≡ map (λ row. row.1) sheets
unfolding opened sheets
answered = refl
