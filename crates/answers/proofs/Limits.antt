-- Sheets and their answers, computed from the definitions. Made by tools/examples from tools/cases/Limits.txt.
use Prim.Native.Nat.{ℕ, zero, suc}
use mathlib.Core.List.{List, [], ◌∷◌, ◌++◌, map}
use mathlib.Core.Path.{◌≡◌, refl}
use Rattle.decimal.specs.Text.{bytes}
use Rattle.answers.specs.Output.{lay_output}
use Rattle.answers.proofs.Opened.{opened}

infix 70 ◌times◌
abbrev ◌times◌ : ℕ → List ℕ → List ℕ
◌times◌ zero text = []
◌times◌ (suc n) text = text ++ (n times text)

sheets : List (List ℕ × List ℕ)
sheets =
    -- 256 types; their last is a type like others
    (bytes "G,1,1,1,1,1,1\nB\nB\nB\nB\nB\nB\nB\nB\nB\nB\nB\nB\nB\nB\nB\nB\nB\nB\nB\nB\nB\nB\nB\nB\nB\nB\nB\nB\nB\nB\nB\nB\nB\nB\nB\nB\nB\nB\nB\nB\nB\nB\nB\nB\nB\nB\nB\nB\nB\nB\nB\nB\nB\nB\nB\nB\nB\nB\nB\nB\nB\nB\nB\nB\nB\nB\nB\nB\nB\nB\nB\nB\nB\nB\nB\nB\nB\nB\nB\nB\nB\nB\nB\nB\nB\nB\nB\nB\nB\nB\nB\nB\nB\nB\nB\nB\nB\nB\nB\nB\nB\nB\nB\nB\nB\nB\nB\nB\nB\nB\nB\nB\nB\nB\nB\nB\nB\nB\nB\nB\nB\nB\nB\nB\nB\nB\nB\nB\nB\nB\nB\nB\nB\nB\nB\nB\nB\nB\nB\nB\nB\nB\nB\nB\nB\nB\nB\nB\nB\nB\nB\nB\nB\nB\nB\nB\nB\nB\nB\nB\nB\nB\nB\nB\nB\nB\nB\nB\nB\nB\nB\nB\nB\nB\nB\nB\nB\nB\nB\nB\nB\nB\nB\nB\nB\nB\nB\nB\nB\nB\nB\nB\nB\nB\nB\nB\nB\nB\nB\nB\nB\nB\nB\nB\nB\nB\nB\nB\nB\nB\nB\nB\nB\nB\nB\nB\nB\nB\nB\nB\nB\nB\nB\nB\nB\nB\nB\nB\nB\nB\nB\nB\nB\nB\nB\nB\nB\nB\nB\nB\nB\nB\nB\nB\nB\nB\nB\nB\nB\nB\nB\nB\nB\nB\nF,32\nP,7,254\nT,0\nT,255\nC,67,255,3\n", bytes "t,c,0,1,1,1,0\nt,c,0,1,1,1,0\nc,O,12\n")
    -- by hand: the 257th type is one too many
    ∷ (bytes "G,1,1,1,1,1,1\nB\nB\nB\nB\nB\nB\nB\nB\nB\nB\nB\nB\nB\nB\nB\nB\nB\nB\nB\nB\nB\nB\nB\nB\nB\nB\nB\nB\nB\nB\nB\nB\nB\nB\nB\nB\nB\nB\nB\nB\nB\nB\nB\nB\nB\nB\nB\nB\nB\nB\nB\nB\nB\nB\nB\nB\nB\nB\nB\nB\nB\nB\nB\nB\nB\nB\nB\nB\nB\nB\nB\nB\nB\nB\nB\nB\nB\nB\nB\nB\nB\nB\nB\nB\nB\nB\nB\nB\nB\nB\nB\nB\nB\nB\nB\nB\nB\nB\nB\nB\nB\nB\nB\nB\nB\nB\nB\nB\nB\nB\nB\nB\nB\nB\nB\nB\nB\nB\nB\nB\nB\nB\nB\nB\nB\nB\nB\nB\nB\nB\nB\nB\nB\nB\nB\nB\nB\nB\nB\nB\nB\nB\nB\nB\nB\nB\nB\nB\nB\nB\nB\nB\nB\nB\nB\nB\nB\nB\nB\nB\nB\nB\nB\nB\nB\nB\nB\nB\nB\nB\nB\nB\nB\nB\nB\nB\nB\nB\nB\nB\nB\nB\nB\nB\nB\nB\nB\nB\nB\nB\nB\nB\nB\nB\nB\nB\nB\nB\nB\nB\nB\nB\nB\nB\nB\nB\nB\nB\nB\nB\nB\nB\nB\nB\nB\nB\nB\nB\nB\nB\nB\nB\nB\nB\nB\nB\nB\nB\nB\nB\nB\nB\nB\nB\nB\nB\nB\nB\nB\nB\nB\nB\nB\nB\nB\nB\nB\nB\nB\nB\nB\nB\nB\nB\nB\nB\nB\nT,0\n", bytes "e,2\n")
    -- by hand: 1 comes before 2 where the 257th type breaks its form
    ∷ (bytes "G,1,1,1,1,1,1\nB\nB\nB\nB\nB\nB\nB\nB\nB\nB\nB\nB\nB\nB\nB\nB\nB\nB\nB\nB\nB\nB\nB\nB\nB\nB\nB\nB\nB\nB\nB\nB\nB\nB\nB\nB\nB\nB\nB\nB\nB\nB\nB\nB\nB\nB\nB\nB\nB\nB\nB\nB\nB\nB\nB\nB\nB\nB\nB\nB\nB\nB\nB\nB\nB\nB\nB\nB\nB\nB\nB\nB\nB\nB\nB\nB\nB\nB\nB\nB\nB\nB\nB\nB\nB\nB\nB\nB\nB\nB\nB\nB\nB\nB\nB\nB\nB\nB\nB\nB\nB\nB\nB\nB\nB\nB\nB\nB\nB\nB\nB\nB\nB\nB\nB\nB\nB\nB\nB\nB\nB\nB\nB\nB\nB\nB\nB\nB\nB\nB\nB\nB\nB\nB\nB\nB\nB\nB\nB\nB\nB\nB\nB\nB\nB\nB\nB\nB\nB\nB\nB\nB\nB\nB\nB\nB\nB\nB\nB\nB\nB\nB\nB\nB\nB\nB\nB\nB\nB\nB\nB\nB\nB\nB\nB\nB\nB\nB\nB\nB\nB\nB\nB\nB\nB\nB\nB\nB\nB\nB\nB\nB\nB\nB\nB\nB\nB\nB\nB\nB\nB\nB\nB\nB\nB\nB\nB\nB\nB\nB\nB\nB\nB\nB\nB\nB\nB\nB\nB\nB\nB\nB\nB\nB\nB\nB\nB\nB\nB\nB\nB\nB\nB\nB\nB\nB\nB\nB\nB\nB\nB\nB\nB\nB\nB\nB\nB\nB\nB\nB\nB\nB\nB\nB\nB\nB\nB,0\n", bytes "e,1\n")
    -- by hand: 1 comes before 2 where the 257th type has no LF
    ∷ (bytes "G,1,1,1,1,1,1\nB\nB\nB\nB\nB\nB\nB\nB\nB\nB\nB\nB\nB\nB\nB\nB\nB\nB\nB\nB\nB\nB\nB\nB\nB\nB\nB\nB\nB\nB\nB\nB\nB\nB\nB\nB\nB\nB\nB\nB\nB\nB\nB\nB\nB\nB\nB\nB\nB\nB\nB\nB\nB\nB\nB\nB\nB\nB\nB\nB\nB\nB\nB\nB\nB\nB\nB\nB\nB\nB\nB\nB\nB\nB\nB\nB\nB\nB\nB\nB\nB\nB\nB\nB\nB\nB\nB\nB\nB\nB\nB\nB\nB\nB\nB\nB\nB\nB\nB\nB\nB\nB\nB\nB\nB\nB\nB\nB\nB\nB\nB\nB\nB\nB\nB\nB\nB\nB\nB\nB\nB\nB\nB\nB\nB\nB\nB\nB\nB\nB\nB\nB\nB\nB\nB\nB\nB\nB\nB\nB\nB\nB\nB\nB\nB\nB\nB\nB\nB\nB\nB\nB\nB\nB\nB\nB\nB\nB\nB\nB\nB\nB\nB\nB\nB\nB\nB\nB\nB\nB\nB\nB\nB\nB\nB\nB\nB\nB\nB\nB\nB\nB\nB\nB\nB\nB\nB\nB\nB\nB\nB\nB\nB\nB\nB\nB\nB\nB\nB\nB\nB\nB\nB\nB\nB\nB\nB\nB\nB\nB\nB\nB\nB\nB\nB\nB\nB\nB\nB\nB\nB\nB\nB\nB\nB\nB\nB\nB\nB\nB\nB\nB\nB\nB\nB\nB\nB\nB\nB\nB\nB\nB\nB\nB\nB\nB\nB\nB\nB\nB\nB\nB\nB\nB\nB\nB\nB", bytes "e,1\n")
    -- by hand: 2 at the 257th type comes before 1 below it
    ∷ (bytes "G,1,1,1,1,1,1\nB\nB\nB\nB\nB\nB\nB\nB\nB\nB\nB\nB\nB\nB\nB\nB\nB\nB\nB\nB\nB\nB\nB\nB\nB\nB\nB\nB\nB\nB\nB\nB\nB\nB\nB\nB\nB\nB\nB\nB\nB\nB\nB\nB\nB\nB\nB\nB\nB\nB\nB\nB\nB\nB\nB\nB\nB\nB\nB\nB\nB\nB\nB\nB\nB\nB\nB\nB\nB\nB\nB\nB\nB\nB\nB\nB\nB\nB\nB\nB\nB\nB\nB\nB\nB\nB\nB\nB\nB\nB\nB\nB\nB\nB\nB\nB\nB\nB\nB\nB\nB\nB\nB\nB\nB\nB\nB\nB\nB\nB\nB\nB\nB\nB\nB\nB\nB\nB\nB\nB\nB\nB\nB\nB\nB\nB\nB\nB\nB\nB\nB\nB\nB\nB\nB\nB\nB\nB\nB\nB\nB\nB\nB\nB\nB\nB\nB\nB\nB\nB\nB\nB\nB\nB\nB\nB\nB\nB\nB\nB\nB\nB\nB\nB\nB\nB\nB\nB\nB\nB\nB\nB\nB\nB\nB\nB\nB\nB\nB\nB\nB\nB\nB\nB\nB\nB\nB\nB\nB\nB\nB\nB\nB\nB\nB\nB\nB\nB\nB\nB\nB\nB\nB\nB\nB\nB\nB\nB\nB\nB\nB\nB\nB\nB\nB\nB\nB\nB\nB\nB\nB\nB\nB\nB\nB\nB\nB\nB\nB\nB\nB\nB\nB\nB\nB\nB\nB\nB\nB\nB\nB\nB\nB\nB\nB\nB\nB\nB\nB\nB\nB\nB\nB\nB\nB\nB\nB\nW\n", bytes "e,2\n")
    -- by hand: 1 in a line above the 257th type comes first
    ∷ (bytes "G,1,1,1,1,1,1\nB\nB\nB\nB\nB\nB\nB\nB\nB\nB\nB\nB\nB\nB\nB\nB\nB\nB\nB\nB\nB\nB\nB\nB\nB\nB\nB\nB\nB\nB\nB\nB\nB\nB\nB\nB\nB\nB\nB\nB\nB\nB\nB\nB\nB\nB\nB\nB\nB\nB\nB\nB\nB\nB\nB\nB\nB\nB\nB\nB\nB\nB\nB\nB\nB\nB\nB\nB\nB\nB\nB\nB\nB\nB\nB\nB\nB\nB\nB\nB\nB\nB\nB\nB\nB\nB\nB\nB\nB\nB\nB\nB\nB\nB\nB\nB\nB\nB\nB\nB\nB\nB\nB\nB\nB\nB\nB\nB\nB\nB\nB\nB\nB\nB\nB\nB\nB\nB\nB\nB\nB\nB\nB\nB\nB\nB\nB\nB\nB\nB\nB\nB\nB\nB\nB\nB\nB\nB\nB\nB\nB\nB\nB\nB\nB\nB\nB\nB\nB\nB\nB\nB\nB\nB\nB\nB\nB\nB\nB\nB\nB\nB\nB\nB\nB\nB\nB\nB\nB\nB\nB\nB\nB\nB\nB\nB\nB\nB\nB\nB\nB\nB\nB\nB\nB\nB\nB\nB\nB\nB\nB\nB\nB\nB\nB\nB\nB\nB\nB\nB\nB\nB\nB\nB\nB\nB\nB\nB\nB\nB\nB\nB\nB\nB\nB\nB\nB\nB\nB\nB\nB\nB\nB\nB\nB\nB\nB\nB\nB\nB\nB\nB\nB\nB\nB\nB\nB\nB\nB\nB\nB\nB\nB\nB\nB\nB\nB\nB\nB\nB\nB\nB\nB\nB\nB\nB\nW\nB\n", bytes "e,1\n")
    -- D lines and questions are no types: they may follow the 256th
    ∷ (bytes "G,1,1,1,1,1,1\nB\nB\nB\nB\nB\nB\nB\nB\nB\nB\nB\nB\nB\nB\nB\nB\nB\nB\nB\nB\nB\nB\nB\nB\nB\nB\nB\nB\nB\nB\nB\nB\nB\nB\nB\nB\nB\nB\nB\nB\nB\nB\nB\nB\nB\nB\nB\nB\nB\nB\nB\nB\nB\nB\nB\nB\nB\nB\nB\nB\nB\nB\nB\nB\nB\nB\nB\nB\nB\nB\nB\nB\nB\nB\nB\nB\nB\nB\nB\nB\nB\nB\nB\nB\nB\nB\nB\nB\nB\nB\nB\nB\nB\nB\nB\nB\nB\nB\nB\nB\nB\nB\nB\nB\nB\nB\nB\nB\nB\nB\nB\nB\nB\nB\nB\nB\nB\nB\nB\nB\nB\nB\nB\nB\nB\nB\nB\nB\nB\nB\nB\nB\nB\nB\nB\nB\nB\nB\nB\nB\nB\nB\nB\nB\nB\nB\nB\nB\nB\nB\nB\nB\nB\nB\nB\nB\nB\nB\nB\nB\nB\nB\nB\nB\nB\nB\nB\nB\nB\nB\nB\nB\nB\nB\nB\nB\nB\nB\nB\nB\nB\nB\nB\nB\nB\nB\nB\nB\nB\nB\nB\nB\nB\nB\nB\nB\nB\nB\nB\nB\nB\nB\nB\nB\nB\nB\nB\nB\nB\nB\nB\nB\nB\nB\nB\nB\nB\nB\nB\nB\nB\nB\nB\nB\nB\nB\nB\nB\nB\nB\nB\nB\nB\nB\nB\nB\nB\nB\nB\nB\nB\nB\nB\nB\nB\nB\nB\nB\nB\nB\nB\nB\nB\nB\nB\nS,0,2,0,0\nD,0,35,4\nD,1,35,0\nT,255\nE,0,254\n", bytes "t,c,0,5,1,1,0,4,0\ny\n")
    -- 1,024 members of one struct, each of size 0, and a struct of none below
    ∷ (bytes "G,1,1,1,1,1,1\nS,0,0\nS,0,1024" ++ 1024 times bytes ",0" ++ bytes "\nS,0,0\nP,7,1\nT,1\nT,2\nC,65,3,1023\nC,65,3,1024\nQ,1,0,1\n", bytes "t,c,0,0,1,1,0" ++ 1024 times bytes ",0" ++ bytes "\nt,c,0,0,1,1,0\nc\ne,21\nq\n")
    -- 1,024 members in all: 1,000 and 24; offsets rise
    ∷ (bytes "G,1,1,1,1,1,1\nI,8\nS,0,1000" ++ 1000 times bytes ",0" ++ bytes "\nS,1,24,1,1,1,1,1,1,1,1,1,1,1,1,1,1,1,1,1,1,1,1,1,1,1,1\nP,7,2\nT,2\nC,65,3,23,999\nQ,1,999,1000\n", bytes "t,b,0,24000,1,1,0,0,1000,2000,3000,4000,5000,6000,7000,8000,9000,10000,11000,12000,13000,14000,15000,16000,17000,18000,19000,20000,21000,22000,23000\nc,B,O,23999\nq,999\n")
    -- by hand: 1,025 members of one struct
    ∷ (bytes "G,1,1,1,1,1,1\nB\nS,0,1025" ++ 1025 times bytes ",0" ++ bytes "\n", bytes "e,2\n")
    -- by hand: 1,025 members in all
    ∷ (bytes "G,1,1,1,1,1,1\nB\nS,0,1000" ++ 1000 times bytes ",0" ++ bytes "\nS,0,25,0,0,0,0,0,0,0,0,0,0,0,0,0,0,0,0,0,0,0,0,0,0,0,0,0\n", bytes "e,2\n")
    -- by hand: 1 comes before 2 where S says 1,025 and lists 1,024
    ∷ (bytes "G,1,1,1,1,1,1\nB\nS,0,1025" ++ 1024 times bytes ",0" ++ bytes "\n", bytes "e,1\n")
    -- by hand: 1 comes before 2 where the 1,025th member is no type above
    ∷ (bytes "G,1,1,1,1,1,1\nB\nS,0,1025" ++ 1024 times bytes ",0" ++ bytes ",1\n", bytes "e,1\n")
    -- 255 indices that give 256 steps, H, B, O and 253 times D, on 256 types
    ∷ (bytes "G,1,1,1,1,1,1\nF,32\nA,0,1,-\nA,1,1,-\nA,2,1,-\nA,3,1,-\nA,4,1,-\nA,5,1,-\nA,6,1,-\nA,7,1,-\nA,8,1,-\nA,9,1,-\nA,10,1,-\nA,11,1,-\nA,12,1,-\nA,13,1,-\nA,14,1,-\nA,15,1,-\nA,16,1,-\nA,17,1,-\nA,18,1,-\nA,19,1,-\nA,20,1,-\nA,21,1,-\nA,22,1,-\nA,23,1,-\nA,24,1,-\nA,25,1,-\nA,26,1,-\nA,27,1,-\nA,28,1,-\nA,29,1,-\nA,30,1,-\nA,31,1,-\nA,32,1,-\nA,33,1,-\nA,34,1,-\nA,35,1,-\nA,36,1,-\nA,37,1,-\nA,38,1,-\nA,39,1,-\nA,40,1,-\nA,41,1,-\nA,42,1,-\nA,43,1,-\nA,44,1,-\nA,45,1,-\nA,46,1,-\nA,47,1,-\nA,48,1,-\nA,49,1,-\nA,50,1,-\nA,51,1,-\nA,52,1,-\nA,53,1,-\nA,54,1,-\nA,55,1,-\nA,56,1,-\nA,57,1,-\nA,58,1,-\nA,59,1,-\nA,60,1,-\nA,61,1,-\nA,62,1,-\nA,63,1,-\nA,64,1,-\nA,65,1,-\nA,66,1,-\nA,67,1,-\nA,68,1,-\nA,69,1,-\nA,70,1,-\nA,71,1,-\nA,72,1,-\nA,73,1,-\nA,74,1,-\nA,75,1,-\nA,76,1,-\nA,77,1,-\nA,78,1,-\nA,79,1,-\nA,80,1,-\nA,81,1,-\nA,82,1,-\nA,83,1,-\nA,84,1,-\nA,85,1,-\nA,86,1,-\nA,87,1,-\nA,88,1,-\nA,89,1,-\nA,90,1,-\nA,91,1,-\nA,92,1,-\nA,93,1,-\nA,94,1,-\nA,95,1,-\nA,96,1,-\nA,97,1,-\nA,98,1,-\nA,99,1,-\nA,100,1,-\nA,101,1,-\nA,102,1,-\nA,103,1,-\nA,104,1,-\nA,105,1,-\nA,106,1,-\nA,107,1,-\nA,108,1,-\nA,109,1,-\nA,110,1,-\nA,111,1,-\nA,112,1,-\nA,113,1,-\nA,114,1,-\nA,115,1,-\nA,116,1,-\nA,117,1,-\nA,118,1,-\nA,119,1,-\nA,120,1,-\nA,121,1,-\nA,122,1,-\nA,123,1,-\nA,124,1,-\nA,125,1,-\nA,126,1,-\nA,127,1,-\nA,128,1,-\nA,129,1,-\nA,130,1,-\nA,131,1,-\nA,132,1,-\nA,133,1,-\nA,134,1,-\nA,135,1,-\nA,136,1,-\nA,137,1,-\nA,138,1,-\nA,139,1,-\nA,140,1,-\nA,141,1,-\nA,142,1,-\nA,143,1,-\nA,144,1,-\nA,145,1,-\nA,146,1,-\nA,147,1,-\nA,148,1,-\nA,149,1,-\nA,150,1,-\nA,151,1,-\nA,152,1,-\nA,153,1,-\nA,154,1,-\nA,155,1,-\nA,156,1,-\nA,157,1,-\nA,158,1,-\nA,159,1,-\nA,160,1,-\nA,161,1,-\nA,162,1,-\nA,163,1,-\nA,164,1,-\nA,165,1,-\nA,166,1,-\nA,167,1,-\nA,168,1,-\nA,169,1,-\nA,170,1,-\nA,171,1,-\nA,172,1,-\nA,173,1,-\nA,174,1,-\nA,175,1,-\nA,176,1,-\nA,177,1,-\nA,178,1,-\nA,179,1,-\nA,180,1,-\nA,181,1,-\nA,182,1,-\nA,183,1,-\nA,184,1,-\nA,185,1,-\nA,186,1,-\nA,187,1,-\nA,188,1,-\nA,189,1,-\nA,190,1,-\nA,191,1,-\nA,192,1,-\nA,193,1,-\nA,194,1,-\nA,195,1,-\nA,196,1,-\nA,197,1,-\nA,198,1,-\nA,199,1,-\nA,200,1,-\nA,201,1,-\nA,202,1,-\nA,203,1,-\nA,204,1,-\nA,205,1,-\nA,206,1,-\nA,207,1,-\nA,208,1,-\nA,209,1,-\nA,210,1,-\nA,211,1,-\nA,212,1,-\nA,213,1,-\nA,214,1,-\nA,215,1,-\nA,216,1,-\nA,217,1,-\nA,218,1,-\nA,219,1,-\nA,220,1,-\nA,221,1,-\nA,222,1,-\nA,223,1,-\nA,224,1,-\nA,225,1,-\nA,226,1,-\nA,227,1,-\nA,228,1,-\nA,229,1,-\nA,230,1,-\nA,231,1,-\nA,232,1,-\nA,233,1,-\nA,234,1,-\nA,235,1,-\nA,236,1,-\nA,237,1,-\nA,238,1,-\nA,239,1,-\nA,240,1,-\nA,241,1,-\nA,242,1,-\nA,243,1,-\nA,244,1,-\nA,245,1,-\nA,246,1,-\nA,247,1,-\nA,248,1,-\nA,249,1,-\nA,250,1,-\nA,251,1,-\nA,252,1,-\nS,1,2,0,253\nP,2,254\nC,67,255,v1,1" ++ 253 times bytes ",v0" ++ bytes "\n", bytes "c,H,v1,B,O,4" ++ 253 times bytes ",D,4,1,v0" ++ bytes "\n")
    -- 255 indices on a type that is no pointer
    ∷ (bytes "G,1,1,1,1,1,1\nB\nC,65,0" ++ 255 times bytes ",v0" ++ bytes "\n", bytes "e,18\n")
    -- by hand: 256 indices, though on a type that is no pointer
    ∷ (bytes "G,1,1,1,1,1,1\nB\nC,65,0" ++ 256 times bytes ",v0" ++ bytes "\n", bytes "e,2\n")
    -- by hand: 1 comes before 2 where 256 indices are on no type
    ∷ (bytes "G,1,1,1,1,1,1\nB\nC,65,1" ++ 256 times bytes ",v0" ++ bytes "\n", bytes "e,1\n")
    -- by hand: 1 comes before 2 where one of 256 indices is misread
    ∷ (bytes "G,1,1,1,1,1,1\nB\nC,65,0" ++ 255 times bytes ",v0" ++ bytes ",v\n", bytes "e,1\n")
    -- by hand: 1 comes before 2 where a chain of 256 indices has no LF
    ∷ (bytes "G,1,1,1,1,1,1\nB\nC,65,0" ++ 256 times bytes ",v0", bytes "e,1\n")
    -- by hand: 2 at the chain of 256 indices comes before 1 below it
    ∷ (bytes "G,1,1,1,1,1,1\nB\nC,65,0" ++ 256 times bytes ",v0" ++ bytes "\nW\n", bytes "e,2\n")
    ∷ []

answered : map (λ row. lay_output row.0) sheets ≡ map (λ row. row.1) sheets
unfolding opened sheets
answered = refl
