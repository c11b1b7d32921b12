-- Sheets and their answers, computed from the definitions. Made by tools/examples from tools/cases/Refusals.txt.
use Prim.Native.String.{String}
use mathlib.Core.List.{List, [], ◌∷◌, map}
use mathlib.Core.Path.{◌≡◌, refl}
use Rattle.decimal.specs.Text.{bytes}
use Rattle.answers.specs.Output.{lay_output}
use Rattle.answers.proofs.Opened.{opened}

sheets : List (String × String)
sheets =
    -- 1 misread (by hand): a line of no kind
    ("G,1,1,1,1,1,1\nF,32\nW,0\nT,0\n", "e,1\n")
    -- 2 oversize (by hand): a chain of 256 indices
    ∷ ("G,1,1,1,1,1,1\nB\nP,7,0\nC,65,1,0,0,0,0,0,0,0,0,0,0,0,0,0,0,0,0,0,0,0,0,0,0,0,0,0,0,0,0,0,0,0,0,0,0,0,0,0,0,0,0,0,0,0,0,0,0,0,0,0,0,0,0,0,0,0,0,0,0,0,0,0,0,0,0,0,0,0,0,0,0,0,0,0,0,0,0,0,0,0,0,0,0,0,0,0,0,0,0,0,0,0,0,0,0,0,0,0,0,0,0,0,0,0,0,0,0,0,0,0,0,0,0,0,0,0,0,0,0,0,0,0,0,0,0,0,0,0,0,0,0,0,0,0,0,0,0,0,0,0,0,0,0,0,0,0,0,0,0,0,0,0,0,0,0,0,0,0,0,0,0,0,0,0,0,0,0,0,0,0,0,0,0,0,0,0,0,0,0,0,0,0,0,0,0,0,0,0,0,0,0,0,0,0,0,0,0,0,0,0,0,0,0,0,0,0,0,0,0,0,0,0,0,0,0,0,0,0,0,0,0,0,0,0,0,0,0,0,0,0,0,0,0,0,0,0,0,0,0,0,0,0,0,0,0,0,0,0,0,0,0,0,0,0,0,0,0\n", "e,2\n")
    -- 3 bad setting (by hand): the minimum is no power of two
    ∷ ("G,1,3,1,1,1,1\nF,32\nT,0\n", "e,3\n")
    -- 4 unsupported, also as element, member and pointee; a pointer to it has a layout
    ∷ ("G,1,1,1,1,1,1\nU\nA,0,2,-\nS,0,1,0\nP,7,0\nT,0\nT,1\nT,2\nT,3\nC,65,3\nC,67,3\nL,3,0\nX,3\nQ,0,0,0\n", "e,4\ne,4\ne,4\nt,c,0,1,1,1,0\ne,4\ne,4\ne,4\ne,4\ne,4\n")
    -- 5 odd width: not a power of two from 8
    ∷ ("G,1,1,1,1,1,1\nI,0\nI,1\nI,4\nF,12\nF,24\nF,4294967295\nI,2147483648\nS,0,1,3\nT,0\nT,1\nT,2\nT,3\nT,4\nT,5\nT,6\nT,7\n", "e,5\ne,5\ne,5\ne,5\ne,5\ne,5\nt,c,0,268435456,268435456,268435456,0\ne,5\n")
    -- 6 zero length comes before the element's own refusal, handles and stride 0
    ∷ ("G,1,1,1,1,1,1\nU\nO\nF,32\nV,0,0\nM,0,0\nA,0,0,-\nA,1,0,-\nA,2,0,0\nT,3\nT,4\nT,5\nT,6\nT,7\n", "e,6\ne,6\ne,6\ne,6\ne,6\n")
    -- 7 specialization comes before the element's own refusal, handles and stride 0
    ∷ ("G,1,1,1,1,1,1\nU\nO\nF,32\nA,0,s,-\nA,1,s,-\nA,2,s,0\nT,3\nT,4\nT,5\n", "e,7\ne,7\ne,7\n")
    -- 8 zero stride: decorated, or of an element of size 0; a decoration helps
    ∷ ("G,1,1,0,1,1,1\nB\nF,32\nS,0,0\nA,1,4,0\nR,1,0\nA,0,4,-\nV,0,2\nR,2,-\nA,2,4,1\nT,3\nT,4\nT,5\nT,6\nT,7\nT,8\n", "e,8\ne,8\ne,8\ne,8\ne,8\nt,c,0,4,1,1,0,1\n")
    -- 8 before 16: stride 0 is tested before the legacy multiple
    ∷ ("G,1,1,0,2147483648,1,1\nB\nV,0,2\nA,0,2,4\nV,2,2\nT,1\nT,2\nT,3\n", "e,8\nt,c,0,8,2147483648,2147483648,0,4\ne,16\n")
    -- 9 nested handles: an array of handles in an array, whatever the stride; also by 67 and 70
    ∷ ("G,1,1,1,1,1,1\nO\nS,1,0\nA,0,2,-\nR,1,-\nA,2,3,0\nR,2,-\nV,3,2\nM,3,2\nP,0,2\nT,4\nT,5\nT,6\nT,7\nC,67,8\nC,70,8,0\nC,65,8,0\n", "e,9\ne,9\ne,9\ne,9\ne,9\ne,9\nc,H,0\n")
    -- 10 unsized element, before stride 0; also by 67 and 70
    ∷ ("G,1,1,1,1,1,1\nF,32\nR,0,-\nS,0,1,1\nR,1,4\nA,1,2,0\nV,2,2\nP,7,1\nP,7,2\nT,3\nT,4\nT,5\nC,65,6,5\nC,67,6,5\nC,70,7\n", "e,10\ne,10\ne,10\nc,O,20\ne,10\ne,10\n")
    -- 11 handle member, in the members' order, before the decorations
    ∷ ("G,1,1,1,1,1,1\nO\nU\nF,32\nA,0,2,-\nS,1,1,2\nS,0,2,0,1\nS,0,2,1,0\nS,0,2,2,3\nS,0,1,4\nS,1,1,0\nD,0,4,-\nT,5\nT,6\nT,7\nT,8\nT,9\n", "e,11\ne,4\ne,11\ne,11\ne,11\n")
    -- 12 row-major, 13 offset repeated, 14 offsets missing: in the order of the D lines, then the count of offsets
    ∷ ("G,1,1,1,1,1,1\nF,32\nS,0,2,0,0\nD,0,4,-\nD,0,35,0\nS,0,2,0,0\nD,0,35,0\nD,0,35,4\nD,1,4,-\nS,0,2,0,0\nD,1,35,0\nD,1,35,4\nS,0,2,0,0\nD,0,35,0\nD,1,35,4\nD,1,35,8\nS,0,2,0,0\nD,0,35,0\nS,0,2,0,0\nD,0,35,0\nD,1,35,4\nD,2,35,8\nS,0,0\nD,0,35,0\nS,0,1,0\nD,9,4,-\nS,0,1,0\nD,9,35,0\nS,0,2,0,0\nD,0,35,0\nD,1,4,-\nS,0,1,0\nD,0,35,0\nD,0,35,4\nD,2,35,0\nT,1\nT,2\nT,3\nT,4\nT,5\nT,6\nT,7\nT,8\nT,9\nT,10\nT,11\n", "e,12\ne,13\ne,14\ne,13\ne,14\ne,14\ne,14\ne,12\ne,14\ne,12\ne,13\n")
    -- 15 unsized misplaced: any member after it, without offsets; a second one, with them
    ∷ ("G,1,1,1,1,1,1\nF,32\nR,0,-\nS,0,0\nS,0,2,1,0\nS,0,2,1,2\nS,0,2,1,1\nS,0,2,1,0\nD,0,35,0\nD,1,35,4\nS,0,2,1,1\nD,0,35,0\nD,1,35,4\nT,3\nT,4\nT,5\nT,6\nT,7\n", "e,15\ne,15\ne,15\nt,c,0,8,4,4,4,0,4\ne,15\n")
    -- 16 before 15 at one member; 15 at a lower member first
    ∷ ("G,1,1,1,1,1,1\nF,32\nR,0,-\nS,0,2,0,1\nS,0,2,1,2\nD,0,35,0\nD,1,35,4294967295\nS,0,3,1,1,0\nD,0,35,0\nD,1,35,0\nD,2,35,4294967295\nT,3\nT,4\n", "e,16\ne,15\n")
    -- 16 overflow: a product, a legacy multiple, the rounding before a member, a member's end, a struct's last rounding
    ∷ ("G,1,1,1,2147483648,1,1\nB\nI,8\nF,32\nA,2,1073741824,-\nV,0,2\nS,0,3,1,0,0\nA,0,1,-\nA,0,2,-\nA,1,4294967295,-\nS,0,2,8,1\nS,0,2,2,1\nD,0,35,0\nD,1,35,4294967292\nS,0,1,1\nD,0,35,4294967295\nS,0,1,1\nD,0,35,4294967294\nT,3\nT,4\nT,5\nT,6\nT,7\nT,8\nT,9\nT,10\nT,11\nT,12\n", "e,16\ne,16\ne,16\nt,c,0,2147483648,2147483648,2147483648,0,2147483648\ne,16\nt,c,0,4294967295,1,1,0,1\ne,16\ne,16\ne,16\nt,c,0,4294967295,1,1,0,4294967294\n")
    -- 16 from the legacy rounding even where legacy alignments are ignored
    ∷ ("G,1,16,1,1,1,1\nI,8\nA,0,4294967281,-\nA,1,1,-\nA,1,1,1\nS,0,1,1\nS,0,2,1,4\nS,0,2,1,0\nP,0,1\nT,1\nT,2\nT,3\nT,4\nT,5\nT,6\nC,65,7,0\nC,67,7\n", "t,c,0,4294967281,1,16,0,1\ne,16\nt,c,0,1,1,16,0,1\nt,c,0,4294967281,1,16,0,0\ne,16\nt,c,0,4294967282,1,16,0,0,4294967281\nc\ne,16\n")
    -- 17 ambiguous, of an array and of a struct; where a rounding overflows 16 comes first, and an element of size 0 is 8
    ∷ ("G,0,16,3,2,1,1\nF,32\nB\nS,0,1,0\nA,2,4,-\nA,2,4,4\nS,0,0\nA,5,2,-\nS,0,2,0,2\nI,8\nA,8,4294967281,-\nA,9,1,-\nT,3\nT,4\nT,6\nT,7\nT,9\nT,10\n", "e,17\nt,c,0,16,4,16,0,4\ne,8\ne,17\nt,c,0,4294967281,1,16,0,1\ne,16\n")
    -- 18 no pointer, before the layout
    ∷ ("G,1,1,1,1,1,1\nF,32\nU\nC,65,0\nC,67,1,0\nL,1,0\nX,1\nX,0\n", "e,18\ne,18\ne,18\ne,18\ne,18\n")
    -- 19 no parts: an index into a scalar or opaque, whatever it is; the chain that ends there is good
    ∷ ("G,1,1,1,1,1,1\nF,32\nO\nP,7,0\nP,0,1\nP,7,2\nC,65,2,0\nC,65,2,v1\nC,65,3,0\nC,65,4,0\nC,65,2\nC,65,3\nC,67,2,1,0\nC,67,3,1,v0\nC,67,3,1\n", "e,19\ne,19\ne,19\ne,19\nc\nc\ne,19\ne,19\nc,H,1\n")
    -- 19 no parts: Q on each form of handle (added: by hand too)
    ∷ ("G,1,1,1,1,1,1\nF,32\nS,1,1,0\nO\nA,1,3,-\nR,2,-\nQ,1,0,0\nQ,2,0,0\nQ,3,0,4\nQ,4,0,0\n", "e,19\ne,19\ne,19\ne,19\n")
    -- 20 unknown field comes before 21 and 22; 21 of a struct with no fields
    ∷ ("G,1,1,1,1,1,1\nF,32\nS,0,0\nS,0,2,0,0\nD,0,35,2147483648\nD,1,35,0\nP,7,1\nP,7,2\nC,65,3,v0\nC,65,3,0\nC,65,4,v0\nC,65,4,2\nC,65,4,0\n", "e,20\ne,21\ne,20\ne,21\ne,22\n")
    -- 21 field outside: a word above 2147483647 counts as negative; L's member too
    ∷ ("G,1,1,1,1,1,1\nF,32\nR,0,-\nS,1,2,0,1\nP,7,2\nC,65,3,2\nC,65,3,4294967295\nC,65,3,2147483648\nC,65,3,1\nL,3,2\nL,3,4294967295\nL,3,1\n", "e,21\ne,21\ne,21\nc,B,O,4\ne,21\ne,21\nl,4,4\n")
    -- 22 far field, met before 19 at the next index and before 23
    ∷ ("G,1,1,1,1,1,1\nF,32\nS,0,2,0,0\nD,0,35,2147483647\nD,1,35,2147483648\nS,0,2,0,1\nD,0,35,0\nD,1,35,1\nP,7,1\nP,7,2\nC,65,3,0\nC,65,3,1\nC,65,3,1,0\nC,65,3,0,0\nC,65,4,1,0\nC,65,4,1,1\n", "c,O,2147483647\ne,22\ne,22\ne,19\ne,23\ne,22\n")
    -- 23 step overflow: a merged sum outside signed 32 bits, above and below; a merged zero and a D between keep it inside
    ∷ ("G,1,1,1,1,1,1\nI,8\nA,0,2,2147483647\nR,1,1\nS,0,1,2\nD,0,35,1\nA,0,2147483648,1\nR,4,1\nP,7,3\nP,7,5\nC,65,6,0,0,1\nC,65,6,0,4294967295,1\nC,65,6,0,v0,1\nC,65,7,2147483648,0\nC,65,7,2147483648,4294967295\nC,65,7,4294967295,2147483648\n", "e,23\nc,O,2147483647\nc,O,1,D,1,0,v0,O,2147483647\nc,O,-2147483648\ne,23\ne,23\n")
    -- 25 no buffer, before 21: L on memory, opaque, arrays of handles
    ∷ ("G,1,1,1,1,1,1\nF,32\nR,0,-\nS,0,2,0,1\nS,1,2,0,1\nA,3,2,-\nO\nP,12,2\nP,12,4\nP,12,5\nP,12,1\nL,6,1\nL,6,9\nL,7,1\nL,8,0\nL,9,0\n", "e,25\ne,25\ne,25\ne,25\ne,25\n")
    -- 26 no runtime array, after 21: a scalar, a fixed array, a struct with a runtime-sized end
    ∷ ("G,1,1,1,1,1,1\nF,32\nA,0,4,-\nR,0,-\nS,0,2,0,2\nS,1,3,0,1,3\nP,12,4\nL,5,0\nL,5,1\nL,5,2\nL,5,3\n", "e,26\ne,26\ne,26\ne,21\n")
    -- 27 not last: the block's size differs from the member's offset; an overlap that ends there is good
    ∷ ("G,1,1,1,1,1,1\nF,32\nR,0,8\nS,1,2,1,0\nD,0,35,4\nD,1,35,4\nS,1,2,1,0\nD,0,35,4\nD,1,35,0\nS,1,2,1,0\nD,0,35,4\nD,1,35,1\nS,1,2,0,1\nD,0,35,0\nD,1,35,8\nP,12,2\nP,12,3\nP,12,4\nP,12,5\nL,6,0\nL,7,0\nL,8,0\nL,9,1\nL,6,1\n", "e,27\nl,4,8\ne,27\nl,8,8\ne,26\n")
    -- 28 reversed: Q's end below its start, before the layout and before 19 (added: by hand too)
    ∷ ("G,1,1,1,1,1,1\nF,32\nU\nO\nQ,0,1,0\nQ,1,1,0\nQ,2,1,0\nQ,1,1,1\nQ,2,1,1\nQ,0,4294967295,4294967294\n", "e,28\ne,28\ne,28\ne,4\ne,19\ne,28\n")
    -- layout refusals wait for a question
    ∷ ("G,1,1,1,1,1,1\nF,32\nU\nI,3\nA,0,0,-\nS,0,1,1\nP,7,1\nT,0\nX,5\nT,5\n", "t,c,0,4,4,4,0\ne,4\nt,c,0,1,1,1,0\n")
    -- T: the layout's refusal is the whole line, between good answers
    ∷ ("G,1,1,1,1,1,1\nF,32\nA,0,0,-\nT,0\nT,1\nT,0\n", "t,c,0,4,4,4,0\ne,6\nt,c,0,4,4,4,0\n")
    -- Q: 28, layout, 19 (added: by hand too)
    ∷ ("G,1,1,1,1,1,1\nO\nA,0,2,-\nA,1,2,-\nQ,2,1,0\nQ,2,0,0\nQ,1,0,0\n", "e,28\ne,9\ne,19\n")
    -- C: 18, layout, then the walk's refusals as met
    ∷ ("G,1,1,1,1,1,1\nI,3\nF,32\nS,0,1,1\nP,7,0\nP,7,2\nC,65,0,0\nC,65,3,0\nC,65,4,0,0\nC,65,4,v0,0\nC,65,4,1,0\n", "e,18\ne,5\ne,19\ne,20\ne,21\n")
    -- L: 18, layout, 25, 21, 26, 27
    ∷ ("G,1,1,1,1,1,1\nF,32\nR,0,-\nS,1,1,0\nD,0,4,-\nS,1,2,0,1\nD,0,35,8\nD,1,35,4\nS,1,2,0,1\nD,0,35,0\nD,1,35,4\nP,12,2\nP,12,0\nP,12,3\nP,12,4\nL,0,0\nL,5,9\nL,6,9\nL,7,9\nL,7,0\nL,7,1\nL,8,1\n", "e,18\ne,12\ne,25\ne,21\ne,26\ne,27\nl,4,4\n")
    -- X: 18, layout, then what there is
    ∷ ("G,1,1,1,1,1,1\nF,32\nA,0,s,-\nP,7,1\nP,7,0\nX,0\nX,2\nX,3\n", "e,18\ne,7\nx,4,4,4\n")
    -- E: the first type's refusal, then the second's, also of one type (added: by hand too)
    ∷ ("G,1,1,1,1,1,1\nF,32\nU\nI,3\nE,1,2\nE,2,1\nE,0,1\nE,1,0\nE,2,2\n", "e,4\ne,5\ne,4\ne,4\ne,5\n")
    ∷ []

answered : map (λ row. lay_output (bytes row.0)) sheets ≡ map (λ row. bytes row.1) sheets
unfolding opened sheets
answered = refl
