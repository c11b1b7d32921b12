-- Sheets and their answers, computed from the definitions. Made by tools/examples from tools/cases/Document.txt.
use Prim.Native.String.{String}
use mathlib.Core.List.{List, [], ◌∷◌, map}
use mathlib.Core.Path.{◌≡◌, refl}
use Rattle.decimal.specs.Text.{bytes}
use Rattle.answers.specs.Output.{lay_output}
use Rattle.answers.proofs.Opened.{opened}

sheets : List (String × String)
sheets =
    -- the document's example
    ("G,1,1,1,1,1,1\nF,32\nV,0,3\nS,0,2,1,0\nR,2,-\nS,1,1,3\nP,12,4\nT,2\nC,65,5,0,v1,1\nC,65,5,0,2,0\nQ,2,12,16\n", "t,c,0,16,4,16,0,0,12\nc,B,D,16,0,v1,O,12\nc,B,O,32\nq,1\n")
    -- G: the minimum 16 is an aggregate's legacy alignment, not a vector's; bool is 3 bytes at 4, a pointer 8 at 16
    ∷ ("G,1,16,3,4,8,16\nB\nP,12,0\nV,0,2\nA,0,2,-\nS,0,1,1\nT,0\nT,1\nT,2\nT,3\nT,4\n", "t,c,0,3,4,4,0\nt,c,0,8,16,16,0\nt,c,0,8,4,8,0,4\nt,c,0,8,4,16,0,4\nt,c,0,16,16,16,0,0\n")
    -- G: with ignore 0 the offsets by align and by legacy alignment must be the same
    ∷ ("G,0,1,1,1,1,1\nF,32\nV,0,2\nS,0,2,0,1\nS,0,2,1,0\nT,2\nT,3\n", "e,17\nt,c,0,12,4,8,0,0,8\n")
    -- B: size and align are the setting's
    ∷ ("G,1,1,4,2,1,1\nB\nT,0\n", "t,c,0,4,2,2,0\n")
    -- I: size and alignments are width / 8
    ∷ ("G,1,1,1,1,1,1\nI,8\nI,16\nI,32\nI,64\nI,128\nT,0\nT,1\nT,2\nT,3\nT,4\n", "t,c,0,1,1,1,0\nt,c,0,2,2,2,0\nt,c,0,4,4,4,0\nt,c,0,8,8,8,0\nt,c,0,16,16,16,0\n")
    -- F: the same
    ∷ ("G,1,1,1,1,1,1\nF,16\nF,32\nF,64\nT,0\nT,1\nT,2\n", "t,c,0,2,2,2,0\nt,c,0,4,4,4,0\nt,c,0,8,8,8,0\n")
    -- V: the legacy alignment is 2 times the element's up to length 2, else 4 times
    ∷ ("G,1,1,1,1,1,1\nF,32\nV,0,1\nV,0,2\nV,0,3\nV,0,4\nV,0,5\nT,1\nT,2\nT,3\nT,4\nT,5\n", "t,c,0,4,4,8,0,4\nt,c,0,8,4,8,0,4\nt,c,0,12,4,16,0,4\nt,c,0,16,4,16,0,4\nt,c,0,20,4,16,0,4\n")
    -- M: columns one after another, the legacy alignment is the column's
    ∷ ("G,1,1,1,1,1,1\nF,32\nV,0,2\nV,0,3\nM,1,4\nM,2,3\nT,3\nT,4\n", "t,c,0,32,4,8,0,8\nt,c,0,36,4,16,0,12\n")
    -- A: undecorated; a stride above and below the element's size; a specialization length
    ∷ ("G,1,1,1,1,1,1\nF,32\nA,0,3,-\nA,0,3,16\nA,0,3,1\nA,0,s,-\nT,1\nT,2\nT,3\nT,4\n", "t,c,0,12,4,4,0,4\nt,c,0,48,4,4,0,16\nt,c,0,3,4,4,0,1\ne,7\n")
    -- R: size 0, the stride both as dyn and behind it
    ∷ ("G,1,1,1,1,1,1\nF,32\nR,0,-\nR,0,16\nT,1\nT,2\n", "t,c,0,0,4,4,4,4\nt,c,0,0,4,4,16,16\n")
    -- S: no member; members in turn; Block; a runtime-sized part not last; one that is last, so that the size isn't rounded
    ∷ ("G,1,1,1,1,1,1\nI,8\nF,32\nR,0,-\nS,0,0\nS,0,3,0,1,0\nS,1,3,0,1,0\nS,0,4,1,0,2,3\nS,0,3,1,0,2\nT,3\nT,4\nT,5\nT,6\nT,7\n", "t,c,0,0,1,1,0\nt,c,0,12,4,4,0,0,4,8\nt,b,0,12,4,4,0,0,4,8\ne,15\nt,c,0,5,4,4,1,0,4,5\n")
    -- P: size and align are the setting's, whatever class and pointee are
    ∷ ("G,1,1,1,1,8,4\nO\nU\nP,0,0\nP,4294967295,1\nP,12,3\nT,2\nT,3\nT,4\n", "t,c,0,8,4,4,0\nt,c,0,8,4,4,0\nt,c,0,8,4,4,0\n")
    -- O: numbers are 0 and nothing follows; arrays of it
    ∷ ("G,1,16,1,1,1,1\nO\nA,0,3,-\nR,0,-\nT,0\nT,1\nT,2\n", "t,o,0,0,0,0,0\nt,ao,3,0,0,0,0\nt,ao,0,0,0,0,0\n")
    -- U: another type
    ∷ ("G,1,1,1,1,1,1\nU\nT,0\n", "e,4\n")
    -- D: offsets out of order, with a gap and overlapping; RowMajor
    ∷ ("G,1,1,1,1,1,1\nF,32\nS,0,3,0,0,0\nD,0,35,8\nD,1,35,32\nD,2,35,9\nS,0,1,0\nD,0,4,-\nT,1\nT,2\n", "t,c,0,36,4,4,0,8,32,9\ne,12\n")
    -- T: memory, buffer, opaque, and arrays of buffers with their length and the buffer's own numbers
    ∷ ("G,1,1,1,1,1,1\nF,32\nR,0,-\nS,1,3,0,0,1\nO\nA,2,5,-\nR,2,-\nT,0\nT,2\nT,3\nT,4\nT,5\n", "t,c,0,4,4,4,0\nt,b,0,8,4,4,4,0,4,8\nt,o,0,0,0,0,0\nt,ab,5,8,4,4,4,0,4,8\nt,ab,0,8,4,4,4,0,4,8\n")
    -- E: the T lines are equal (added: by hand too)
    ∷ ("G,1,1,1,1,1,1\nF,32\nI,32\nV,0,4\nA,0,4,-\nA,1,4,4\nE,0,1\nE,3,4\nE,2,3\nE,2,2\n", "y\ny\nn\ny\n")
    -- Q: elements by start / stride, fields by what they hold, a scalar has none
    ∷ ("G,1,1,1,1,1,1\nF,32\nA,0,4,8\nS,0,3,0,1,0\nQ,0,0,4\nQ,1,8,12\nQ,1,8,13\nQ,2,0,4\nQ,2,4,36\nQ,2,0,8\n", "q\nq,1\nq\nq,0\nq,1\nq\n")
    -- C: the four ops; 67 and 70 begin at a runtime array of the pointee
    ∷ ("G,1,1,1,1,1,1\nF,32\nA,0,4,-\nP,7,1\nC,65,2,2\nC,66,2,v7\nC,67,2,2\nC,67,2,v7,v8\nC,70,2,2,3\n", "c,O,8\nc,D,4,4,v7\nc,O,32\nc,D,16,0,v7,D,4,4,v8\nc,O,44\n")
    -- C: handle, buffer, constant and dynamic steps in one chain
    ∷ ("G,1,1,1,1,1,1\nF,32\nV,0,4\nA,1,8,16\nS,1,2,0,2\nD,0,35,0\nD,1,35,16\nR,3,-\nP,2,4\nC,65,5,v0,1,v1,3\nC,65,5,7\nC,65,5,7,0\nC,65,5,7,1,2,3\n", "c,H,v0,B,O,16,D,16,8,v1,O,12\nc,H,7\nc,H,7,B\nc,H,7,B,O,60\n")
    -- L: offset and stride of the runtime array at a buffer's end
    ∷ ("G,1,1,1,1,1,1\nF,32\nV,0,4\nR,1,16\nS,1,2,0,2\nD,0,35,0\nD,1,35,16\nP,12,3\nL,4,1\n", "l,16,16\n")
    -- X: a variable's size and alignments, or nothing where the pointee has no fixed size in memory
    ∷ ("G,1,1,1,1,1,1\nF,32\nV,0,3\nR,0,-\nS,1,1,0\nO\nP,7,1\nP,12,2\nP,2,3\nP,0,4\nX,5\nX,6\nX,7\nX,8\n", "x,12,4,16\nx\nx\nx\n")
    -- a good sheet without questions writes nothing
    ∷ ("G,1,1,1,1,1,1\nF,32\nU\n", "")
    -- line 1 alone is a good sheet
    ∷ ("G,0,1,0,1,0,1\n", "")
    ∷ []

answered : map (λ row. lay_output (bytes row.0)) sheets ≡ map (λ row. bytes row.1) sheets
unfolding opened sheets
answered = refl
