-- Sheets and their answers, computed from the definitions. Made by tools/examples from tools/cases/Corners.txt.
use Prim.Native.String.{String}
use mathlib.Core.List.{List, [], ◌∷◌, map}
use mathlib.Core.Path.{◌≡◌, refl}
use Rattle.decimal.specs.Text.{bytes}
use Rattle.answers.specs.Output.{lay_output}
use Rattle.answers.proofs.Opened.{opened}

sheets : List (String × String)
sheets =
    -- the largest array of F32, undecorated and decorated
    ("G,1,1,1,1,1,1\nF,32\nA,0,1073741823,-\nA,0,1073741824,-\nA,0,1073741823,4\nA,0,1073741824,4\nT,1\nT,2\nT,3\nT,4\n", "t,c,0,4294967292,4,4,0,4\ne,16\nt,c,0,4294967292,4,4,0,4\ne,16\n")
    -- scalar setting: a vector of three directly behind a number, and a number in the vector's tail
    ∷ ("G,1,1,1,1,1,1\nF,32\nV,0,3\nS,0,2,0,1\nS,0,2,1,0\nM,1,3\nT,2\nT,3\nT,4\n", "t,c,0,16,4,16,0,0,4\nt,c,0,16,4,16,0,0,12\nt,c,0,36,4,16,0,12\n")
    -- standard setting: the same; matrices of two and of four rows
    ∷ ("G,0,1,1,1,1,1\nF,32\nV,0,3\nS,0,2,0,1\nS,0,2,1,0\nM,1,3\nV,0,2\nM,5,2\nV,0,4\nM,7,4\nT,2\nT,3\nT,4\nT,6\nT,8\n", "e,17\nt,c,0,16,4,16,0,0,12\ne,17\nt,c,0,16,4,8,0,8\nt,c,0,64,4,16,0,16\n")
    -- extended setting: 16 is the least legacy alignment of matrices, arrays and structs, and no size is rounded to it
    ∷ ("G,0,16,1,1,1,1\nF,32\nV,0,4\nV,0,2\nM,1,4\nM,2,2\nA,0,4,16\nA,0,4,-\nS,0,1,0\nS,0,0\nT,2\nT,3\nT,4\nT,5\nT,6\nT,7\nT,8\n", "t,c,0,8,4,8,0,4\nt,c,0,64,4,16,0,16\nt,c,0,16,4,16,0,8\nt,c,0,64,4,16,0,16\nt,c,0,16,4,16,0,4\nt,c,0,4,4,16,0,0\nt,c,0,0,1,16,0\n")
    -- a struct's size is rounded to its align and not to its legacy alignment
    ∷ ("G,0,1,1,1,1,1\nF,32\nI,8\nV,0,3\nS,0,2,2,1\nR,3,-\nS,0,2,2,0\nT,3\nT,4\nT,5\n", "t,c,0,16,4,16,0,0,12\nt,c,0,0,4,16,16,16\nt,c,0,16,4,16,0,0,12\n")
    -- a bool's size need not be a multiple of its align: stride and the next offset are rounded
    ∷ ("G,1,1,3,2,1,1\nB\nA,0,2,-\nS,0,2,0,0\nS,0,1,0\nV,0,3\nT,0\nT,1\nT,2\nT,3\nT,4\n", "t,c,0,3,2,2,0\nt,c,0,8,2,2,0,4\nt,c,0,8,2,2,0,0,4\nt,c,0,4,2,2,0,0\nt,c,0,12,2,8,0,4\n")
    -- bool and pointer of size 0: members at one offset, no element
    ∷ ("G,1,1,0,4,0,2\nB\nP,7,0\nI,8\nS,0,4,2,0,1,2\nA,0,3,-\nA,1,3,6\nT,3\nT,4\nT,5\n", "t,c,0,8,4,4,0,0,4,4,4\ne,8\nt,c,0,18,2,2,0,6\n")
    -- a runtime-sized member: its fixed part counts, the size isn't rounded, with offsets it need not be last
    ∷ ("G,1,1,1,1,1,1\nI,8\nF,32\nR,0,-\nS,0,3,1,0,2\nS,0,2,1,3\nS,0,2,2,1\nD,0,35,9\nD,1,35,0\nS,0,2,3,0\nD,0,35,2\nD,1,35,1\nT,3\nT,4\nT,5\nT,6\n", "t,c,0,5,4,4,1,0,4,5\nt,c,0,9,4,4,1,0,4\nt,c,0,9,4,4,1,9,0\nt,c,0,7,4,4,1,2,1\n")
    -- given offsets are taken as they are, aligned or not; the align is the members' largest
    ∷ ("G,0,16,1,1,1,1\nF,64\nI,8\nV,0,3\nS,0,3,1,0,2\nD,0,35,7\nD,1,35,1\nD,2,35,3\nS,0,2,1,3\nT,3\nT,4\n", "t,c,0,32,8,32,0,7,1,3\ne,17\n")
    -- an array of structs by a stride below their size, and a struct of such arrays
    ∷ ("G,1,1,1,1,1,1\nF,32\nS,0,3,0,0,0\nA,1,4,5\nA,1,1,1\nS,0,2,2,3\nR,2,-\nT,2\nT,3\nT,4\nT,5\n", "t,c,0,20,4,4,0,5\nt,c,0,1,4,4,0,1\nt,c,0,24,4,4,0,0,20\nt,c,0,0,4,4,20,20\n")
    -- vectors and matrices of any type: of structs, arrays, pointers, and of length 1
    ∷ ("G,1,1,1,1,8,8\nF,32\nS,0,2,0,0\nA,0,3,-\nP,7,0\nV,1,3\nM,2,2\nV,3,2\nM,0,1\nV,4,2\nT,4\nT,5\nT,6\nT,7\nT,8\n", "t,c,0,24,4,16,0,8\nt,c,0,24,4,4,0,12\nt,c,0,16,8,16,0,8\nt,c,0,4,4,4,0,4\nt,c,0,48,4,32,0,24\n")
    -- handles come before the stride: arrays, vectors and matrices of them, their lengths; an empty Block struct is a buffer
    ∷ ("G,1,16,1,1,1,1\nO\nS,1,0\nA,0,3,0\nV,0,4\nM,1,2\nA,1,4294967295,0\nR,1,0\nT,1\nT,2\nT,3\nT,4\nT,5\nT,6\n", "t,b,0,0,1,16,0\nt,ao,3,0,0,0,0\nt,ao,4,0,0,0,0\nt,ab,2,0,1,16,0\nt,ab,4294967295,0,1,16,0\nt,ab,0,0,1,16,0\n")
    -- an array of buffers has the buffer's numbers and field offsets, and no stride
    ∷ ("G,1,1,1,1,1,1\nF,32\nV,0,3\nR,0,8\nS,1,3,1,0,2\nA,3,7,64\nR,3,-\nE,4,5\nT,4\nT,5\n", "n\nt,ab,7,16,4,16,8,0,12,16\nt,ab,0,16,4,16,8,0,12,16\n")
    -- legacy multiples of vectors of vectors; widths above 64
    ∷ ("G,1,1,1,1,1,1\nI,8\nV,0,2\nV,1,3\nV,2,4\nF,256\nV,4,2\nI,1073741824\nV,6,4\nT,2\nT,3\nT,5\nT,7\n", "t,c,0,6,1,8,0,2\nt,c,0,24,1,32,0,6\nt,c,0,64,32,64,0,32\nt,c,0,536870912,134217728,536870912,0,134217728\n")
    -- Q on an array of 4: at its end the element has size 0, beyond it there is none
    ∷ ("G,1,1,1,1,1,1\nF,32\nA,0,4,-\nQ,1,16,16\nQ,1,16,17\nQ,1,20,20\nQ,1,0,0\nQ,1,4,4\nQ,1,2,4\nQ,1,2,5\nQ,1,15,16\n", "q,4\nq\nq\nq,0\nq,1\nq,0\nq\nq,3\n")
    -- Q on fields: of size 0, overlapping, runtime-sized (which has no end)
    ∷ ("G,1,1,1,1,1,1\nF,32\nS,0,0\nA,0,2,-\nR,0,-\nS,0,4,1,0,1,2\nS,0,3,0,2,3\nD,0,35,0\nD,1,35,0\nD,2,35,4\nQ,4,0,0\nQ,4,4,4\nQ,4,4,8\nQ,4,0,12\nQ,4,12,12\nQ,5,0,4\nQ,5,4,8\nQ,5,4,4000\nQ,5,8,8\nQ,5,0,9\nQ,5,4294967295,4294967295\n", "q,0,1\nq,1,2,3\nq,3\nq\nq,3\nq,0,1\nq,1,2\nq,2\nq,1,2\nq\nq,2\n")
    -- Q on elements: of size 0, larger than their stride, in a runtime array
    ∷ ("G,1,1,1,1,1,1\nF,32\nS,0,0\nA,0,2,-\nA,1,3,4\nA,2,3,4\nR,2,16\nA,0,1,4294967295\nQ,3,4,4\nQ,3,4,5\nQ,3,12,12\nQ,3,13,13\nQ,4,4,12\nQ,4,4,13\nQ,4,12,12\nQ,5,16,24\nQ,5,24,24\nQ,5,25,25\nQ,5,4294967288,4294967288\nQ,6,4294967295,4294967295\nQ,6,0,4\n", "q,1\nq\nq,3\nq\nq,1\nq\nq,3\nq,1\nq,1\nq\nq,268435455\nq,1\nq,0\n")
    -- Q where an element's end is above 32 bits
    ∷ ("G,1,1,1,1,1,1\nI,64\nR,0,16\nR,0,4294967292\nR,0,4294967287\nQ,1,4294967280,4294967288\nQ,2,4294967292,4294967292\nQ,2,4294967291,4294967291\nQ,3,4294967287,4294967295\nQ,3,4294967290,4294967295\n", "q,268435455\nq\nq\nq,1\nq,1\n")
    -- Q where a field's end is at 4294967295
    ∷ ("G,1,1,1,1,1,1\nI,8\nA,0,2147483648,-\nS,0,2,1,0\nD,0,35,2147483647\nD,1,35,4294967294\nQ,2,4294967294,4294967295\nQ,2,2147483647,4294967295\nQ,2,2147483646,2147483647\nQ,1,2147483648,2147483648\n", "q,0,1\nq,0\nq\nq,2147483648\n")
    -- array of 4: within, at and beyond its length, and below 0; 67 and 70 may go below 0
    ∷ ("G,1,1,1,1,1,1\nF,32\nA,0,4,-\nP,7,1\nC,65,2,3\nC,65,2,4\nC,65,2,4294967295\nC,66,2,v0\nC,65,2,0\nC,67,2,3\nC,70,2,0,3\nC,67,2,4294967295,1\nC,67,2,4294967295,4\n", "c,O,12\nc,D,4,4,4\nc,D,4,4,4294967295\nc,D,4,4,v0\nc\nc,O,48\nc,O,12\nc,O,-12\nc,O,-16,D,4,4,4\n")
    -- a merged zero stays and is added to; a new offset 0 is dropped
    ∷ ("G,1,1,1,1,1,1\nF,32\nA,0,2,-\nR,1,-\nS,0,1,2\nD,0,35,8\nP,12,3\nC,65,4,0,4294967295,0\nC,65,4,0,4294967295,1\nC,65,4,0,v0,1\nC,65,4,0,4294967295,v0\nC,65,4,0,0,0\n", "c,O,0\nc,O,4\nc,O,8,D,8,0,v0,O,4\nc,O,0,D,4,2,v0\nc,O,8\n")
    -- the buffer is entered with the first index alone: no B where the chain ends on it
    ∷ ("G,1,1,1,1,1,1\nF,32\nR,0,-\nS,1,1,1\nD,0,35,4\nP,12,2\nR,2,-\nP,12,4\nC,65,3\nC,65,3,0\nC,65,3,0,4294967295\nC,65,3,0,4294967295,0\nC,65,5\nC,65,5,v0\nC,65,5,v0,0\nC,65,5,3,0,v1\nC,67,3\nC,70,3,2\nC,70,3,2,0,2\n", "c\nc,B,O,4\nc,B,O,0\ne,19\nc\nc,H,v0\nc,H,v0,B,O,4\nc,H,3,B,O,4,D,4,0,v1\nc\nc,H,2\nc,H,2,B,O,12\n")
    -- a handle's index is printed as given: a large word, an unknown of any number, a number within or beyond the length
    ∷ ("G,1,1,1,1,1,1\nO\nA,0,3,-\nP,0,1\nP,0,0\nC,65,2,4294967295\nC,65,2,v4294967295\nC,65,2,3\nC,65,2,0\nC,67,3,2147483648\nC,65,2,0,0\n", "c,H,4294967295\nc,H,v4294967295\nc,H,3\nc,H,0\nc,H,2147483648\ne,19\n")
    -- no indices: the runtime array of 67 and 70 still has its layout asked
    ∷ ("G,1,1,1,1,1,1\nF,32\nS,0,0\nR,0,-\nO\nR,3,-\nP,7,0\nP,7,1\nP,7,2\nP,0,3\nP,0,4\nC,65,5\nC,67,5\nC,65,6\nC,67,6\nC,65,7\nC,67,7\nC,65,8\nC,67,8\nC,65,9\nC,70,9\n", "c\nc\nc\ne,8\nc\ne,10\nc\nc\nc\ne,9\n")
    -- 67 and 70 by an undecorated stride: rounded to the align, and 17 where the roundings differ
    ∷ ("G,0,1,3,2,1,1\nB\nF,32\nV,1,3\nP,7,0\nP,7,2\nC,65,3\nC,67,3,5\nC,70,3,v5\nC,65,4,2\nC,67,4\n", "c\nc,O,20\nc,D,4,0,v5\nc,O,8\ne,17\n")
    -- bounds at 2147483647 and 2147483648; products at the limits of signed 32 bits
    ∷ ("G,1,1,1,1,1,1\nI,8\nA,0,2147483647,1\nA,0,2147483648,1\nR,0,65536\nP,7,1\nP,7,2\nP,7,3\nC,65,4,2147483646\nC,65,4,2147483647\nC,65,4,4294967295\nC,65,5,2147483647\nC,65,5,4294967295\nC,65,5,2147483648\nC,65,5,v0\nC,65,6,32767\nC,65,6,32768\nC,65,6,4294934528\nC,65,6,4294934527\n", "c,O,2147483646\nc,D,1,2147483647,2147483647\nc,D,1,2147483647,4294967295\nc,O,2147483647\nc,O,-1\nc,O,-2147483648\nc,D,1,0,v0\nc,O,2147418112\nc,D,65536,0,32768\nc,O,-2147483648\nc,D,65536,0,4294934527\n")
    -- strides at 2147483647 and 2147483648: above it D even for index 0; a D whose product is too large
    ∷ ("G,1,1,1,1,1,1\nI,8\nR,0,2147483647\nR,0,2147483648\nA,0,1,4294967295\nS,0,1,1\nD,0,35,2147483647\nP,7,1\nP,7,2\nP,7,3\nP,7,4\nC,65,5,1\nC,65,5,2\nC,65,5,4294967295\nC,65,5,4294967294\nC,65,6,0\nC,65,6,1\nC,65,7,0\nC,65,8,0,4294967295\nC,65,8,0,1\nC,65,8,0,2\n", "c,O,2147483647\nc,D,2147483647,0,2\nc,O,-2147483647\nc,D,2147483647,0,4294967294\nc,D,2147483648,0,0\nc,D,2147483648,0,1\nc,D,4294967295,1,0\nc,O,0\ne,23\nc,O,2147483647,D,2147483647,0,2\n")
    -- offsets merge through structs, vectors and matrices, and begin anew behind a D
    ∷ ("G,1,1,1,1,1,1\nF,32\nV,0,4\nM,1,3\nS,0,2,0,2\nA,3,2,-\nS,0,2,1,4\nP,7,5\nC,65,6,1,1,1,2,3\nC,65,6,1,1,1,v0,3\nC,65,6,1,v0,1,2,3\nC,65,6,1,v0,0\nC,65,6,1,0,1,v0,v0\n", "c,O,116\nc,O,72,D,16,3,v0,O,12\nc,O,16,D,52,2,v0,O,48\nc,O,16,D,52,2,v0\nc,O,20,D,16,3,v0,D,4,4,v0\n")
    -- nested arrays in a buffer: 67's own index, then D for each unknown or out of bound, O for what is folded between
    ∷ ("G,1,1,1,1,1,1\nF,64\nS,0,3,0,0,0\nA,1,2,24\nA,2,2,-\nA,3,4,-\nA,4,7,384\nS,1,2,1,5\nP,12,6\nC,67,7,0,1,v2,v0,v3,v0,1\nC,67,7,4294967283,1,6,4294967295,1,12,2\nC,65,7,1,6,3,1,1,2\nC,65,7,1,v4294967295,4,v7,1,1\n", "c,H,0,B,O,24,D,384,7,v2,D,96,4,v0,D,48,2,v3,D,24,2,v0,O,8\nc,H,4294967283,B,O,2328,D,96,4,4294967295,O,48,D,24,2,12,O,16\nc,B,O,2704\nc,B,O,24,D,384,7,v4294967295,D,96,4,4,D,48,2,v7,O,32\n")
    -- an offset merged with a far negative one; a runtime array's stride of 2147483647 behind a field
    ∷ ("G,1,1,1,1,1,1\nF,32\nV,0,4\nR,1,16\nS,1,2,0,2\nD,0,35,0\nD,1,35,16\nS,0,2,0,0\nR,4,2147483647\nS,1,2,0,5\nP,12,3\nP,12,6\nC,65,7,1,4160749569\nC,65,7,1,4160749568,3\nC,65,7,1,134217727,0\nC,65,7,1,134217726,3\nC,65,8,1,v4294967295,1\nC,67,8,v3,1,2,1\nC,65,8,1,1\nC,65,8,1,4294967295,1\n", "c,B,O,-2147483616\nc,B,O,-2147483620\ne,23\nc,B,O,2147483644\nc,B,O,4,D,2147483647,0,v4294967295,O,4\nc,H,v3,B,O,4,D,2147483647,0,2,O,4\ne,23\nc,B,O,-2147483639\n")
    -- strides above 2147483647 in nested arrays: known indices stay D
    ∷ ("G,1,1,1,1,1,1\nF,64\nA,0,1,2245187602\nR,1,2245187608\nP,7,1\nP,7,2\nT,1\nT,2\nC,65,4,v3,0\nC,65,4,1,0\nC,67,3,v1,0\nC,70,3,0\n", "t,c,0,2245187602,8,8,0,2245187602\nt,c,0,0,8,8,2245187608,2245187608\nc,D,2245187608,0,v3,D,2245187602,1,0\nc,D,2245187608,0,1,D,2245187602,1,0\nc,D,2245187608,0,v1,D,2245187602,1,0\nc,D,2245187608,0,0\n")
    -- L in a buffer placed by offsets: the runtime array may be the first member
    ∷ ("G,1,1,1,1,1,1\nF,32\nR,0,8\nS,1,2,1,0\nD,0,35,4\nD,1,35,0\nS,1,2,0,1\nD,0,35,0\nD,1,35,4294967291\nP,12,2\nP,12,3\nL,4,0\nL,4,1\nL,5,1\nT,3\n", "l,4,8\ne,26\nl,4294967291,8\nt,b,0,4294967291,4,4,8,0,4294967291\n")
    -- L with an offset and a stride above 2147483647, where a chain to the member is 22
    ∷ ("G,1,1,1,1,1,1\nF,32\nR,0,2147483648\nS,1,2,0,1\nD,0,35,2147483648\nD,1,35,2147483652\nP,12,2\nL,3,1\nC,65,3,1\nC,65,3,0\nT,2\nQ,1,4294967295,4294967295\n", "l,2147483652,2147483648\ne,22\ne,22\nt,b,0,2147483652,4,4,2147483648,2147483648,2147483652\nq\n")
    -- X: what is memory of a fixed size has numbers, an empty struct too
    ∷ ("G,0,1,3,2,8,8\nF,32\nV,0,3\nA,1,2,16\nS,0,2,1,0\nB\nS,0,0\nR,0,-\nS,0,1,6\nP,7,2\nP,7,3\nP,7,4\nP,7,8\nP,7,5\nP,7,7\nX,8\nX,9\nX,10\nX,11\nX,12\nX,13\n", "x,32,4,16\nx,16,4,16\nx,3,2,2\nx,8,8,8\nx,0,1,1\nx\n")
    -- E compares whole T lines: form, len, offsets, stride; not what a type is (added: by hand too)
    ∷ ("G,1,1,1,1,4,4\nF,32\nP,7,0\nS,0,1,0\nS,1,1,0\nA,0,1,-\nA,3,2,-\nA,3,3,-\nR,3,-\nO\nA,8,2,-\nS,0,0\nE,0,1\nE,0,2\nE,2,0\nE,2,3\nE,2,4\nE,5,6\nE,6,7\nE,8,9\nE,9,9\nE,10,10\n", "y\nn\nn\nn\nn\nn\nn\nn\ny\ny\n")
    -- a block such as vertex shaders write, and chains into an array of arrays of structs
    ∷ ("G,1,1,1,1,1,1\nU\nU\nF,32\nV,2,4\nI,32\nA,2,1,-\nS,1,4,3,2,5,5\nP,3,6\nV,2,3\nP,1,8\nP,7,2\nS,0,2,2,3\nA,11,3,-\nA,12,32,-\nP,1,13\nB\nT,3\nT,5\nT,6\nT,7\nT,8\nT,11\nT,12\nT,13\nT,15\nX,10\nC,65,7,0\nC,65,14,0,2,1,0\nC,65,14,0,2,1,3\n", "t,c,0,16,4,16,0,4\nt,c,0,4,4,4,0,4\nt,b,0,28,4,16,0,0,16,20,24\nt,c,0,1,1,1,0\nt,c,0,12,4,16,0,4\nt,c,0,20,4,16,0,0,4\nt,c,0,60,4,16,0,20\nt,c,0,1920,4,16,0,60\nt,c,0,1,1,1,0\nx,4,4,4\nc,B\nc,O,44\nc,O,56\n")
    -- nested structs, without offsets and with them
    ∷ ("G,1,1,1,1,1,1\nU\nU\nI,32\nS,0,1,2\nS,0,2,3,3\nS,1,2,4,4\nP,1,5\nS,0,1,2\nD,0,35,0\nS,0,1,7\nD,0,35,0\nS,1,2,8,8\nD,0,35,0\nD,1,35,16\nP,2,9\nS,0,3,7,7,7\nD,0,35,0\nD,1,35,4\nD,2,35,8\nP,2,11\nT,3\nT,4\nT,5\nT,8\nT,9\nT,11\nT,12\n", "t,c,0,4,4,4,0,0\nt,c,0,8,4,4,0,0,4\nt,b,0,16,4,4,0,0,8\nt,c,0,4,4,4,0,0\nt,b,0,20,4,4,0,0,16\nt,c,0,12,4,4,0,0,4,8\nt,c,0,1,1,1,0\n")
    ∷ []

answered : map (λ row. lay_output (bytes row.0)) sheets ≡ map (λ row. bytes row.1) sheets
unfolding opened sheets
answered = refl
