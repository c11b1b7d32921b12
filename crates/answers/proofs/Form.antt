-- Sheets and their answers, computed from the definitions. Made by tools/examples from tools/cases/Form.txt.
use Prim.Native.String.{String}
use mathlib.Core.List.{List, [], ◌∷◌, map}
use mathlib.Core.Path.{◌≡◌, refl}
use Rattle.decimal.specs.Text.{bytes}
use Rattle.answers.specs.Output.{lay_output}
use Rattle.answers.proofs.Opened.{opened}

sheets : List (String × String)
sheets =
    -- by hand: no line at all, so line 1 is missing
    ("", "e,1\n")
    -- by hand: an empty line 1
    ∷ ("\n", "e,1\n")
    -- by hand: line 1 without its LF
    ∷ ("G,1,1,1,1,1,1", "e,1\n")
    -- by hand: the last line without its LF; nothing is answered
    ∷ ("G,1,1,1,1,1,1\nB\nT,0\nT,0", "e,1\n")
    -- by hand: an empty line between others
    ∷ ("G,1,1,1,1,1,1\nB\n\nT,0\n", "e,1\n")
    -- by hand: an empty line at the end
    ∷ ("G,1,1,1,1,1,1\nB\nT,0\n\n", "e,1\n")
    -- by hand: CR before LF
    ∷ ("G,1,1,1,1,1,1\r\nB\r\nT,0\r\n", "e,1\n")
    -- by hand: NUL at a line's end
    ∷ ("G,1,1,1,1,1,1\nB\0\nT,0\n", "e,1\n")
    -- by hand: a byte above 127
    ∷ ("G,1,1,1,1,1,1\nB\u{80}\nT,0\n", "e,1\n")
    -- by hand: a digit that is not ASCII
    ∷ ("G,1,1,1,1,1,1\nI,Ù¡\nT,0\n", "e,1\n")
    -- by hand: a blank before a field
    ∷ ("G,1,1,1,1,1,1\nI, 8\nT,0\n", "e,1\n")
    -- by hand: a blank behind a field
    ∷ ("G,1,1,1,1,1,1\nI,8 \nT,0\n", "e,1\n")
    -- by hand: line 1 is no G
    ∷ ("F,32\nT,0\n", "e,1\n")
    -- by hand: a second G
    ∷ ("G,1,1,1,1,1,1\nB\nG,1,1,1,1,1,1\nT,0\n", "e,1\n")
    -- by hand: ignore is above 1
    ∷ ("G,2,1,1,1,1,1\n", "e,1\n")
    -- by hand: a field too few
    ∷ ("G,1,1,1,1,1\n", "e,1\n")
    -- by hand: a field too many
    ∷ ("G,1,1,1,1,1,1,1\n", "e,1\n")
    -- by hand: 1 comes before 3 in a line
    ∷ ("G,0,3,1,x,1,1\nB\n", "e,1\n")
    -- by hand: 1 comes before 3 in an unfinished line
    ∷ ("G,1,3,1,1,1,1", "e,1\n")
    -- by hand: the minimum is 0
    ∷ ("G,1,0,1,1,1,1\nB\nT,0\n", "e,3\n")
    -- by hand: bool's align is 6
    ∷ ("G,1,1,1,6,1,1\nB\nT,0\n", "e,3\n")
    -- by hand: the pointer's align is 4294967295
    ∷ ("G,1,1,1,1,1,4294967295\nB\nT,0\n", "e,3\n")
    -- by hand: 3 in line 1 comes before 1 in line 2
    ∷ ("G,1,12,1,1,1,1\nW\n", "e,3\n")
    -- alignments may be as large as 2147483648, sizes are any numbers, 0 too and no multiple of the align
    ∷ ("G,1,2147483648,4294967295,2147483648,0,16\nB\nP,7,0\nS,0,0\nT,0\nT,1\nT,2\n", "t,c,0,4294967295,2147483648,2147483648,0\nt,c,0,0,16,16,0\nt,c,0,0,1,2147483648,0\n")
    -- by hand: a leading zero
    ∷ ("G,1,1,1,1,1,1\nI,08\nT,0\n", "e,1\n")
    -- by hand: a plus sign
    ∷ ("G,1,1,1,1,1,1\nI,+8\nT,0\n", "e,1\n")
    -- by hand: a minus sign
    ∷ ("G,1,1,1,1,1,1\nB\nV,0,-1\nT,1\n", "e,1\n")
    -- by hand: 4294967296 is too large
    ∷ ("G,1,1,1,1,1,1\nB\nP,4294967296,0\nT,1\n", "e,1\n")
    -- by hand: 18446744073709551617, which would be 1 in 64 bits
    ∷ ("G,1,1,1,1,1,1\nB\nA,0,18446744073709551617,-\nT,1\n", "e,1\n")
    -- by hand: an empty field
    ∷ ("G,1,1,1,1,1,1\nB\nV,,3\nT,1\n", "e,1\n")
    -- 0 and 4294967295 are good
    ∷ ("G,1,1,1,1,1,1\nI,8\nP,4294967295,0\nR,0,4294967295\nQ,2,0,4294967295\nQ,2,4294967295,4294967295\nT,2\n", "q\nq\nt,c,0,0,1,1,4294967295,4294967295\n")
    -- by hand: a lower-case tag
    ∷ ("G,1,1,1,1,1,1\nb\nT,0\n", "e,1\n")
    -- by hand: an empty tag
    ∷ ("G,1,1,1,1,1,1\n,0\nT,0\n", "e,1\n")
    -- by hand: B with a field
    ∷ ("G,1,1,1,1,1,1\nB,0\nT,0\n", "e,1\n")
    -- by hand: O with a trailing comma
    ∷ ("G,1,1,1,1,1,1\nO,\nT,0\n", "e,1\n")
    -- by hand: I without its width
    ∷ ("G,1,1,1,1,1,1\nI\nT,0\n", "e,1\n")
    -- by hand: F with a field too many
    ∷ ("G,1,1,1,1,1,1\nF,32,0\nT,0\n", "e,1\n")
    -- by hand: V without its length
    ∷ ("G,1,1,1,1,1,1\nB\nV,0\nT,1\n", "e,1\n")
    -- by hand: M with a stride
    ∷ ("G,1,1,1,1,1,1\nB\nM,0,2,4\nT,1\n", "e,1\n")
    -- by hand: A without its stride
    ∷ ("G,1,1,1,1,1,1\nB\nA,0,4\nT,1\n", "e,1\n")
    -- by hand: S without its count
    ∷ ("G,1,1,1,1,1,1\nS,0\nT,0\n", "e,1\n")
    -- by hand: S with a trailing comma
    ∷ ("G,1,1,1,1,1,1\nS,0,0,\nT,0\n", "e,1\n")
    -- by hand: P without its pointee
    ∷ ("G,1,1,1,1,1,1\nB\nP,7\nT,1\n", "e,1\n")
    -- by hand: D without its value
    ∷ ("G,1,1,1,1,1,1\nB\nS,0,1,0\nD,0,4\nT,1\n", "e,1\n")
    -- by hand: T of nothing
    ∷ ("G,1,1,1,1,1,1\nB\nT\n", "e,1\n")
    -- by hand: E of one type
    ∷ ("G,1,1,1,1,1,1\nB\nE,0\n", "e,1\n")
    -- by hand: Q without its end
    ∷ ("G,1,1,1,1,1,1\nB\nQ,0,0\n", "e,1\n")
    -- by hand: C without its pointer
    ∷ ("G,1,1,1,1,1,1\nB\nC,65\n", "e,1\n")
    -- by hand: X with a trailing comma
    ∷ ("G,1,1,1,1,1,1\nB\nP,7,0\nX,1,\n", "e,1\n")
    -- by hand: an element that is the type itself
    ∷ ("G,1,1,1,1,1,1\nV,0,2\nT,0\n", "e,1\n")
    -- by hand: a member further below
    ∷ ("G,1,1,1,1,1,1\nB\nS,0,2,0,2\nB\nT,1\n", "e,1\n")
    -- by hand: a pointee that is the pointer itself
    ∷ ("G,1,1,1,1,1,1\nB\nP,7,1\nT,1\n", "e,1\n")
    -- by hand: a question on a type further below
    ∷ ("G,1,1,1,1,1,1\nB\nT,1\nB\n", "e,1\n")
    -- by hand: C's pointer is none
    ∷ ("G,1,1,1,1,1,1\nB\nC,65,1\n", "e,1\n")
    -- questions between types, on types above
    ∷ ("G,1,1,1,1,1,1\nF,32\nT,0\nV,0,2\nT,1\nP,7,1\nC,65,2,1\nX,2\n", "t,c,0,4,4,4,0\nt,c,0,8,4,8,0,4\nc,O,4\nx,8,4,8\n")
    -- by hand: a specialization length is A's alone
    ∷ ("G,1,1,1,1,1,1\nB\nV,0,s\nT,1\n", "e,1\n")
    -- by hand: a length is not left out by -
    ∷ ("G,1,1,1,1,1,1\nB\nA,0,-,-\nT,1\n", "e,1\n")
    -- by hand: block is above 1
    ∷ ("G,1,1,1,1,1,1\nS,2,0\nT,0\n", "e,1\n")
    -- by hand: fewer members than S says
    ∷ ("G,1,1,1,1,1,1\nB\nS,0,2,0\nT,1\n", "e,1\n")
    -- by hand: more members than S says
    ∷ ("G,1,1,1,1,1,1\nB\nS,0,1,0,0\nT,1\n", "e,1\n")
    -- by hand: S says 4294967295 members
    ∷ ("G,1,1,1,1,1,1\nB\nS,0,4294967295,0\nT,1\n", "e,1\n")
    -- by hand: op 68
    ∷ ("G,1,1,1,1,1,1\nB\nP,7,0\nC,68,1\n", "e,1\n")
    -- by hand: an index after a trailing comma
    ∷ ("G,1,1,1,1,1,1\nB\nP,7,0\nC,65,1,\n", "e,1\n")
    -- by hand: v alone
    ∷ ("G,1,1,1,1,1,1\nB\nP,7,0\nC,65,1,v\n", "e,1\n")
    -- by hand: V is no v
    ∷ ("G,1,1,1,1,1,1\nB\nP,7,0\nC,65,1,V1\n", "e,1\n")
    -- by hand: an unknown's number with a leading zero
    ∷ ("G,1,1,1,1,1,1\nB\nP,7,0\nC,65,1,v01\n", "e,1\n")
    -- by hand: an unknown's number that is too large
    ∷ ("G,1,1,1,1,1,1\nB\nP,7,0\nC,65,1,v4294967296\n", "e,1\n")
    -- by hand: a negative index
    ∷ ("G,1,1,1,1,1,1\nB\nR,0,-\nP,7,1\nC,65,2,-1\n", "e,1\n")
    -- by hand: D after line 1
    ∷ ("G,1,1,1,1,1,1\nD,0,35,0\n", "e,1\n")
    -- by hand: D after a type that is no S
    ∷ ("G,1,1,1,1,1,1\nS,0,0\nB\nD,0,35,0\nT,0\n", "e,1\n")
    -- by hand: D after a question, though on its struct
    ∷ ("G,1,1,1,1,1,1\nB\nS,0,1,0\nT,1\nD,0,35,0\n", "e,1\n")
    -- by hand: another decoration
    ∷ ("G,1,1,1,1,1,1\nB\nS,0,1,0\nD,0,3,-\nT,1\n", "e,1\n")
    -- by hand: RowMajor with a number
    ∷ ("G,1,1,1,1,1,1\nB\nS,0,1,0\nD,0,4,0\nT,1\n", "e,1\n")
    -- by hand: an Offset without one
    ∷ ("G,1,1,1,1,1,1\nB\nS,0,1,0\nD,0,35,-\nT,1\n", "e,1\n")
    -- by hand: the same D twice
    ∷ ("G,1,1,1,1,1,1\nB\nS,0,1,0\nD,0,4,-\nD,0,4,-\nT,1\n", "e,1\n")
    -- by hand: a lower member
    ∷ ("G,1,1,1,1,1,1\nB\nS,0,2,0,0\nD,1,35,0\nD,0,35,4\nT,1\n", "e,1\n")
    -- by hand: a lower decoration
    ∷ ("G,1,1,1,1,1,1\nB\nS,0,1,0\nD,0,35,0\nD,0,4,-\nT,1\n", "e,1\n")
    -- by hand: a lower value
    ∷ ("G,1,1,1,1,1,1\nB\nS,0,1,0\nD,0,35,9\nD,0,35,8\nT,1\n", "e,1\n")
    -- D lines rise by number and not by text (9 before 10), and each struct begins anew
    ∷ ("G,1,1,1,1,1,1\nI,8\nS,0,11,0,0,0,0,0,0,0,0,0,0,0\nD,0,35,10\nD,1,35,11\nD,2,35,12\nD,3,35,13\nD,4,35,14\nD,5,35,15\nD,6,35,16\nD,7,35,17\nD,8,35,18\nD,9,35,19\nD,10,35,110\nS,0,1,0\nD,0,35,3\nT,1\nT,2\n", "t,c,0,111,1,1,0,10,11,12,13,14,15,16,17,18,19,110\nt,c,0,4,1,1,0,3\n")
    -- a member past n is good here: 12 or 14 come with the layout
    ∷ ("G,1,1,1,1,1,1\nB\nS,0,1,0\nD,1,4,-\nS,0,1,0\nD,0,35,0\nD,4294967295,35,0\nB\nT,3\nT,1\nT,2\n", "t,c,0,1,1,1,0\ne,12\ne,14\n")
    ∷ []

answered : map (λ row. lay_output (bytes row.0)) sheets ≡ map (λ row. bytes row.1) sheets
unfolding opened sheets
answered = refl
