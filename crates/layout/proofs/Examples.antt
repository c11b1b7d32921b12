-- Layouts and lookups of small sheets, computed: what each rule gives, and which refusal comes first. Assumes nothing.
use mathlib.Core.Path.{◌≡◌, refl}
use mathlib.Core.List.{[], ◌∷◌, map}
use Rattle.arith.specs.Refusals.{ok, refused}
use Rattle.shapes.specs.Shapes.{Scalar, Elements, Fields, Opaque, Buffer, Handle, HandleArray, Concrete, memory}
use Rattle.sheet.proofs.OfText.{of}
use Rattle.layout.specs.Layouts.{answer_in, runtime_array_in, layout_in_room}
use Rattle.layout.specs.Lookup.{lookup, lookup_in_room}
use Rattle.layout.proofs.Opened.{opened}

-- a struct's size is rounded to its align, not to its legacy alignment
vec3-alone :
    of "G,1,1,1,1,1,1\nF,32\nV,0,3\nS,0,1,1\n" (λ s. map (answer_in s) (0 ∷ 1 ∷ 2 ∷ []))
    ≡ ok (ok (Concrete (memory 4 4 4 0 Scalar)) ∷ ok (Concrete (memory 12 4 16 0 (Elements 4 0 3))) ∷ ok (Concrete (memory 12 4 16 0 (Fields (0 ∷ []) (1 ∷ [])))) ∷ [])
unfolding opened
vec3-alone = refl

-- the aggregate minimum is an array's and a struct's, not a vector's; with a runtime-sized part size isn't rounded
extended :
    of "G,1,16,1,1,1,1\nF,32\nV,0,2\nA,0,3,16\nI,8\nR,3,4\nS,1,2,3,4\nA,5,2,-\n" (λ s. map (answer_in s) (1 ∷ 2 ∷ 5 ∷ 6 ∷ []))
    ≡ ok
    (ok (Concrete (memory 8 4 8 0 (Elements 4 0 2)))
    ∷ ok (Concrete (memory 48 4 16 0 (Elements 16 0 3)))
    ∷ ok (Handle (Buffer (memory 1 1 16 4 (Fields (0 ∷ 1 ∷ []) (3 ∷ 4 ∷ [])))))
    ∷ ok (HandleArray (Buffer (memory 1 1 16 4 (Fields (0 ∷ 1 ∷ []) (3 ∷ 4 ∷ [])))) 2)
    ∷ [])
unfolding opened
extended = refl

-- zero length before the element's own refusal, that before stride 0; a specialization length first; a handle's array before its stride; 1 where there is no type
order :
    of "G,1,1,1,1,1,1\nU\nA,0,0,0\nA,0,2,0\nA,0,s,0\nO\nA,4,3,0\nA,5,2,-\nR,4,-\nR,7,-\n" (λ s. map (answer_in s) (1 ∷ 2 ∷ 3 ∷ 5 ∷ 6 ∷ 8 ∷ 9 ∷ []))
    ≡ ok (refused 6 ∷ refused 4 ∷ refused 7 ∷ ok (HandleArray Opaque 3) ∷ refused 9 ∷ refused 9 ∷ refused 1 ∷ [])
unfolding opened
order = refl

-- from which 67 starts: of F32, of an opaque, of a handle array, of a runtime array, of an empty struct
runtime-arrays :
    of "G,1,1,1,1,1,1\nF,32\nO\nA,1,2,-\nR,0,-\nS,0,0\n" (λ s. map (runtime_array_in s) (0 ∷ 1 ∷ 2 ∷ 3 ∷ 4 ∷ []))
    ≡ ok (ok (Concrete (memory 0 4 4 4 (Elements 4 0 0))) ∷ ok (HandleArray Opaque 0) ∷ refused 9 ∷ refused 10 ∷ refused 8 ∷ [])
unfolding opened
runtime-arrays = refl

-- T and Q in a lent list that is too short by one, and just long enough; Q: 28 before the layout, that before 19
room-of-offsets :
    of "G,1,1,1,1,1,1\nF,32\nS,0,2,0,0\n" (λ s. map (λ room. layout_in_room room s 1) (1 ∷ 2 ∷ []))
    ≡ ok (refused 24 ∷ ok (Concrete (memory 8 4 4 0 (Fields (0 ∷ 4 ∷ []) (0 ∷ 0 ∷ [])))) ∷ [])
unfolding opened
room-of-offsets = refl

room_of_components : of "G,1,1,1,1,1,1\nF,32\nS,0,2,0,0\n" (λ s. map (λ room. lookup_in_room room s 1 4 4) (1 ∷ 2 ∷ [])) ≡ ok (refused 24 ∷ ok (0 ∷ 1 ∷ []) ∷ [])
unfolding opened
room_of_components = refl

lookups :
    of "G,1,1,1,1,1,1\nO\nU\nF,32\nA,2,4,-\n"
    (λ s. lookup s 1 2 1 ∷ lookup s 1 1 2 ∷ lookup s 0 2 1 ∷ lookup s 0 1 2 ∷ lookup s 9 2 1 ∷ lookup s 3 0 5 ∷ lookup s 3 15 16 ∷ lookup s 3 16 16 ∷ lookup s 2 0 1 ∷ [])
    ≡ ok (refused 28 ∷ refused 4 ∷ refused 28 ∷ refused 19 ∷ refused 1 ∷ ok [] ∷ ok (3 ∷ []) ∷ ok (4 ∷ []) ∷ ok [] ∷ [])
unfolding opened
lookups = refl
