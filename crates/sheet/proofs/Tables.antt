-- Laws of a sheet's tables: their lengths, one type more, and spans that never overlap. Assumes nothing.
use Prim.Native.Nat.{ℕ, zero, suc, ◌+◌, ◌*◌, ◌≤◌, ◌<◌}
use native.Mathlib.Omega.{arith}
use mathlib.Core.Path.{◌≡◌, refl, sym, ap, ◌∙◌}
use mathlib.Core.Bool.{Bool, true, false, cond, true≢false}
use mathlib.Core.List.{List, [], ◌∷◌, ◌++◌, append_assoc, append-nil}
use mathlib.Core.Option.{some}
use lib.ListN.{length, take, drop, get_elem?, replicate, length-append, length-replicate, length-drop}
use lib.Seq.{sets, sets-eq, length-take-le, drop-append-add, take-append_seam, take_at, drop-append-le, take-append-le}
use Rattle.arith.proofs.Results.{no_some, some_is}
use Rattle.spirv.specs.Decl.{Decl, is_struct}
use Rattle.spirv.specs.Rows.{encode_row, struct_row, plain_row, decode_row, row_at, OfDeclaration}
use Rattle.spirv.specs.Reduced.{decl_row, given_words, reduced}
use Rattle.spirv.proofs.Rows.{row_length, rows_read_back}
use Rattle.sheet.specs.Sheet.{member_count}
use Rattle.sheet.specs.Tables.{over, types_words, members_words, offsets_words, span_start, Spans, ReadBack}

-- stores at the front
pub front : (l w : List ℕ) → length w ≤ length l → sets l 0 w ≡ over w l
front l w h = let all : 0 + length w ≡ length w = omega arith in sets-eq w l 0 (omega arith) ∙ ap (λ (k : ℕ). w ++ drop k l) all

-- ---- lengths

pub given_length : (d : Decl) → length (given_words d) ≡ length d.members
unfolding given_words
given_length d =
    let n = length d.members in
    let offs = (reduced d.decorations).offsets in
    let zs : List ℕ = replicate n 0 in
    length-take-le n (offs ++ zs) (omega (arith, length-append offs zs, length-replicate {A = ℕ} n 0))

pub types_length : (start : ℕ) (ds : List Decl) → length (types_words start ds) ≡ 6 * length ds
types_length start [] = refl
types_length start (d ∷ ds) =
    omega (arith, length-append (encode_row (decl_row start d)) (types_words (start + length d.members) ds), row_length (decl_row start d), types_length (start + length d.members) ds)

pub members_length : (ds : List Decl) → length (members_words ds) ≡ member_count ds
members_length [] = refl
members_length (d ∷ ds) = omega (arith, length-append d.members (members_words ds), members_length ds)

pub offsets_length : (ds : List Decl) → length (offsets_words ds) ≡ member_count ds
offsets_length [] = refl
offsets_length (d ∷ ds) = omega (arith, length-append (given_words d) (offsets_words ds), offsets_length ds, given_length d)

-- ---- one type more

pub types_more : (start : ℕ) (ds : List Decl) (d : Decl) → types_words start (ds ++ (d ∷ [])) ≡ types_words start ds ++ encode_row (decl_row (start + member_count ds) d)
types_more start [] d = let e : start + 0 ≡ start = omega arith in rw (e, append-nil)
types_more start (c ∷ ds) d =
    let e : start + length c.members + member_count ds ≡ start + (length c.members + member_count ds) = omega arith in
    rw (types_more (start + length c.members) ds d, append_assoc, e)

pub members_more : (ds : List Decl) (d : Decl) → members_words (ds ++ (d ∷ [])) ≡ members_words ds ++ d.members
members_more [] d = append-nil d.members
members_more (c ∷ ds) d = rw (members_more ds d, append_assoc)

pub offsets_more : (ds : List Decl) (d : Decl) → offsets_words (ds ++ (d ∷ [])) ≡ offsets_words ds ++ given_words d
offsets_more [] d = append-nil (given_words d)
offsets_more (c ∷ ds) d = rw (offsets_more ds d, append_assoc)

-- ---- spans

no_type : {d : Decl} (t : ℕ) → get_elem? [] t ≡ some d → ⊥
no_type zero e = no_some e
no_type (suc t) e = no_some e

-- at its place, a part of the whole
part_here : (a b : List ℕ) → take (length a) (drop 0 (a ++ b)) ≡ a
part_here a b = take-append_seam a b

part_later : (a b : List ℕ) (n k m : ℕ) → length a ≡ n → take m (drop (n + k) (a ++ b)) ≡ take m (drop k b)
part_later a b n k m e = rw (← e, drop-append-add a b k)

apart : (ds : List Decl) (t u : ℕ) (d : Decl) → t < u → get_elem? ds t ≡ some d → span_start ds t + length d.members ≤ span_start ds u
apart [] t u d h e = absurd (no_type t e)
apart (c ∷ ds) zero zero d h e = absurd (omega arith)
apart (c ∷ ds) zero (suc u) d h e = let q = ap (λ (x : Decl). length x.members) (some_is e) in omega arith
apart (c ∷ ds) (suc t) zero d h e = absurd (omega arith)
apart (c ∷ ds) (suc t) (suc u) d h e = let q = apart ds t u d (omega arith) e in omega arith

inside : (ds : List Decl) (t : ℕ) (d : Decl) → get_elem? ds t ≡ some d → span_start ds t + length d.members ≤ length (members_words ds)
inside [] t d e = absurd (no_type t e)
inside (c ∷ ds) zero d e = let q = ap (λ (x : Decl). length x.members) (some_is e) in omega (arith, length-append c.members (members_words ds))
inside (c ∷ ds) (suc t) d e = let q = inside ds t d e in omega (arith, length-append c.members (members_words ds))

members_at : (ds : List Decl) (t : ℕ) (d : Decl) → get_elem? ds t ≡ some d → take (length d.members) (drop (span_start ds t) (members_words ds)) ≡ d.members
members_at [] t d e = absurd (no_type t e)
members_at (c ∷ ds) zero d e = rw (← some_is e) (part_here c.members (members_words ds))
members_at (c ∷ ds) (suc t) d e = part_later c.members (members_words ds) (length c.members) (span_start ds t) (length d.members) refl ∙ members_at ds t d e

given_at : (ds : List Decl) (t : ℕ) (d : Decl) → get_elem? ds t ≡ some d → take (length d.members) (drop (span_start ds t) (offsets_words ds)) ≡ given_words d
given_at [] t d e = absurd (no_type t e)
given_at (c ∷ ds) zero d e = rw (← some_is e) (take_at (given_words c) (offsets_words ds) (length c.members) (given_length c))
given_at (c ∷ ds) (suc t) d e = part_later (given_words c) (offsets_words ds) (length c.members) (span_start ds t) (length d.members) (given_length c) ∙ given_at ds t d e

rows_at : (start : ℕ) (ds : List Decl) (t : ℕ) (d : Decl) → get_elem? ds t ≡ some d → take 6 (drop (6 * t) (types_words start ds)) ≡ encode_row (decl_row (start + span_start ds t) d)
rows_at start [] t d e = absurd (no_type t e)
rows_at start (c ∷ ds) zero d e =
    let z : start + 0 ≡ start = omega arith in
    rw (← some_is e, z) (take_at (encode_row (decl_row start c)) (types_words (start + length c.members) ds) 6 (row_length (decl_row start c)))
rows_at start (c ∷ ds) (suc t) d e =
    let n : 6 * suc t ≡ 6 + 6 * t = omega arith in
    let m : start + length c.members + span_start ds t ≡ start + (length c.members + span_start ds t) = omega arith in
    rw n (part_later (encode_row (decl_row start c)) (types_words (start + length c.members) ds) 6 (6 * t) 6 (row_length (decl_row start c)) ∙ (rw m at (rows_at (start + length c.members) ds t d e)))

pub spans : (ds : List Decl) → Spans ds
spans ds = record {
  apart = apart ds;
  inside = inside ds;
  members = members_at ds;
  given = given_at ds;
  rows = λ t d e. let z : 0 + span_start ds t ≡ span_start ds t = omega arith in rw z at (rows_at 0 ds t d e);
}

-- ---- read back

-- a part of the first of two lists
part_first : (a b : List ℕ) (k n : ℕ) → k + n ≤ length a → take n (drop k (a ++ b)) ≡ take n (drop k a)
part_first a b k n h =
    let i : k ≤ length a = omega arith in
    let j : n ≤ length (drop k a) = omega (arith, length-drop k a) in
    rw (drop-append-le k a b i, take-append-le n (drop k a) b j)

some_below : (ds : List Decl) (t : ℕ) (d : Decl) → get_elem? ds t ≡ some d → t < length ds
some_below [] t d e = absurd (no_type t e)
some_below (c ∷ ds) zero d e = omega arith
some_below (c ∷ ds) (suc t) d e = let h = some_below ds t d e in omega arith

-- a row of a declaration
of_declaration : (start : ℕ) (d : Decl) → OfDeclaration (decl_row start d)
unfolding decl_row
of_declaration start d = go (is_struct d.type) refl
  where
    go : (b : Bool) → is_struct d.type ≡ b → OfDeclaration (cond b (struct_row d.type start (length d.members) (reduced d.decorations).refusal (length (reduced d.decorations).offsets)) (plain_row d.type))
    go true e = record { plain = λ f. absurd (true≢false (sym e ∙ f)) }
    go false e = record { plain = λ f. refl }

pub read_back : (ds : List Decl) → ReadBack ds
unfolding row_at
read_back ds = record {
  row = λ old t d e.
      let h = some_below ds t d e in
      ap decode_row (part_first (types_words 0 ds) (drop (length (types_words 0 ds)) old) (6 * t) 6 (omega (arith, types_length 0 ds)) ∙ (spans ds).rows t d e)
      ∙ rows_read_back.back (decl_row (span_start ds t) d) (of_declaration (span_start ds t) d);
  members = λ old t d e. part_first (members_words ds) (drop (length (members_words ds)) old) (span_start ds t) (length d.members) (inside ds t d e) ∙ members_at ds t d e;
  given = λ old t d e. part_first (offsets_words ds) (drop (length (offsets_words ds)) old) (span_start ds t) (length d.members) (omega (arith, inside ds t d e, members_length ds, offsets_length ds)) ∙ given_at ds t d e;
}
