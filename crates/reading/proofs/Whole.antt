-- From the two passes to the whole: the answer and the lists. Assumes nothing.
use Prim.Native.Nat.{ℕ, ◌*◌, ◌≤◌, ◌<◌}
use native.Mathlib.Omega.{arith}
use mathlib.Core.Path.{◌≡◌, refl, sym, ap, ◌∙◌}
use mathlib.Core.Bool.{Bool, true, false, cond, ◌&&◌}
use mathlib.Core.List.{List}
use borrow.Author.Tests.{le-leb, lt-leb, leb-true}
use lib.Dec.{leb}
use lib.ListN.{length}
use lib.Seq.{sets}
use Rattle.arith.specs.Refusals.{Result, ok, refused, ◌>>=◌, ◌>>◌, refuse◌unless◌, oversize, short_list}
use Rattle.arith.proofs.Results.{first_true, second_true}
use Rattle.decimal.specs.Text.{split}
use Rattle.sheet.specs.Sheet.{Sheet, member_count, read_pieces, read_sheet}
use Rattle.sheet.specs.Tables.{over, setting_words, types_words, members_words, offsets_words, room_for, held}
use Rattle.sheet.proofs.Tables.{front, types_length, members_length, offsets_length}
use Rattle.std.specs.Prelude.{Ok, Err}
use Rattle.arith.specs.InCode.{OrRefusal, err}
use Rattle.reading.specs.declared.Counts.{Counts}
use Rattle.puts.specs.Puts.{Untouched}
use Rattle.reading.specs.Reads.{end_of, Passed, fits_by, into, ReadsInto}

-- ---- the definition, by the length of the input

read_is : (input : List ℕ) → length input ≤ 65536 → read_sheet input ≡ read_pieces (split 10 input)
unfolding read_sheet ◌>>◌ refuse◌unless◌
read_is input h = rw (le-leb (length input) 65536 h)

read_long : (input : List ℕ) → 65536 < length input → read_sheet input ≡ refused oversize
unfolding read_sheet ◌>>◌ refuse◌unless◌
read_long input h = rw (lt-leb (length input) 65536 h)

-- ---- what a pass tells

end_refused : (o : Result Sheet) {n : ℕ} → err n ≡ end_of o → o ≡ refused n
unfolding end_of
end_refused (ok s) q = absurd (let z : ◌≡◌ {A = ℕ} 0 1 = cc in omega arith)
end_refused (refused m) q = sym (ap refused (ap number_in q))
  where
    number_in : OrRefusal Counts → ℕ
    number_in (Ok n) = 0
    number_in (Err e) = e.number

record Done (o : Result Sheet) (n : Counts) : Type 0 where
  sheet : Sheet
  read : o ≡ ok sheet
  setting : sheet.setting ≡ n.setting
  types : length sheet.types ≡ n.types
  members : member_count sheet.types ≡ n.members

end_done : (o : Result Sheet) {n : Counts} → Ok n ≡ end_of o → Done o n
unfolding end_of
end_done (ok s) {n} q = let e : n ≡ record { setting = s.setting; types = length s.types; members = member_count s.types } = cc in rw e (record { sheet = s; read = refl; setting = refl; types = refl; members = refl })
end_done (refused m) q = absurd (let z : ◌≡◌ {A = ℕ} 0 1 = cc in omega arith)

-- ---- the answer

module _ (input se ty me gi : List ℕ) where
  into_refused : {n : ℕ} → read_sheet input ≡ refused n → into input se ty me gi ≡ refused n
  unfolding held ◌>>=◌
  into_refused e = rw e

  into_is : (s : Sheet) {b : Bool} → read_sheet input ≡ ok s → room_for (length se) (length ty) (length me) (length gi) s ≡ b → into input se ty me gi ≡ cond b (ok s) (refused short_list)
  unfolding held ◌>>=◌ ◌>>◌ refuse◌unless◌
  into_is s {b} e f = rw (e, f) (go b)
    where
      go : (b : Bool) → ((refuse short_list unless b) >> ok s) ≡ cond b (ok s) (refused short_list)
      go true = refl
      go false = refl

  nothing : {n : ℕ} {ty' me' gi' : List ℕ} → into input se ty me gi ≡ refused n → Untouched ty me gi ty' me' gi' → ReadsInto input (err n) se ty me gi se ty' me' gi'
  nothing e u = record { answer = rw e; setting = rw e; types = rw e u.types; members = rw e u.members; given = rw e u.given }

  pub too_long : 65536 < length input → ReadsInto input (err oversize) se ty me gi se ty me gi
  too_long h = nothing (into_refused (read_long input h)) (record { types = refl; members = refl; given = refl })

-- a bool that is four
record Room (a b c d : Bool) : Type 0 where
  first : a ≡ true
  second : b ≡ true
  third : c ≡ true
  fourth : d ≡ true

room : (a b c d : Bool) → a && (b && (c && d)) ≡ true → Room a b c d
room a b c d e =
    let f = second_true a (b && (c && d)) e in
    let g = second_true b (c && d) f in
    record { first = first_true a (b && (c && d)) e; second = first_true b (c && d) f; third = first_true c d g; fourth = second_true c d g }

-- stores at the front of a list that was left as it was
front_of : {l l' : List ℕ} (w : List ℕ) → l' ≡ l → length w ≤ length l → sets l' 0 w ≡ over w l
front_of {l} {l'} w e h = ap (λ (x : List ℕ). sets x 0 w) e ∙ front l w h

-- lists that were left as they were hold as much
fits_same : (se : List ℕ) {ty me gi ty' me' gi' : List ℕ} {ts ms : ℕ} (s : Sheet) → Untouched ty me gi ty' me' gi' → length s.types ≡ ts → member_count s.types ≡ ms
    → fits_by (length se) (length ty') (length me') (length gi') ts ms ≡ room_for (length se) (length ty) (length me) (length gi) s
unfolding fits_by room_for
fits_same se s u t m = rw (u.types, u.members, u.given, t, m)

module _ (input se ty me gi : List ℕ) {ty' me' gi' : List ℕ} (h : length input ≤ 65536) (u : Untouched ty me gi ty' me' gi') where
  pub stops : {n : ℕ} → err n ≡ end_of (read_pieces (split 10 input)) → ReadsInto input (err n) se ty me gi se ty' me' gi'
  stops q = nothing input se ty me gi (into_refused input se ty me gi (read_is input h ∙ end_refused (read_pieces (split 10 input)) q)) u

  module _ {n : Counts} (q : Ok n ≡ end_of (read_pieces (split 10 input))) where
    d : Done (read_pieces (split 10 input)) n
    d = end_done (read_pieces (split 10 input)) q

    -- the lists of the second pass are those of the first
    fits_is : fits_by (length se) (length ty') (length me') (length gi') n.types n.members ≡ room_for (length se) (length ty) (length me) (length gi) d.sheet
    fits_is = fits_same se d.sheet u d.types d.members

    pub too_short : fits_by (length se) (length ty') (length me') (length gi') n.types n.members ≡ false → ReadsInto input (err short_list) se ty me gi se ty' me' gi'
    too_short f = nothing input se ty me gi (into_is input se ty me gi d.sheet (read_is input h ∙ d.read) (sym fits_is ∙ f)) u

    pub held_whole : {r2 : OrRefusal Counts} {se2 ty2 me2 gi2 : List ℕ} → fits_by (length se) (length ty') (length me') (length gi') n.types n.members ≡ true
        → Passed true (read_pieces (split 10 input)) r2 ty' me' gi' ty2 me2 gi2 → se2 ≡ sets se 0 (setting_words n.setting) → ReadsInto input (Ok n.types) se ty me gi se2 ty2 me2 gi2
    unfolding room_for
    held_whole {r2} {se2} {ty2} {me2} {gi2} f w k =
        let b = sym fits_is ∙ f in
        let e : into input se ty me gi ≡ ok d.sheet = into_is input se ty me gi d.sheet (read_is input h ∙ d.read) b in
        let x = room (leb 6 (length se)) (leb (6 * length d.sheet.types) (length ty)) (leb (member_count d.sheet.types) (length me)) (leb (member_count d.sheet.types) (length gi)) b in
        let o = w.filled d.sheet refl d.read in
        record {
          answer = rw (e, d.types);
          setting = rw (e, d.setting) (k ∙ front se (setting_words n.setting) (leb-true 6 (length se) x.first));
          types = rw e (o.types ∙ front_of (types_words 0 d.sheet.types) u.types (omega (arith, types_length 0 d.sheet.types, leb-true (6 * length d.sheet.types) (length ty) x.second)));
          members = rw e (o.members ∙ front_of (members_words d.sheet.types) u.members (omega (arith, members_length d.sheet.types, leb-true (member_count d.sheet.types) (length me) x.third)));
          given = rw e (o.given ∙ front_of (offsets_words d.sheet.types) u.given (omega (arith, offsets_length d.sheet.types, leb-true (member_count d.sheet.types) (length gi) x.fourth)));
        }
