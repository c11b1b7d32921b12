-- Laws of the table. Assumes nothing.
use Prim.Native.Nat.{ℕ, zero, suc, ◌+◌, ◌*◌, ◌≤◌, ◌<◌}
use native.Mathlib.Omega.{arith}
use mathlib.Core.Path.{◌≡◌, refl, sym, ap, ◌∙◌}
use mathlib.Core.Bool.{Bool}
use mathlib.Core.List.{List, [], ◌∷◌, ◌++◌}
use lib.ListN.{length, drop, replicate, length-append, length-drop, length-replicate}
use lib.Seq.{sets, length-sets}
use borrow.Author.Tests.{le-leb, le-ltb, lt-ltb}
use Rattle.arith.specs.Pairs.{both}
use Rattle.arith.specs.Refusals.{Result, ok, refused, ◌>>=◌, ◌>>◌, refuse◌unless◌, refuse◌when◌, in_room}
use Rattle.spirv.specs.declared.DeclRow.{DeclRow}
use Rattle.std.specs.Prelude.{Ok, Err, Some, None}
use Rattle.std.specs.Prelude as std
use Rattle.arith.specs.InCode.{OrRefusal, err}
use Rattle.arith.specs.declared.refusal.Refusal.{Refusal}
use Rattle.spirv.specs.Rows.{row_at}
use Rattle.arith.proofs.Stores.{sets_append}
use Rattle.shapes.specs.declared.LayoutConfig.{LayoutConfig}
use Rattle.shapes.specs.Settings.{setting_of}
use Rattle.shapes.specs.Rows.{flat}
use Rattle.shapes.proofs.RowLaws.{flat_length}
use Rattle.sheet.specs.Sheet.{Sheet, member_count, read_sheet}
use Rattle.sheet.specs.Tables.{over, setting_words, types_words, members_words, offsets_words, room_for, held}
use Rattle.sheet.proofs.GoodSheet.{reads_good}
use Rattle.sheet.proofs.Tables.{front, types_length, members_length, offsets_length}
use Rattle.layout.specs.Arrays as arrays
use Rattle.layout.specs.Layouts.{Rule, of_setting, of_width, of_elements, of_members, of_handle, no_layout, rule_of}
use Rattle.structs.specs.Rows.{struct_of_row, struct_both, StructMemory}
use Rattle.records.specs.Records.{by_rule_of_row, layout_of_row, below_of, with_next, records, filling}
use Rattle.records.proofs.Filled.{records_length}
use Rattle.reading.proofs.Told.{told_refused}
use Rattle.reading.specs.Reads.{told, words_in, into, ReadsInto}
use Rattle.laid.specs.Statements.{answers_of}
use Rattle.joined.proofs.Made.{setting_back}
use Rattle.flat.specs.Table.{part, types_part, members_part, given_part, places_part, layouts_part, table_words}
use Rattle.flat.specs.Reads.{ReadsTable, laid_out, stored_parts}

-- ---- lengths

-- the list of offsets stays as long as it is
module _ (cfg : LayoutConfig) (members given : List ℕ) where
  struct_kept : (b : Bool) (r : DeclRow) (offsets : List ℕ) (o : Result StructMemory) → length (struct_both b r offsets o).1 ≡ length offsets
  unfolding struct_both
  struct_kept b r offsets (ok s) = length-sets offsets r.start s.offsets
  struct_kept b r offsets (refused n) = refl

  rule_kept : (below : ℕ → arrays.Answer) (offsets : List ℕ) (r : DeclRow) (q : Rule) → length (by_rule_of_row cfg below members given offsets r q).1 ≡ length offsets
  unfolding by_rule_of_row
  rule_kept below offsets r (of_setting size align) = refl
  rule_kept below offsets r (of_width width) = refl
  rule_kept below offsets r (of_elements p) = refl
  rule_kept below offsets r (of_members block) = struct_kept block r offsets (struct_of_row cfg below members given (length offsets) r)
  rule_kept below offsets r of_handle = refl
  rule_kept below offsets r (no_layout n) = refl

  row_kept : (below : ℕ → arrays.Answer) (offsets : List ℕ) (x : std.Option DeclRow) → length (layout_of_row cfg below members given offsets x).1 ≡ length offsets
  unfolding layout_of_row
  row_kept below offsets (Some r) = rule_kept below offsets r (rule_of cfg r.ty)
  row_kept below offsets None = refl

  pub places_kept : (types offsets : List ℕ) (n : ℕ) → length (records cfg types members given offsets n).1 ≡ length offsets
  unfolding records with_next
  places_kept types offsets zero = refl
  places_kept types offsets (suc k) =
      row_kept (below_of (records cfg types members given offsets k).0) (records cfg types members given offsets k).1 (row_at types k) ∙ places_kept types offsets k

-- a part has its size
pub part_length : (size : ℕ) (ws : List ℕ) → length ws ≤ size → length (part size ws) ≡ size
part_length size ws h =
    let zeros : List ℕ = replicate size 0 in
    omega (arith, length-append ws (drop (length ws) zeros), length-drop (length ws) zeros, length-replicate {A = ℕ} size 0)

-- a sheet that was read has few types and members
pub record Sized (s : Sheet) : Type 0 where
  pub types : length (types_part s) ≡ 1536
  pub members : length (members_part s) ≡ 1024
  pub given : length (given_part s) ≡ 1024
  pub places : length (places_part s) ≡ 1024
  pub layouts : length (layouts_part s) ≡ 2560
  pub rows : layouts_part s ≡ flat (answers_of s (types_part s) (members_part s) (given_part s) (replicate 1024 0)) ++ drop (10 * length s.types) (replicate 2560 0)
  pub few : 10 * length s.types ≤ 2560

pub sized : (input : List ℕ) (s : Sheet) → read_sheet input ≡ ok s → Sized s
sized input s e =
    let g = reads_good input s e in
    let answers = answers_of s (types_part s) (members_part s) (given_part s) (replicate 1024 0) in
    let many : length (flat answers) ≡ 10 * length s.types =
    flat_length answers ∙ ap (λ (k : ℕ). 10 * k) (records_length s.setting (types_part s) (members_part s) (given_part s) (replicate 1024 0) (length s.types)) in
    record {
      types = part_length 1536 (types_words 0 s.types) (omega (arith, types_length 0 s.types, g.few_types));
      members = part_length 1024 (members_words s.types) (omega (arith, members_length s.types, g.few_members));
      given = part_length 1024 (offsets_words s.types) (omega (arith, offsets_length s.types, g.few_members));
      places = places_kept s.setting (members_part s) (given_part s) (types_part s) (replicate 1024 0) (length s.types) ∙ length-replicate {A = ℕ} 1024 0;
      layouts = part_length 2560 (flat answers) (omega (arith, many, g.few_types));
      rows = ap (λ (k : ℕ). flat answers ++ drop k (replicate 2560 0)) many;
      few = omega (arith, g.few_types);
    }

-- ---- one part behind the other

behind : (l a b : List ℕ) (i k : ℕ) → i + length a ≡ k → sets l i (a ++ b) ≡ sets (sets l i a) k b
behind l a b i k h = sets_append l i a b ∙ ap (λ (j : ℕ). sets (sets l i a) j b) h

seven : (l a b c d e f g : List ℕ) → length a ≡ 1 → length b ≡ 6 → length c ≡ 1536 → length d ≡ 1024 → length e ≡ 1024 → length f ≡ 1024
    → sets l 0 (a ++ (b ++ (c ++ (d ++ (e ++ (f ++ g))))))
    ≡ sets (sets (sets (sets (sets (sets (sets l 0 a) 1 b) 7 c) 1543 d) 2567 e) 3591 f) 4615 g
seven l a b c d e f g ha hb hc hd he hf =
    let m = sets l 0 a in
    let n = sets m 1 b in
    let o = sets n 7 c in
    let p = sets o 1543 d in
    let q = sets p 2567 e in
    behind l a (b ++ (c ++ (d ++ (e ++ (f ++ g))))) 0 1 (omega arith)
    ∙ behind m b (c ++ (d ++ (e ++ (f ++ g)))) 1 7 (omega arith)
    ∙ behind n c (d ++ (e ++ (f ++ g))) 7 1543 (omega arith)
    ∙ behind o d (e ++ (f ++ g)) 1543 2567 (omega arith)
    ∙ behind p e (f ++ g) 2567 3591 (omega arith)
    ∙ behind q f g 3591 4615 (omega arith)

pub table_length : (s : Sheet) → Sized s → length (table_words s) ≡ 7175
unfolding table_words
table_length s z =
    let se = setting_words s.setting in
    let g = places_part s ++ layouts_part s in
    let f = given_part s ++ g in
    let e = members_part s ++ f in
    let d = types_part s ++ e in
    omega (arith, length-append (length s.types ∷ []) (se ++ d), length-append se d, length-append (types_part s) e, length-append (members_part s) f, length-append (given_part s) g, length-append (places_part s) (layouts_part s), z.types, z.members, z.given, z.places, z.layouts)

-- ---- a sheet, read into lists that hold every sheet

abbrev Zeros : ℕ → List ℕ
Zeros n = replicate n 0

all_held : (input : List ℕ) → into input (Zeros 6) (Zeros 1536) (Zeros 1024) (Zeros 1024) ≡ read_sheet input
unfolding held room_for ◌>>=◌ ◌>>◌ refuse◌unless◌
all_held input = by (read_sheet input) refl
  where
    by : (o : Result Sheet) → read_sheet input ≡ o → held (length (Zeros 6)) (length (Zeros 1536)) (length (Zeros 1024)) (length (Zeros 1024)) o ≡ o
    by (refused n) e = refl
    by (ok s) e =
        let g = reads_good input s e in
        let t = length-replicate {A = ℕ} 1536 0 in
        let m = length-replicate {A = ℕ} 1024 0 in
        rw (
          le-leb (6 * length s.types) (length (Zeros 1536)) (omega (arith, g.few_types, t)),
          le-leb (member_count s.types) (length (Zeros 1024)) (omega (arith, g.few_members, m)),
        )

-- what is stored of a sheet is its table
module _ (s : Sheet) (z : Sized s) where
  laid_is : laid_out (length s.types) (setting_words s.setting) (types_part s) (members_part s) (given_part s) ≡ both (places_part s) (layouts_part s)
  unfolding filling
  laid_is =
      let many = length-replicate {A = ℕ} 2560 0 in
      ap (λ (g : LayoutConfig). (filling g (types_part s) (members_part s) (given_part s) (Zeros 1024) (Zeros 2560) (length s.types)).1) (setting_back s.setting [])
      ∙ (rw (le-ltb (length (Zeros 2560)) (10 * length s.types) (omega (arith, z.few, many)), z.rows))

  stored_is : (old : List ℕ) (n : ℕ) (se ty me gi : List ℕ) → n ≡ length s.types → se ≡ setting_words s.setting → ty ≡ types_part s → me ≡ members_part s → gi ≡ given_part s
      → stored_parts n se ty me gi old ≡ sets old 0 (table_words s)
  unfolding stored_parts table_words
  stored_is old n se ty me gi count setting types members given =
      let places = ap (λ (p : List ℕ × List ℕ). p.0) laid_is in
      let layouts = ap (λ (p : List ℕ × List ℕ). p.1) laid_is in
      rw (count, setting, types, members, given, places, layouts)
      (sym (seven old (length s.types ∷ []) (setting_words s.setting) (types_part s) (members_part s) (given_part s) (places_part s) (layouts_part s) refl refl z.types z.members z.given z.places))

module _ {input : List ℕ} {r : OrRefusal ℕ} {se ty me gi : List ℕ} (x : ReadsInto input r (Zeros 6) (Zeros 1536) (Zeros 1024) (Zeros 1024) se ty me gi) (old : List ℕ) where
  pub read_refused : (e : Refusal) → r ≡ Err e → ReadsTable input (Err e) old old
  unfolding in_room ◌>>=◌
  read_refused e h =
      let o = told_refused (read_sheet input) (sym h ∙ (x.answer ∙ ap told (all_held input))) in
      record { answer = rw o; words = rw o }

  module _ (n : ℕ) (h : r ≡ Ok n) where
    pub record Came : Type 0 where
      pub sheet : Sheet
      pub is_sheet : read_sheet input ≡ ok sheet
      pub count : n ≡ length sheet.types

    came : Came
    came = by (read_sheet input) refl (sym h ∙ (x.answer ∙ ap told (all_held input)))
      where
        by : (o : Result Sheet) → read_sheet input ≡ o → Ok n ≡ told o → Came
        by (refused m) e k = absurd (let z : ◌≡◌ {A = ℕ} 0 1 = cc in omega arith)
        by (ok s) e k = record { sheet = s; is_sheet = e; count = cc }

    pub read_short : length old < 7175 → ReadsTable input (err 24) old old
    unfolding in_room ◌>>=◌ ◌>>◌ refuse◌when◌
    read_short short = record { answer = rw (came.is_sheet, lt-ltb (length old) 7175 short); words = rw (came.is_sheet, lt-ltb (length old) 7175 short) }

    abbrev s : Sheet
    s = came.sheet

    from_sheet : (words : Sheet → List ℕ) (l l₀ : List ℕ) → l ≡ over (words_in words (into input (Zeros 6) (Zeros 1536) (Zeros 1024) (Zeros 1024))) l₀ → l ≡ over (words s) l₀
    from_sheet words l l₀ e = e ∙ ap (λ (o : Result Sheet). over (words_in words o) l₀) (all_held input ∙ came.is_sheet)

    setting_is : se ≡ setting_words s.setting
    setting_is = from_sheet (λ y. setting_words y.setting) se (Zeros 6) x.setting

    pub read_whole : 7175 ≤ length old → {new : List ℕ} → new ≡ stored_parts n se ty me gi old → ReadsTable input (Ok n) old new
    unfolding in_room ◌>>=◌ ◌>>◌ refuse◌when◌
    read_whole long {new} e =
        let z = sized input s came.is_sheet in
        let types : ty ≡ types_part s = from_sheet (λ y. types_words 0 y.types) ty (Zeros 1536) x.types in
        let members : me ≡ members_part s = from_sheet (λ y. members_words y.types) me (Zeros 1024) x.members in
        let given : gi ≡ given_part s = from_sheet (λ y. offsets_words y.types) gi (Zeros 1024) x.given in
        let fits : length (table_words s) ≤ length old = omega (arith, table_length s z) in
        let stored = stored_is s z old n se ty me gi came.count setting_is types members given in
        record {
          answer = rw (came.is_sheet, le-ltb (length old) 7175 long, ← came.count);
          words = rw (came.is_sheet, le-ltb (length old) 7175 long) (e ∙ (stored ∙ front old (table_words s) fits));
        }

-- ---- what is stored

pub parts_stored : {f : OrRefusal (Unit {0})} {cfg : LayoutConfig} {os la t₁ t₂ t₃ t₄ t₅ t₆ t₇ : List ℕ} (n : ℕ) (se ty me gi t : List ℕ)
    → cfg ≡ setting_of se → both f (both os la) ≡ filling cfg ty me gi (Zeros 1024) (Zeros 2560) n
    → t₁ ≡ sets t 0 (n ∷ []) → t₂ ≡ sets t₁ 1 se → t₃ ≡ sets t₂ 7 ty → t₄ ≡ sets t₃ 1543 me → t₅ ≡ sets t₄ 2567 gi → t₆ ≡ sets t₅ 3591 os → t₇ ≡ sets t₆ 4615 la
    → t₇ ≡ stored_parts n se ty me gi t
unfolding stored_parts
parts_stored {f} {cfg} {os} {la} n se ty me gi t c l e₁ e₂ e₃ e₄ e₅ e₆ e₇ =
    let laid : both os la ≡ laid_out n se ty me gi = ap (λ (p : OrRefusal (Unit {0}) × (List ℕ × List ℕ)). p.1) l ∙ ap (λ (g : LayoutConfig). (filling g ty me gi (Zeros 1024) (Zeros 2560) n).1) c in
    let os_is : os ≡ (laid_out n se ty me gi).0 = ap (λ (p : List ℕ × List ℕ). p.0) laid in
    let la_is : la ≡ (laid_out n se ty me gi).1 = ap (λ (p : List ℕ × List ℕ). p.1) laid in
    rw (e₇, e₆, e₅, e₄, e₃, e₂, e₁, ← os_is, ← la_is)
