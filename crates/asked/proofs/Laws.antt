-- Laws of words that go into a lent list, and of the answers that they are. Assumes nothing.
use Prim.Native.Nat.{ℕ, ◌<◌, ◌≤◌}
use native.Mathlib.Omega.{arith}
use mathlib.Core.Path.{◌≡◌, refl, sym, ap, ◌∙◌}
use mathlib.Core.List.{List, [], ◌∷◌, ◌++◌}
use mathlib.Core.Option.{Option, none, some}
use lib.ListN.{length}
use lib.Seq.{sets}
use borrow.Author.Tests.{lt-ltb, le-ltb}
use Rattle.arith.specs.Pairs.{both}
use Rattle.arith.specs.Refusals.{Result, ok, refused, ◌>>=◌, ◌>>◌, refuse◌when◌, in_room}
use Rattle.arith.proofs.Results.{in_room_lem}
use Rattle.arith.proofs.Stores.{sets_append}
use Rattle.std.specs.Prelude.{Ok, Err}
use Rattle.std.specs.Prelude as std
use Rattle.arith.specs.InCode.{OrRefusal, err}
use Rattle.arith.specs.declared.refusal.Refusal.{Refusal}
use Rattle.text.specs.Whole.{Whole, held, written, answered}
use Rattle.sheet.proofs.Tables.{front}
use Rattle.components.specs.Found.{lookup_both, answered_in}
use Rattle.shapes.specs.declared.MemLayout.{MemLayout}
use Rattle.shapes.specs.declared.Components.{Components}
use Rattle.shapes.specs.declared.Components.TheVariants.{Scalar, Elements, Fields}
use Rattle.shapes.specs.declared.Handle.TheVariants.{Opaque, Buffer}
use Rattle.shapes.specs.declared.TypeLayout.{TypeLayout}
use Rattle.shapes.specs.declared.TypeLayout.TheVariants.{Handle, HandleArray, Concrete}
use Rattle.shapes.specs.Spans.{parts_by, spans_of, layout_by, answer_over}
use Rattle.values.specs.Values.{shown_in, shown_of}
use Rattle.pointers.specs.declared.ArrayLength.{ArrayLength}
use Rattle.pointers.specs.InCode.{as_length, as_variable}
use Rattle.lower.specs.Other as other
use Rattle.shapes.specs.declared.tables.Tables.{Tables}
use Rattle.components.specs.Found.{answers_in, lookup_in}
use Rattle.lower.specs.Other.{length_by, variable_by}
use Rattle.pointers.specs.OverTables.{pointee_at, length_over}
use Rattle.flat.specs.Table.{TablesIn}
use Rattle.asked.specs.Asked.{in_words, memory_words, layout_words, found_for, pointee_for, answer_for}
use Rattle.asked.specs.InCode.{memory_head, head_of, shown_words}

-- ---- words into a list

pub refused_whole : (e : ℕ) (old : List ℕ) → Whole (refused e) old (err e) old
unfolding in_room ◌>>=◌ answered written
refused_whole e old = record { says = refl; holds = refl }

pub none_whole : (old : List ℕ) → Whole (ok []) old (Ok 0) old
unfolding in_room ◌>>=◌ ◌>>◌ refuse◌when◌ answered written
none_whole old = record { says = rw (le-ltb (length old) 0 (omega arith)); holds = rw (le-ltb (length old) 0 (omega arith)) }

pub short_whole : (words old : List ℕ) → length old < length words → Whole (ok words) old (err 24) old
unfolding in_room ◌>>=◌ ◌>>◌ refuse◌when◌ answered written
short_whole words old h = record { says = rw (lt-ltb (length old) (length words) h); holds = rw (lt-ltb (length old) (length words) h) }

pub given_whole : (words old : List ℕ) {n : ℕ} {new : List ℕ} → n ≡ length words → length words ≤ length old → new ≡ sets old 0 words → Whole (ok words) old (Ok n) new
unfolding in_room ◌>>=◌ ◌>>◌ refuse◌when◌ answered written
given_whole words old en h e = record {
  says = rw (le-ltb (length old) (length words) h, en);
  holds = rw (le-ltb (length old) (length words) h) (e ∙ front old words h);
}

pub both_set : (a b old : List ℕ) {one two : List ℕ} → one ≡ sets old 0 a → two ≡ sets one (length a) b → two ≡ sets old 0 (a ++ b)
both_set a b old e f = rw (f, e) (sym (sets_append old 0 a b ∙ ap (λ (k : ℕ). sets (sets old 0 a) k b) (omega arith)))

-- ---- the parts of a table are the tables that it holds

module _ {table : List ℕ} {t : Tables} (x : TablesIn table t) where
  pub found_here : (ty start end : ℕ) → lookup_in t.layouts.rows.now t.layouts.count t.layouts.offsets.now t.layouts.members.now ty start end ≡ found_for table ty start end
  found_here ty start end = rw (x.rows, x.count, x.offsets, x.members)

  pub length_here : (ptr member : ℕ) → length_over t.layouts.count t.types.now t.layouts.rows.now t.layouts.offsets.now t.layouts.members.now ptr member ≡ length_by (pointee_for table) (answer_for table) ptr member
  length_here ptr member = rw (x.rows, x.count, x.offsets, x.members, x.types)

  pub variable_here : (ptr : ℕ) → variable_by (pointee_at t.types.now t.layouts.count) (answers_in t.layouts.rows.now t.layouts.count t.layouts.offsets.now t.layouts.members.now) ptr ≡ variable_by (pointee_for table) (answer_for table) ptr
  variable_here ptr = rw (x.rows, x.count, x.offsets, x.members, x.types)

  pub answer_here : (ty : ℕ) → answers_in t.layouts.rows.now t.layouts.count t.layouts.offsets.now t.layouts.members.now ty ≡ answer_for table ty
  answer_here ty = rw (x.rows, x.count, x.offsets, x.members)

-- ---- Q: what a lookup answers and writes

pub looked : (result : Result (List ℕ)) (old : List ℕ) {l : OrRefusal ℕ} {new : List ℕ} → both l new ≡ answered_in old result → Whole result old l new
unfolding lookup_both answered written
looked result old {l} {new} h = by (held (length old) result) refl h
  where
    by : (o : Result (List ℕ)) → held (length old) result ≡ o → both l new ≡ lookup_both old o → Whole result old l new
    by (refused m) i g = record {
      says = rw i (ap (λ (p : OrRefusal ℕ × List ℕ). p.0) g);
      holds = rw i (ap (λ (p : OrRefusal ℕ × List ℕ). p.1) g);
    }
    by (ok found) i g = record {
      says = rw i (ap (λ (p : OrRefusal ℕ × List ℕ). p.0) g);
      holds = rw i (ap (λ (p : OrRefusal ℕ × List ℕ). p.1) g ∙ front old found (in_room_lem (length old) length result i));
    }

-- ---- L and X: what the code's answer was made from

abbrev number_in : {A : Type 0} → OrRefusal A → ℕ
number_in (Ok a) = 0
number_in (Err e) = e.number

pub no_length : (a : Result other.ArrayLength) (e : Refusal) → as_length a ≡ Err e → a ≡ refused e.number
no_length (ok x) e h = absurd (let z : ◌≡◌ {A = ℕ} 0 1 = cc in omega arith)
no_length (refused m) e h = ap refused (ap number_in h)

pub some_length : (a : Result other.ArrayLength) (x : ArrayLength) → as_length a ≡ Ok x → a ≡ ok (record { offset = x.offset; stride = x.stride })
some_length (ok y) x h = let e : record { offset = y.offset; stride = y.stride } ≡ x = cc in ap ok (ap (λ (z : ArrayLength). record { offset = z.offset; stride = z.stride }) e)
some_length (refused m) x h = absurd (let z : ◌≡◌ {A = ℕ} 0 1 = cc in omega arith)

pub no_variable : (a : Result (Option MemLayout)) (e : Refusal) → as_variable a ≡ Err e → a ≡ refused e.number
no_variable (ok m) e h = absurd (let z : ◌≡◌ {A = ℕ} 0 1 = cc in omega arith)
no_variable (refused m) e h = ap refused (ap number_in h)

pub other_variable : (a : Result (Option MemLayout)) → as_variable a ≡ Ok std.None → a ≡ ok none
other_variable (ok none) h = refl
other_variable (ok (some m)) h = absurd (let z : ◌≡◌ {A = ℕ} 0 1 = cc in omega arith)
other_variable (refused m) h = absurd (let z : ◌≡◌ {A = ℕ} 0 1 = cc in omega arith)

pub fixed_variable : (a : Result (Option MemLayout)) (m : MemLayout) → as_variable a ≡ Ok (std.Some m) → a ≡ ok (some m)
fixed_variable (ok none) m h = absurd (let z : ◌≡◌ {A = ℕ} 0 1 = cc in omega arith)
fixed_variable (ok (some x)) m h = let z : x ≡ m = cc in ap (λ (y : MemLayout). ok (some y)) z
fixed_variable (refused e) m h = absurd (let z : ◌≡◌ {A = ℕ} 0 1 = cc in omega arith)

-- ---- T: the words of a layout are its head and its offsets

module _ (offsets members : List ℕ) where
  memory_words_lem : (form len : ℕ) (mem : _) (c : Components)
      → memory_head form len (record { mem = mem; components = c }) ++ shown_in offsets c ≡ form ∷ len ∷ memory_words (record { mem = mem; components = parts_by (spans_of offsets members) c })
  memory_words_lem form len mem Scalar = refl
  memory_words_lem form len mem (Elements stride elem n) = refl
  memory_words_lem form len mem (Fields start count) = refl

  layout_words_lem : (l : TypeLayout) → head_of l ++ shown_of offsets l ≡ layout_words (layout_by (spans_of offsets members) l)
  unfolding layout_words
  layout_words_lem (Concrete m) = memory_words_lem 1 0 m.mem m.components
  layout_words_lem (Handle (Buffer m)) = memory_words_lem 2 0 m.mem m.components
  layout_words_lem (Handle Opaque) = refl
  layout_words_lem (HandleArray (Buffer m) len) = memory_words_lem 4 len m.mem m.components
  layout_words_lem (HandleArray Opaque len) = refl

  pub shown_words_lem : (a : OrRefusal TypeLayout) → shown_words offsets a ≡ in_words layout_words (answer_over offsets members a)
  unfolding ◌>>=◌
  shown_words_lem (Ok l) = ap ok (layout_words_lem l)
  shown_words_lem (Err e) = refl
