-- The fields that are left of a line: none, or all of one kind, counted and written one by one. Assumes nothing.
use Prim.Native.Nat.{ℕ, ◌+◌, ◌≤◌, ◌<◌}
use native.Mathlib.Omega.{arith}
use mathlib.Core.Path.{◌≡◌, refl, sym, ap, ◌∙◌}
use mathlib.Core.Bool.{Bool, true, false}
use mathlib.Core.List.{List, [], ◌∷◌, ◌++◌, append_assoc, append-nil}
use mathlib.Core.Option.{Option, none, some}
use lib.Dec.{leb, eqb}
use borrow.Author.Tests.{lt-ltb, eq-eqb, ne_eqb, leb-true, leb-false, eqb-true, eqb-false}
use lib.ListN.{length, length-append}
use lib.Seq.{sets, length-sets}
use Rattle.std.specs.Prelude as code
use Rattle.std.specs.Prelude.{Some, None}
use Rattle.std.specs.Bool.{then_some}
use Rattle.arith.specs.Options.{◌>>=◌}
use Rattle.arith.proofs.Results.{no_some, some_is}
use Rattle.spirv.specs.declared.SpvType.{SpvType}
use Rattle.spirv.specs.declared.SpvType.TheVariants as spv
use Rattle.spirv.specs.declared.ChainOp.{ChainOp}
use Rattle.spirv.specs.declared.Index.{Index}
use Rattle.spirv.specs.Rows.{encode_index}
use Rattle.spirv.specs.Questions.{Question}
use Rattle.arith.proofs.Stores.{sets_append}
use Rattle.sheet.specs.Fields.{read_type, read_index, read_all, end, types, indices}
use Rattle.sheet.specs.Grammar.{Line, Setting, Declared, Decorated, Asked, declare, declare_struct}
use Rattle.shapes.specs.declared.LayoutConfig.{LayoutConfig}
use Rattle.spirv.specs.declared.MemberDecoration.{MemberDecoration}
use Rattle.fields.specs.Pieces.{behind}
use Rattle.fields.specs.Took.{Got, Lost}
use Rattle.fields.proofs.Pieces.{split_some, behind_none}
use Rattle.fields.proofs.Took.{got, lost, got_both, lost_both}
use Rattle.lines.specs.declared.Ask.{Ask}
use Rattle.lines.specs.declared.Ask.TheVariants as ask
use Rattle.lines.specs.declared.SheetLine.{SheetLine}
use Rattle.lines.specs.declared.SheetLine.TheVariants as says
use Rattle.lines.specs.Says.{count_of, question_of, Declares, Asks, Says, counted_from, index_words}

-- ---- none

-- before the end of a line there is a field
pub some_behind : (line : List ℕ) (e : ℕ) → e < length line → (f : List ℕ) × (fs : List (List ℕ)) × (behind line e ≡ f ∷ fs)
unfolding behind
some_behind line e h = let q = split_some 44 (lib.ListN.drop (e + 1) line) in (q.0, q.1, (rw (lt-ltb e (length line) h) q.2))

pub not_ended : {A : Type 0} (a : A) (line : List ℕ) (e : ℕ) → e < length line → end a (behind line e) ≡ none
not_ended a line e h = let q = some_behind line e h in rw q.2

pub ended : {A : Type 0} (a : A) (line : List ℕ) (e : ℕ) → length line ≤ e → end a (behind line e) ≡ some a
ended a line e h = rw (behind_none line e h)

pub declares : (above : ℕ) (line : List ℕ) (t : SpvType) (e : ℕ) → length line ≤ e → Declares above line t 0 e (end (declare t) (behind line e))
declares above line t e h = record { members = []; read = rw (behind_none line e h); count = refl; told = ended (declare t) line e h }

pub asks : (line : List ℕ) (a : Ask) (e : ℕ) → length line ≤ e → count_of a ≡ 0 → Asks line a e (end (Asked (question_of a [])) (behind line e))
asks line a e h z = record { indices = []; read = rw (behind_none line e h); count = sym z; told = ended (Asked (question_of a [])) line e h }

-- what is said where the line ends
said : (above : ℕ) (line : List ℕ) (e : ℕ) (w : SheetLine) (l : Line) {r : code.Option SheetLine} → r ≡ then_some (leb (length line) e) w
    → (length line ≤ e → Says above line (Some w) (end l (behind line e))) → Says above line r (end l (behind line e))
said above line e w l {r} q h = rw q (by (leb (length line) e) refl)
  where
    by : (t : Bool) → leb (length line) e ≡ t → Says above line (then_some t w) (end l (behind line e))
    by true k = h (leb-true (length line) e k)
    by false k = not_ended l line e (leb-false (length line) e k)

module _ (above : ℕ) (line : List ℕ) (e : ℕ) {r : code.Option SheetLine} where
  pub setting_ends : (g : LayoutConfig) → r ≡ then_some (leb (length line) e) (says.Setting g) → Says above line r (end (Setting g) (behind line e))
  setting_ends g q = said above line e (says.Setting g) (Setting g) q (λ h. ended (Setting g) line e h)

  pub decoration_ends : (d : MemberDecoration) → r ≡ then_some (leb (length line) e) (says.Decorated d) → Says above line r (end (Decorated d) (behind line e))
  decoration_ends d q = said above line e (says.Decorated d) (Decorated d) q (λ h. ended (Decorated d) line e h)

  pub type_ends : (t : SpvType) → r ≡ then_some (leb (length line) e) (says.Declared t 0 e) → Says above line r (end (declare t) (behind line e))
  type_ends t q = said above line e (says.Declared t 0 e) (declare t) q (declares above line t e)

  pub question_ends : (a : Ask) → count_of a ≡ 0 → r ≡ then_some (leb (length line) e) (says.Asked a e) → Says above line r (end (Asked (question_of a [])) (behind line e))
  question_ends a z q = said above line e (says.Asked a e) (Asked (question_of a [])) q (λ h. asks line a e h z)

-- ---- all of one kind

-- one field more in front, and several
abbrev consed : {A : Type 0} → A → Option (List A) → Option (List A)
consed a none = none
consed a (some rest) = some (a ∷ rest)

abbrev behind_these : {A : Type 0} → List A → Option (List A) → Option (List A)
behind_these done none = none
behind_these done (some rest) = some (done ++ rest)

module _ {A : Type 0} {read : List ℕ → Option A} {line : List ℕ} {e : ℕ} where
  all_more : {a : A} {d : ℕ} → Got read line e a d → read_all read (behind line e) ≡ consed a (read_all read (behind line d))
  unfolding ◌>>=◌
  all_more {a} {d} g = rw (g.here, g.says) (go (read_all read (behind line d)))
    where
      go : (o : Option (List A)) → (o >>= (λ rest. some (a ∷ rest))) ≡ consed a o
      go none = refl
      go (some rest) = refl

  all_lost : Lost read line e → e < length line → read_all read (behind line e) ≡ none
  unfolding ◌>>=◌
  all_lost l h = let q = some_behind line e h in rw (q.2, l.not q.0 q.1 q.2)

all_ended : {A : Type 0} (read : List ℕ → Option A) (line : List ℕ) (e : ℕ) → length line ≤ e → read_all read (behind line e) ≡ some []
all_ended read line e h = rw (behind_none line e h)

-- ---- counted

module _ {A : Type 0} {read : List ℕ → Option A} {line : List ℕ} {e : ℕ} (n : ℕ) where
  pub count_more : {a : A} {d : ℕ} → Got read line e a d → counted_from n (read_all read (behind line e)) ≡ counted_from (n + 1) (read_all read (behind line d))
  unfolding counted_from
  count_more {a} {d} g = rw (all_more g) (go (read_all read (behind line d)))
    where
      go : (o : Option (List A)) → counted_from n (consed a o) ≡ counted_from (n + 1) o
      go none = refl
      go (some rest) = ap Some (omega arith)

  pub count_lost : Lost read line e → e < length line → counted_from n (read_all read (behind line e)) ≡ None
  unfolding counted_from
  count_lost l h = rw (all_lost l h)

pub count_all : {A : Type 0} (read : List ℕ → Option A) (line : List ℕ) (e n : ℕ) → length line ≤ e → counted_from n (read_all read (behind line e)) ≡ Some n
unfolding counted_from
count_all read line e n h = rw (all_ended read line e h) (ap Some (omega arith))

-- what a count tells
record Counts {A : Type 0} (o : Option (List A)) (k : ℕ) : Type 0 where
  all : List A
  read : o ≡ some all
  count : length all ≡ k

counts : {A : Type 0} (o : Option (List A)) {k : ℕ} → Some k ≡ counted_from 0 o → Counts o k
unfolding counted_from
counts none p = absurd (let z : ◌≡◌ {A = ℕ} 0 1 = cc in omega arith)
counts (some xs) {k} p = let e : k ≡ 0 + length xs = cc in record { all = xs; read = refl; count = omega arith }

no_count : {A : Type 0} (o : Option (List A)) → None ≡ counted_from 0 o → o ≡ none
unfolding counted_from
no_count none p = refl
no_count (some xs) p = absurd (let z : ◌≡◌ {A = ℕ} 0 1 = cc in omega arith)

-- ---- a struct's members, and a chain's indices

struct_of : (block : Bool) (n : ℕ) (o : Option (List ℕ)) (ms : List ℕ) → o ≡ some ms → n ≡ length ms
    → (o >>= (λ ms. declare_struct block n ms)) ≡ some (Declared record { type = spv.Struct block; members = ms; decorations = [] })
unfolding ◌>>=◌
struct_of block n o ms q h = rw (q, eq-eqb n (length ms) h)

chain_of : (op : ChainOp) (ptr : ℕ) (o : Option (List Index)) (xs : List Index) → o ≡ some xs → (o >>= (λ is. some (Asked (Question.C op ptr is)))) ≡ some (Asked (Question.C op ptr xs))
unfolding ◌>>=◌
chain_of op ptr o xs q = rw q

module _ (above : ℕ) (line : List ℕ) (at : ℕ) (block : Bool) (n : ℕ) where
  pub struct_lost : None ≡ counted_from 0 (read_all (read_type above) (behind line at)) → types above (λ ms. declare_struct block n ms) (behind line at) ≡ none
  unfolding ◌>>=◌
  struct_lost p = rw (no_count _ p)

  pub struct_says : {k : ℕ} {r : code.Option SheetLine} → Some k ≡ counted_from 0 (read_all (read_type above) (behind line at)) → r ≡ then_some (eqb n k) (says.Declared (spv.Struct block) k at)
      → Says above line r (types above (λ ms. declare_struct block n ms) (behind line at))
  unfolding ◌>>=◌
  struct_says {k} {r} p q = rw q (by (eqb n k) refl)
    where
      c : Counts (read_all (read_type above) (behind line at)) k
      c = counts (read_all (read_type above) (behind line at)) p

      by : (t : Bool) → eqb n k ≡ t → Says above line (then_some t (says.Declared (spv.Struct block) k at)) (types above (λ ms. declare_struct block n ms) (behind line at))
      by true e = record { members = c.all; read = c.read; count = c.count; told = struct_of block n (read_all (read_type above) (behind line at)) c.all c.read (eqb-true n k e ∙ sym c.count) }
      by false e = rw (c.read, ne_eqb n (length c.all) (λ h. eqb-false n k e (h ∙ c.count)))

module _ (line : List ℕ) (at : ℕ) (op : ChainOp) (ptr : ℕ) where
  pub chain_lost : None ≡ counted_from 0 (read_all read_index (behind line at)) → indices (λ is. some (Asked (Question.C op ptr is))) (behind line at) ≡ none
  unfolding ◌>>=◌
  chain_lost p = rw (no_count _ p)

  pub chain_says : {k : ℕ} → Some k ≡ counted_from 0 (read_all read_index (behind line at)) → Asks line (ask.C op ptr k) at (indices (λ is. some (Asked (Question.C op ptr is))) (behind line at))
  unfolding ◌>>=◌
  chain_says {k} p =
      let c = counts (read_all read_index (behind line at)) p in
      record { indices = c.all; read = c.read; count = c.count; told = chain_of op ptr (read_all read_index (behind line at)) c.all c.read }

-- ---- written

-- the words of some values
abbrev pub words_of : {A : Type 0} → (A → List ℕ) → List A → List ℕ
words_of word [] = []
words_of word (a ∷ rest) = word a ++ words_of word rest

words_more : {A : Type 0} (word : A → List ℕ) (done : List A) (a : A) → words_of word (done ++ (a ∷ [])) ≡ words_of word done ++ word a
words_more word [] a = append-nil (word a)
words_more word (d ∷ done) a = rw (words_more word done a, append_assoc)

pub words_each : (ms : List ℕ) → words_of (λ m. m ∷ []) ms ≡ ms
words_each [] = refl
words_each (m ∷ ms) = ap (λ (x : List ℕ). m ∷ x) (words_each ms)

-- the values behind `at` are written up to the field that ends at e: n words from `first` on
pub record Filled {A : Type 0} (word : A → List ℕ) (read : List ℕ → Option A) (line list₀ : List ℕ) (first at n e : ℕ) (list : List ℕ) : Type 0 where
  pub done : List A
  pub stored : list ≡ sets list₀ first (words_of word done)
  pub places : n ≡ length (words_of word done)
  pub left : read_all read (behind line at) ≡ behind_these done (read_all read (behind line e))
  pub size : length list ≡ length list₀

these_none : {A : Type 0} (o : Option (List A)) → o ≡ behind_these [] o
these_none none = refl
these_none (some xs) = refl

these_more : {A : Type 0} (done : List A) (a : A) (o : Option (List A)) → behind_these done (consed a o) ≡ behind_these (done ++ (a ∷ [])) o
these_more done a none = refl
these_more done a (some xs) = ap some (sym (append_assoc done (a ∷ []) xs))

module _ {A : Type 0} {word : A → List ℕ} {read : List ℕ → Option A} {line list₀ : List ℕ} {first at : ℕ} where
  pub filled_none : Filled word read line list₀ first at 0 at list₀
  filled_none = record { done = []; stored = refl; places = refl; left = these_none (read_all read (behind line at)); size = refl }

  module _ {n e : ℕ} {list : List ℕ} (w : Filled word read line list₀ first at n e list) where
    pub filled_more : {a : A} {d k m : ℕ} {list' : List ℕ} → Got read line e a d → k ≡ first + n → m ≡ n + length (word a) → list' ≡ sets list k (word a) → Filled word read line list₀ first at m d list'
    filled_more {a} {d} {k} {m} {list'} g i j q = record {
      done = w.done ++ (a ∷ []);
      stored = q ∙ (rw (words_more word w.done a, sets_append list₀ first (words_of word w.done) (word a), ← w.stored, ← w.places, i));
      places = rw (words_more word w.done a) (omega (arith, length-append (words_of word w.done) (word a), w.places));
      left = w.left ∙ (rw (all_more g) (these_more w.done a (read_all read (behind line d))));
      size = ap length q ∙ length-sets list k (word a) ∙ w.size;
    }

    pub filled_end : Lost read line e → (xs : List A) → read_all read (behind line at) ≡ some xs → list ≡ sets list₀ first (words_of word xs)
    filled_end l xs q = by (leb (length line) e) refl
      where
        by : (t : Bool) → leb (length line) e ≡ t → list ≡ sets list₀ first (words_of word xs)
        by true h =
            let s : w.done ++ [] ≡ xs = some_is (sym (w.left ∙ ap (behind_these w.done) (all_ended read line e (leb-true (length line) e h))) ∙ q) in
            let t : w.done ≡ xs = sym (append-nil w.done) ∙ s in
            rw (← t) w.stored
        by false h = absurd (no_some (sym (w.left ∙ ap (behind_these w.done) (all_lost l (leb-false (length line) e h))) ∙ q))

pub index_words_lem : (is : List Index) → words_of encode_index is ≡ index_words is
index_words_lem [] = refl
index_words_lem (i ∷ is) = ap (λ (x : List ℕ). encode_index i ++ x) (index_words_lem is)

pub ruleset in_turn = (got, lost, got_both, lost_both, setting_ends, decoration_ends, type_ends, question_ends, struct_lost, struct_says, chain_lost, chain_says)
