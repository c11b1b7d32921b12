-- The records of all types, read with the offsets that were written, are the layouts of the declarations. Assumes nothing.
use Prim.Native.Nat.{ℕ, zero, suc, ◌+◌, ◌≤◌, ◌<◌}
use mathlib.Core.Path.{◌≡◌, refl, sym, ap, subst, ◌∙◌, fun_ext}
use mathlib.Core.List.{List, [], ◌∷◌, ◌++◌, map}
use mathlib.Core.Option.{some}
use native.Mathlib.Omega.{arith}
use lib.ListN.{length, get_or, get_elem?, take, get_or-map}
use lib.Seq.{take-length}
use Rattle.arith.specs.Refusals.{refused, misread}
use Rattle.arith.proofs.Results.{no_some, some_is}
use Rattle.spirv.specs.Decl.{Decl, filled_after, filled}
use Rattle.shapes.specs.declared.LayoutConfig.{LayoutConfig}
use Rattle.shapes.specs.Spans.{spans_of, answer_over}
use Rattle.arith.specs.InCode.{OrRefusal, err}
use Rattle.shapes.specs.declared.TypeLayout as code
use Rattle.sheet.specs.Sheet.{member_count}
use Rattle.sheet.specs.Tables.{span_start}
use Rattle.sheet.proofs.Types.{members_append}
use Rattle.layout.specs.Arrays.{Answer}
use Rattle.layout.specs.Layouts.{layout_of, layouts}
use Rattle.structs.specs.Statements.{Holds}
use Rattle.records.specs.Records.{with_next, records}
use Rattle.laid.specs.Statements.{Tables, LaidOut}
use Rattle.laid.proofs.Bounds.{AnswerTo, raised, reads_same}
use Rattle.laid.proofs.OneType.{Read, read_type}

-- ---- lists

map_snoc : {A B : Type 0} (g : A → B) (xs : List A) (a : A) → map g (xs ++ (a ∷ [])) ≡ map g xs ++ (g a ∷ [])
map_snoc g [] a = refl
map_snoc g (x ∷ xs) a = ap (λ (l : List _). g x ∷ l) (map_snoc g xs a)

map_same : {A B : Type 0} (g h : A → B) (m : A) (xs : List A) → ((t : ℕ) → g (get_or xs t m) ≡ h (get_or xs t m)) → map g xs ≡ map h xs
map_same g h m [] e = refl
map_same g h m (x ∷ xs) e = rw (e 0, map_same g h m xs (λ t. e (suc t)))

snoc_each : {A : Type 0} (P : A → Type 0) (m a : A) (xs : List A) → ((t : ℕ) → P (get_or xs t m)) → P a → (t : ℕ) → P (get_or (xs ++ (a ∷ [])) t m)
snoc_each P m a [] e h zero = h
snoc_each P m a [] e h (suc t) = e 0
snoc_each P m a (x ∷ xs) e h zero = e 0
snoc_each P m a (x ∷ xs) e h (suc t) = snoc_each P m a xs (λ u. e (suc u)) h t

take_more : (ds : List Decl) (k : ℕ) (d : Decl) → get_elem? ds k ≡ some d → take (suc k) ds ≡ take k ds ++ (d ∷ [])
take_more [] k d h = absurd (no_some h)
take_more (c ∷ ds) zero d h = rw (some_is h)
take_more (c ∷ ds) (suc k) d h = ap (λ (l : List Decl). c ∷ l) (take_more ds k d h)

pub record Element (ds : List Decl) (k : ℕ) : Type 0 where
  pub decl : Decl
  pub at : get_elem? ds k ≡ some decl

element : (ds : List Decl) (k : ℕ) → k < length ds → Element ds k
element [] k h = absurd (omega arith)
element (d ∷ ds) zero h = record { decl = d; at = refl }
element (d ∷ ds) (suc k) h = let e = element ds k (omega arith) in record { decl = e.decl; at = e.at }

-- ---- filled lists

module _ {A : Type 0} (missing : A) (rule : (below : ℕ → A) → Decl → A) where
  after_snoc : (lower : List A) (ds : List Decl) (d : Decl)
      → filled_after missing rule lower (ds ++ (d ∷ [])) ≡ filled_after missing rule lower ds ++ (rule (λ t. get_or (filled_after missing rule lower ds) t missing) d ∷ [])
  unfolding filled_after
  after_snoc lower [] d = refl
  after_snoc lower (c ∷ ds) d = after_snoc (lower ++ (rule (λ t. get_or lower t missing) c ∷ [])) ds d

layouts_snoc : (cfg : LayoutConfig) (ds : List Decl) (d : Decl)
    → layouts cfg (ds ++ (d ∷ [])) ≡ layouts cfg ds ++ (layout_of cfg (λ t. get_or (layouts cfg ds) t (refused misread)) d ∷ [])
unfolding layouts filled
layouts_snoc cfg ds d = after_snoc (refused misread) (layout_of cfg) [] ds d

-- ---- the first k types

module _ (cfg : LayoutConfig) (ds : List Decl) (types members given offsets : List ℕ) (tables : Tables ds types members given (length offsets)) where
  pub record Upto (k : ℕ) (rs : List (OrRefusal code.TypeLayout)) (os : List ℕ) : Type 0 where
    pub same : map (answer_over os members) rs ≡ layouts cfg (take k ds)
    pub reach : (t : ℕ) → AnswerTo (span_start ds k) (get_or rs t (err misread))
    pub long : length os ≡ length offsets

  next : (k : ℕ) (d : Decl) → get_elem? ds k ≡ some d → (rs : List (OrRefusal code.TypeLayout)) (os : List ℕ) → Upto k rs os
      → (o : OrRefusal code.TypeLayout × List ℕ) → Read cfg (λ t. get_or rs t (err misread)) members os (span_start ds k) d o → Upto (suc k) (rs ++ (o.0 ∷ [])) o.1
  next k d at rs os u o r =
      let start = span_start ds k in
      let b : ℕ → OrRefusal code.TypeLayout = λ t. get_or rs t (err misread) in
      let old = map_same (answer_over o.1 members) (answer_over os members) (err misread) rs
      (λ t. reads_same (spans_of o.1 members) (spans_of os members) start (λ s c h. rw (r.kept s c h)) (b t) (u.reach t)) in
      let below : ◌≡◌ {A = ℕ → Answer} (λ t. answer_over os members (b t)) (λ t. get_or (layouts cfg (take k ds)) t (refused misread)) =
      fun_ext λ t. sym (get_or-map (answer_over os members) rs t (err misread)) ∙ ap (λ (l : List Answer). get_or l t (refused misread)) u.same in
      let count : span_start ds (suc k) ≡ start + length d.members = ap member_count (take_more ds k d at) ∙ members_append (take k ds) d in
      record {
        same =
            map_snoc (answer_over o.1 members) rs o.0
            ∙ rw (old ∙ u.same, r.says ∙ ap (λ (f : ℕ → Answer). layout_of cfg f d) below)
            (sym (ap (layouts cfg) (take_more ds k d at) ∙ layouts_snoc cfg (take k ds) d));
        reach = rw count (snoc_each (AnswerTo (start + length d.members)) (err misread) o.0 rs (λ t. raised start (start + length d.members) (omega arith) (b t) (u.reach t)) r.reaches);
        long = r.long ∙ u.long;
      }

  upto : (k : ℕ) → k ≤ length ds → Upto k (records cfg types members given offsets k).0 (records cfg types members given offsets k).1
  unfolding records with_next layouts filled filled_after
  upto zero h = record { same = refl; reach = λ t. tt; long = refl }
  upto (suc k) h =
      let e = element ds k (omega arith) in
      let u = upto k (omega arith) in
      let rs = (records cfg types members given offsets k).0 in
      let os = (records cfg types members given offsets k).1 in
      let there = subst (Holds (span_start ds k) e.decl members given) (sym u.long) (tables.span k e.decl e.at) in
      rw (tables.row k e.decl e.at)
      (next k e.decl e.at rs os u _ (read_type cfg (λ t. get_or rs t (err misread)) members given os (span_start ds k) u.reach e.decl there))

pub laid_out : LaidOut
laid_out cfg ds types members given offsets tables = (upto cfg ds types members given offsets tables (length ds) (omega arith)).same ∙ rw (take-length ds)
