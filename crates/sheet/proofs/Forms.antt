-- What a line that keeps its form says: numbers fit 32 bits, and types are types above. Assumes nothing.
use Prim.Native.Nat.{ℕ, ◌<◌, ◌≤◌}
use Prim.Native.Char.{code}
use Prim.Native.String.{String}
use mathlib.Core.Path.{◌≡◌, refl}
use mathlib.Core.Bool.{Bool, true, false, cond, true≢false}
use mathlib.Core.List.{List, [], ◌∷◌}
use mathlib.Core.Option.{Option}
use lib.Dec.{eqb}
use lib.ListN.{length}
use Rattle.decimal.specs.Text.{bytes, same, split}
use Rattle.decimal.specs.Decimal.{read_number}
use Rattle.spirv.specs.declared.Length.{Length}
use Rattle.spirv.specs.declared.Stride.{Stride}
use Rattle.spirv.specs.declared.Decoration.{Decoration}
use Rattle.spirv.specs.declared.Index.{Index}
use Rattle.spirv.specs.declared.ChainOp.{ChainOp}
use Rattle.spirv.specs.declared.SpvType.{SpvType}
use Rattle.spirv.specs.Decl.{plain}
use Rattle.sheet.specs.Fields.{Form, field, number, flag, type, number_or_s, number_or_dash, op, decoration_value, types, indices, end, read_flag, read_type, read_length, read_stride, read_op, read_index, read_decoration, read_all}
use Rattle.sheet.specs.Grammar.{Line, Setting, Declared, Decorated, Asked, declare_struct, grammar, form_of, by_first, read_line}
use Rattle.sheet.specs.Sheet.{max_indices, index_count, good_setting}
use Rattle.sheet.specs.Statements.{Fits, All, FitsLength, FitsStride, FitsValue, FitsIndex, FitsType, FitsDecoration, FitsDecl, FitsQuestion, FitsSetting}
use Rattle.sheet.proofs.Fields.{Gives, gives, gives_none, gives_any, gives_then, gives_where, number_fits, type_above, length_fits, stride_fits, index_fits, value_fits, all_fit}

-- what a line says below `above` types, but for the counts and the powers of two
abbrev pub FitsLine : (above : ℕ) → Line → Type 0
FitsLine above (Setting g) = good_setting g ≡ true → FitsSetting g
FitsLine above (Declared d) = FitsDecl above d
FitsLine above (Decorated d) = FitsDecoration d
FitsLine above (Asked q) = index_count q ≤ max_indices → FitsQuestion above q

-- ---- the forms, field by field

module _ (above : ℕ) where
  -- every line of the form fits
  pub record Fine (form : Form Line) : Type 0 where
    pub line : (fs : List (List ℕ)) → Gives (FitsLine above) (form fs)

  on_field : {B : Type 0} {R : B → Type 0} (read : List ℕ → Option B) (next : B → Form Line) → ((f : List ℕ) → Gives R (read f)) → ((b : B) → R b → Fine (next b)) → Fine (field read next)
  on_field read next r n = record { line = by }
    where
      by : (fs : List (List ℕ)) → Gives (FitsLine above) (field read next fs)
      by [] = gives_none
      by (f ∷ fs) = gives_then (read f) _ (r f) (λ b p. (n b p).line fs)

  on_number : {next : ℕ → Form Line} → ((n : ℕ) → Fits n → Fine (next n)) → Fine (number next)
  on_number {next} n = on_field read_number next number_fits n

  on_flag : {next : Bool → Form Line} → ((b : Bool) → Fine (next b)) → Fine (flag next)
  on_flag {next} n = on_field read_flag next (λ f. gives_any (read_flag f)) (λ b p. n b)

  on_type : {next : ℕ → Form Line} → ((n : ℕ) → n < above → Fine (next n)) → Fine (type above next)
  on_type {next} n = on_field (read_type above) next (type_above above) n

  on_length : {next : Length → Form Line} → ((l : Length) → FitsLength l → Fine (next l)) → Fine (number_or_s next)
  on_length {next} n = on_field read_length next length_fits n

  on_stride : {next : Stride → Form Line} → ((s : Stride) → FitsStride s → Fine (next s)) → Fine (number_or_dash next)
  on_stride {next} n = on_field read_stride next stride_fits n

  on_op : {next : ChainOp → Form Line} → ((o : ChainOp) → Fine (next o)) → Fine (op next)
  on_op {next} n = on_field read_op next (λ f. gives_any (read_op f)) (λ b p. n b)

  on_value : {next : Decoration → Form Line} → ((d : Decoration) → FitsValue d → Fine (next d)) → Fine (decoration_value next)
  on_value {next} n = record { line = by }
    where
      by : (fs : List (List ℕ)) → Gives (FitsLine above) (decoration_value next fs)
      by [] = gives_none
      by (f ∷ []) = gives_none
      by (f ∷ g ∷ fs) = gives_then (read_decoration f g) _ (value_fits f g) (λ d p. (n d p).line fs)

  on_types : {next : List ℕ → Option Line} → ((ts : List ℕ) → All (λ t. t < above) ts → Gives (FitsLine above) (next ts)) → Fine (types above next)
  on_types {next} n = record { line = λ fs. gives_then (read_all (read_type above) fs) next (all_fit (read_type above) (type_above above) fs) n }

  on_indices : {next : List Index → Option Line} → ((is : List Index) → All FitsIndex is → Gives (FitsLine above) (next is)) → Fine (indices next)
  on_indices {next} n = record { line = λ fs. gives_then (read_all read_index fs) next (all_fit read_index index_fits fs) n }

  at_end : {l : Line} → FitsLine above l → Fine (end l)
  at_end {l} p = record { line = by }
    where
      by : (fs : List (List ℕ)) → Gives (FitsLine above) (end l fs)
      by [] = gives p
      by (f ∷ fs) = gives_none

  -- ---- what the lines say

  plain_fits : {t : SpvType} → FitsType above t → FitsDecl above (plain t)
  plain_fits p = record {
    type = p;
    members = tt;
    decorations = tt;
    rising = tt;
    no_members_lem = λ h. refl;
    no_decorations = λ h. refl;
  }

  struct_fits : (block : Bool) (n : ℕ) (members : List ℕ) → All (λ m. m < above) members → Gives (FitsLine above) (declare_struct block n members)
  struct_fits block n members p = gives_where (eqb n (length members)) _ (λ e. record {
    type = tt;
    members = p;
    decorations = tt;
    rising = tt;
    no_members_lem = λ h. absurd (true≢false h);
    no_decorations = λ h. refl;
  })

  -- each row of a grammar is a form whose lines fit
  abbrev FineRows : List (String × Form Line) → Type 0
  FineRows = All (λ row. Fine row.1)

  infixr 10 ◌and◌
  ◌and◌ : {A B : Type 0} → A → B → A × B
  ◌and◌ a b = (a, b)

  rows_fit : FineRows (grammar above)
  unfolding grammar
  rows_fit =
      (on_flag λ ignore. on_number λ min a. on_number λ bsize b. on_number λ balign c. on_number λ psize d. on_number λ palign e.
      at_end (λ good. record { least = a; bool_size = b; bool_align = c; ptr_size = d; ptr_align = e; powers = good }))
      and at_end (plain_fits tt)
      and (on_number λ width p. at_end (plain_fits p))
      and (on_number λ width p. at_end (plain_fits p))
      and (on_type λ elem p. on_number λ len q. at_end (plain_fits (p, q)))
      and (on_type λ column p. on_number λ len q. at_end (plain_fits (p, q)))
      and (on_type λ elem p. on_length λ len q. on_stride λ stride r. at_end (plain_fits (p, q, r)))
      and (on_type λ elem p. on_stride λ stride r. at_end (plain_fits (p, r)))
      and (on_flag λ block. on_number λ n p. on_types λ members q. struct_fits block n members q)
      and (on_number λ class p. on_type λ pointee q. at_end (plain_fits (p, q)))
      and at_end (plain_fits tt)
      and at_end (plain_fits tt)
      and (on_number λ member p. on_value λ d q. at_end (p, q))
      and (on_type λ t p. at_end (λ few. p))
      and (on_type λ first p. on_type λ second q. at_end (λ few. (p, q)))
      and (on_type λ t p. on_number λ start q. on_number λ e r. at_end (λ few. (p, q, r)))
      and (on_op λ o. on_type λ ptr p. on_indices λ is q. gives (λ few. (p, q, few)))
      and (on_type λ ptr p. on_number λ member q. at_end (λ few. (p, q)))
      and (on_type λ ptr p. at_end (λ few. p))
      and tt

  form_fits : (rows : List (String × Form Line)) → FineRows rows → (first : List ℕ) (fs : List (List ℕ)) → Gives (FitsLine above) (form_of rows first fs)
  form_fits [] p first fs = gives_none
  form_fits (row ∷ rows) p first fs = by (same first (bytes row.0)) (form_fits rows p.1 first fs)
    where
      by : (t : Bool) → Gives (FitsLine above) (form_of rows first fs) → Gives (FitsLine above) (cond t row.1 (form_of rows first) fs)
      by true ih = p.0.line fs
      by false ih = ih

  pub line_fits : (line : List ℕ) → Gives (FitsLine above) (read_line above line)
  unfolding read_line
  line_fits line = by (split (code ",") line)
    where
      by : (pieces : List (List ℕ)) → Gives (FitsLine above) (by_first above pieces)
      by [] = gives_none
      by (first ∷ fields) = form_fits (grammar above) rows_fit first fields
