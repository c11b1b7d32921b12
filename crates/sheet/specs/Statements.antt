-- Document 01, "The sheet": what holds of every sheet that is read (its numbers, its references, its limits), and which refusals reading has.
use Rattle.std.specs.Prelude.{ℕ, ◌≤◌, ◌<◌, ◌≡◌, true, false, List, [], ◌∷◌, length}
use Rattle.std.proofs.Math.Option.{some}
use Rattle.std.proofs.Math.ListN.{get_elem?}
use Rattle.arith.specs.Numbers.{max_u32}
use Rattle.arith.specs.Refusals.{ok, refused, misread, bad_setting}
use Rattle.spirv.specs.declared.Length.{Length}
use Rattle.spirv.specs.declared.Length.TheVariants.{Fixed, Specialization}
use Rattle.spirv.specs.declared.Stride.{Stride}
use Rattle.spirv.specs.declared.Stride.TheVariants.{Decorated, Undecorated}
use Rattle.spirv.specs.declared.SpvType.{SpvType}
use Rattle.spirv.specs.declared.SpvType.TheVariants as spv
use Rattle.spirv.specs.declared.Decoration.{Decoration}
use Rattle.spirv.specs.declared.Decoration.TheVariants.{RowMajor, Offset}
use Rattle.spirv.specs.declared.MemberDecoration.{MemberDecoration}
use Rattle.spirv.specs.declared.Index.{Index}
use Rattle.spirv.specs.declared.Index.TheVariants.{Known, Unknown}
use Rattle.spirv.specs.Decl.{Decl, is_struct, before}
use Rattle.spirv.specs.Questions.{Question}
use Rattle.shapes.specs.declared.LayoutConfig.{LayoutConfig}
use Rattle.sheet.specs.Sheet.{Sheet, max_types, max_members, max_indices, member_count, good_setting, read_sheet}

-- a number of 32 bits
abbrev pub Fits : ℕ → Type 0
Fits n = n ≤ max_u32

abbrev pub All : {A : Type 0} → (A → Type 0) → List A → Type 0
All P [] = Unit {0}
All P (a ∷ rest) = P a × All P rest

-- ---- what a line declares

abbrev pub FitsLength : Length → Type 0
FitsLength (Fixed n) = Fits n
FitsLength Specialization = Unit {0}

abbrev pub FitsStride : Stride → Type 0
FitsStride (Decorated n) = Fits n
FitsStride Undecorated = Unit {0}

-- below `above` types: numbers fit, and it refers to lower types
abbrev pub FitsType : (above : ℕ) → SpvType → Type 0
FitsType above spv.Bool = Unit {0}
FitsType above (spv.Int width) = Fits width
FitsType above (spv.Float width) = Fits width
FitsType above (spv.Vector elem len) = (elem < above) × Fits len
FitsType above (spv.Matrix column len) = (column < above) × Fits len
FitsType above (spv.Array elem len stride) = (elem < above) × FitsLength len × FitsStride stride
FitsType above (spv.RuntimeArray elem stride) = (elem < above) × FitsStride stride
FitsType above (spv.Struct block) = Unit {0}
FitsType above (spv.Pointer class pointee) = Fits class × (pointee < above)
FitsType above spv.Opaque = Unit {0}
FitsType above spv.Unsupported = Unit {0}

abbrev pub FitsValue : Decoration → Type 0
FitsValue RowMajor = Unit {0}
FitsValue (Offset value) = Fits value

abbrev pub FitsDecoration : MemberDecoration → Type 0
FitsDecoration d = Fits d.member × FitsValue d.decoration

-- strictly rising in the order of an AttrSet
abbrev pub Rising : List MemberDecoration → Type 0
Rising [] = Unit {0}
Rising (d ∷ []) = Unit {0}
Rising (d ∷ e ∷ es) = (before d e ≡ true) × Rising (e ∷ es)

pub record FitsDecl (above : ℕ) (d : Decl) : Type 0 where
  pub type : FitsType above d.type
  pub members : All (λ m. m < above) d.members
  pub decorations : All FitsDecoration d.decorations
  pub rising : Rising d.decorations
  pub no_members_lem : is_struct d.type ≡ false → d.members ≡ []
  pub no_decorations : is_struct d.type ≡ false → d.decorations ≡ []

-- ---- what a line asks

abbrev pub FitsIndex : Index → Type 0
FitsIndex (Known w) = Fits w
FitsIndex (Unknown v) = Fits v

abbrev pub FitsQuestion : (above : ℕ) → Question → Type 0
FitsQuestion above (Question.T t) = t < above
FitsQuestion above (Question.E a b) = (a < above) × (b < above)
FitsQuestion above (Question.Q t start end) = (t < above) × Fits start × Fits end
FitsQuestion above (Question.C op ptr indices) = (ptr < above) × All FitsIndex indices × (length indices ≤ max_indices)
FitsQuestion above (Question.L ptr member) = (ptr < above) × Fits member
FitsQuestion above (Question.X ptr) = ptr < above

-- ---- the sheet

pub record FitsSetting (g : LayoutConfig) : Type 0 where
  pub least : Fits g.min_aggregate_legacy_align
  pub bool_size : Fits g.abstract_bool_size
  pub bool_align : Fits g.abstract_bool_align
  pub ptr_size : Fits g.logical_ptr_size
  pub ptr_align : Fits g.logical_ptr_align
  pub powers : good_setting g ≡ true

pub record GoodSheet (s : Sheet) : Type 0 where
  pub setting : FitsSetting s.setting
  pub types : (t : ℕ) (d : Decl) → get_elem? s.types t ≡ some d → FitsDecl t d
  pub few_types : length s.types ≤ max_types
  pub few_members : member_count s.types ≤ max_members
  pub questions : All (FitsQuestion (length s.types)) s.questions

abbrev pub ReadsGood : Type 0
ReadsGood = (input : List ℕ) (s : Sheet) → read_sheet input ≡ ok s → GoodSheet s

-- reading refuses by 1, 2 and 3 alone
abbrev pub ReadRefusals : Type 0
ReadRefusals = (input : List ℕ) (n : ℕ) → read_sheet input ≡ refused n → (misread ≤ n) × (n ≤ bad_setting)
