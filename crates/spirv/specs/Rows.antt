-- The words that hold a declared type and an index: a row of six, the first of which is the letter of the type's line, and two for an index.
use Rattle.std.specs.Prelude.{ℕ, ◌*◌, ◌≡◌, Bool, true, false, cond, ◌&&◌, List, [], ◌∷◌, Option, Some, None, eqb, get_or, take, drop}
use Prim.Native.Char.{code}
use Rattle.spirv.specs.declared.Length.{Length}
use Rattle.spirv.specs.declared.Length.TheVariants.{Fixed, Specialization}
use Rattle.spirv.specs.declared.Stride.{Stride}
use Rattle.spirv.specs.declared.Stride.TheVariants.{Decorated, Undecorated}
use Rattle.spirv.specs.declared.SpvType.{SpvType}
use Rattle.spirv.specs.declared.SpvType.TheVariants as spv
use Rattle.spirv.specs.declared.DeclRow.{DeclRow}
use Rattle.spirv.specs.declared.Index.{Index}
use Rattle.spirv.specs.declared.Index.TheVariants.{Known, Unknown}
use Rattle.spirv.specs.Decl.{is_struct}

-- two lists of words are the same
unfoldable pub same_words : List ℕ → List ℕ → Bool
same_words [] [] = true
same_words [] (b ∷ bs) = false
same_words (a ∷ rest) [] = false
same_words (a ∷ rest) (b ∷ bs) = eqb a b && same_words rest bs

-- ---- a type's words

abbrev pub length_kind : Length → ℕ
length_kind (Fixed n) = 0
length_kind Specialization = 1

abbrev pub length_value : Length → ℕ
length_value (Fixed n) = n
length_value Specialization = 0

abbrev pub stride_kind : Stride → ℕ
stride_kind (Decorated n) = 0
stride_kind Undecorated = 1

abbrev pub stride_value : Stride → ℕ
stride_value (Decorated n) = n
stride_value Undecorated = 0

abbrev pub flag_word : Bool → ℕ
flag_word false = 0
flag_word true = 1

abbrev pub six : (tag a b c d e : ℕ) → List ℕ
six tag a b c d e = tag ∷ a ∷ b ∷ c ∷ d ∷ e ∷ []

-- the words of a type; a struct's are followed by what its lines come to
abbrev pub type_words : SpvType → (start count refusal read : ℕ) → List ℕ
type_words spv.Bool start count refusal read = six (code "B") 0 0 0 0 0
type_words (spv.Int width) start count refusal read = six (code "I") width 0 0 0 0
type_words (spv.Float width) start count refusal read = six (code "F") width 0 0 0 0
type_words (spv.Vector elem len) start count refusal read = six (code "V") elem len 0 0 0
type_words (spv.Matrix column len) start count refusal read = six (code "M") column len 0 0 0
type_words (spv.Array elem len stride) start count refusal read =
    six (code "A") elem (length_kind len) (length_value len) (stride_kind stride) (stride_value stride)
type_words (spv.RuntimeArray elem stride) start count refusal read = six (code "R") elem (stride_kind stride) (stride_value stride) 0 0
type_words (spv.Struct block) start count refusal read = six (code "S") (flag_word block) start count refusal read
type_words (spv.Pointer class pointee) start count refusal read = six (code "P") class pointee 0 0 0
type_words spv.Opaque start count refusal read = six (code "O") 0 0 0 0 0
type_words spv.Unsupported start count refusal read = six (code "U") 0 0 0 0 0

unfoldable pub encode_row : DeclRow → List ℕ
encode_row r = type_words r.ty r.start r.count r.refusal r.read

-- ---- and back

abbrev pub length_of : (kind value : ℕ) → Length
length_of kind value = cond (eqb kind 0) (Fixed value) Specialization

abbrev pub stride_of : (kind value : ℕ) → Stride
stride_of kind value = cond (eqb kind 0) (Decorated value) Undecorated

-- a type whose words these are, if there is one
unfoldable pub type_of : (tag a b c d e : ℕ) → SpvType
type_of tag a b c d e =
    cond (eqb tag (code "B")) spv.Bool
    (cond (eqb tag (code "I")) (spv.Int a)
    (cond (eqb tag (code "F")) (spv.Float a)
    (cond (eqb tag (code "V")) (spv.Vector a b)
    (cond (eqb tag (code "M")) (spv.Matrix a b)
    (cond (eqb tag (code "A")) (spv.Array a (length_of b c) (stride_of d e))
    (cond (eqb tag (code "R")) (spv.RuntimeArray a (stride_of b c))
    (cond (eqb tag (code "S")) (spv.Struct (eqb a 1))
    (cond (eqb tag (code "P")) (spv.Pointer a b)
    (cond (eqb tag (code "O")) spv.Opaque spv.Unsupported)))))))))

abbrev pub struct_row : SpvType → (start count refusal read : ℕ) → DeclRow
struct_row t start count refusal read = record { ty = t; start = start; count = count; refusal = refusal; read = read }

abbrev pub plain_row : SpvType → DeclRow
plain_row t = struct_row t 0 0 0 0

unfoldable pub row_of : (tag a b c d e : ℕ) → DeclRow
row_of tag a b c d e = cond (eqb tag (code "S")) (struct_row (type_of tag a b c d e) b c d e) (plain_row (type_of tag a b c d e))

abbrev pub type_of_words : List ℕ → SpvType
type_of_words ws = type_of (get_or ws 0 0) (get_or ws 1 0) (get_or ws 2 0) (get_or ws 3 0) (get_or ws 4 0) (get_or ws 5 0)

unfoldable pub row_of_words : List ℕ → DeclRow
row_of_words ws = row_of (get_or ws 0 0) (get_or ws 1 0) (get_or ws 2 0) (get_or ws 3 0) (get_or ws 4 0) (get_or ws 5 0)

-- the row that words hold is the one whose words they are
unfoldable pub decode_row : List ℕ → Option DeclRow
decode_row ws = cond (same_words (encode_row (row_of_words ws)) ws) (Some (row_of_words ws)) None

unfoldable pub row_at : List ℕ → ℕ → Option DeclRow
row_at table i = decode_row (take 6 (drop (6 * i) table))

-- a row of a declaration: what is said of structs is 0 for other types
pub record OfDeclaration (r : DeclRow) : Type 0 where
  pub plain : is_struct r.ty ≡ false → r ≡ plain_row r.ty

-- each such row is read back from its words, and no other words are read as a row
pub record RowsReadBack : Type 0 where
  pub back : (r : DeclRow) → OfDeclaration r → decode_row (encode_row r) ≡ Some r
  pub only : (ws : List ℕ) (r : DeclRow) → decode_row ws ≡ Some r → ws ≡ encode_row r

-- ---- an index

unfoldable pub encode_index : Index → List ℕ
encode_index (Known w) = w ∷ 0 ∷ []
encode_index (Unknown v) = v ∷ 1 ∷ []

-- by its kind, where any kind but 0 is an unknown's
abbrev pub index_by : (w kind : ℕ) → Index
index_by w kind = cond (eqb kind 0) (Known w) (Unknown w)

abbrev pub index_of : (w kind : ℕ) → Option Index
index_of w kind = cond (eqb kind 0) (Some (Known w)) (cond (eqb kind 1) (Some (Unknown w)) None)

unfoldable pub decode_index : List ℕ → Option Index
decode_index [] = None
decode_index (w ∷ []) = None
decode_index (w ∷ kind ∷ []) = index_of w kind
decode_index (w ∷ kind ∷ x ∷ xs) = None

unfoldable pub index_at : List ℕ → ℕ → Option Index
index_at list i = decode_index (take 2 (drop (2 * i) list))

pub record IndicesReadBack : Type 0 where
  pub back : (i : Index) → decode_index (encode_index i) ≡ Some i
  pub only : (ws : List ℕ) (i : Index) → decode_index ws ≡ Some i → ws ≡ encode_index i
