-- What taking the next field of a line gives: what it says and where it ends, if there is one of its kind.
use Rattle.std.specs.Prelude.{ℕ, ◌+◌, ◌≤◌, ◌<◌, ◌≡◌, List, ◌∷◌, length, Option, Some, None}
use Prim.Native.Char.{code}
use Rattle.std.specs.Borrow.{Bor}
use Rattle.std.proofs.Math.Option as math
use Rattle.spirv.specs.declared.Decoration.{Decoration}
use Rattle.sheet.specs.Fields.{read_decoration}
use Rattle.fields.specs.Pieces.{part, Piece, behind}
use Rattle.fields.specs.declared.Field.{Field}

-- ---- the next field, behind the one that ends at index e

-- as it stands: from behind e up to where it ends, if the line does not end at e
pub record Standing (line : List ℕ) (e : ℕ) (field : List ℕ) (d : ℕ) : Type 0 where
  pub inside : e < length line
  pub piece : Piece (code ",") line (e + 1) d
  pub says : field ≡ part (e + 1) d line

abbrev pub Stands : List ℕ → ℕ → Option (Field (Bor (List ℕ))) → Type 0
Stands line e None = length line ≤ e
Stands line e (Some f) = Standing line e f.value.now f.end

-- it says b, and ends at index d
pub record Got {B : Type 0} (read : List ℕ → math.Option B) (line : List ℕ) (e : ℕ) (b : B) (d : ℕ) : Type 0 where
  pub field : List ℕ
  pub here : behind line e ≡ field ∷ behind line d
  pub says : read field ≡ math.some b
  pub inside : e < length line
  pub later : e < d
  pub within : d ≤ length line

-- there is none, or it is of another kind
pub record Lost {B : Type 0} (read : List ℕ → math.Option B) (line : List ℕ) (e : ℕ) : Type 0 where
  pub not : (f : List ℕ) (fs : List (List ℕ)) → behind line e ≡ f ∷ fs → read f ≡ math.none

abbrev pub Took : {B : Type 0} → (List ℕ → math.Option B) → List ℕ → ℕ → Option (Field B) → Type 0
Took read line e None = Lost read line e
Took read line e (Some f) = Got read line e f.value f.end

-- ---- the next two fields, a decoration's number and value

pub record GotBoth (line : List ℕ) (e : ℕ) (b : Decoration) (d : ℕ) : Type 0 where
  pub first : List ℕ
  pub second : List ℕ
  pub here : behind line e ≡ first ∷ second ∷ behind line d
  pub says : read_decoration first second ≡ math.some b

pub record LostBoth (line : List ℕ) (e : ℕ) : Type 0 where
  pub not : (f g : List ℕ) (fs : List (List ℕ)) → behind line e ≡ f ∷ g ∷ fs → read_decoration f g ≡ math.none

abbrev pub TookBoth : List ℕ → ℕ → Option (Field Decoration) → Type 0
TookBoth line e None = LostBoth line e
TookBoth line e (Some f) = GotBoth line e f.value f.end
