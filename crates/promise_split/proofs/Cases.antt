-- A whole refused by 23 whose parts aren't, and a second part refused by 23 whose whole isn't. Computed; assumes nothing.
use mathlib.Core.Path.{refl}
use mathlib.Core.List.{[], ◌∷◌}
use lib.IntN.{pos, negsuc}
use Rattle.spirv.specs.declared.ChainOp.TheVariants.{AccessChain}
use Rattle.spirv.specs.declared.Index.TheVariants.{Known}
use Rattle.lower.specs.declared.QPtrOp.TheVariants.{Offset}
use Rattle.promise_split.specs.Cases.{Case, WholeRefused, SecondRefused}
use Rattle.promise_split.proofs.Opened.{opened}

-- {F32 at 0, F32 at 8}, which is member 1, at 2147483644, of another struct: 2147483644 + 8 is past signed 32 bits
abbrev far_member : Case
unfolding opened
far_member = record {
  text = "G,1,1,1,1,1,1\nF,32\nS,0,2,0,0\nD,0,35,0\nD,1,35,8\nS,0,2,0,1\nD,0,35,0\nD,1,35,2147483644\nP,12,2\n";
  sheet = _;
  read = refl;
  op = AccessChain;
  ptr = 3;
  index = Known 1;
  first_indices = [];
  second_indices = Known 1 ∷ [];
  first = Offset (pos 2147483644) ∷ [];
  first_accepted = refl;
  type = 1;
  type_reached = λ v. (record { pointee = 2; points = refl; reached = _; walked = refl }, refl);
}

pub whole_refused : WholeRefused
unfolding opened far_member
whole_refused = record { case = far_member; second = Offset (pos 8) ∷ []; second_accepted = refl; whole_refused = refl }

-- that struct in an array of stride 64: element −1 is 64 bytes before it, and −64 + 2147483644 + 8 fits
abbrev before_array : Case
unfolding opened
before_array = record {
  text = "G,1,1,1,1,1,1\nF,32\nS,0,2,0,0\nD,0,35,0\nD,1,35,8\nS,0,2,0,1\nD,0,35,0\nD,1,35,2147483644\nR,2,64\nP,12,3\n";
  sheet = _;
  read = refl;
  op = AccessChain;
  ptr = 4;
  index = Known 4294967295;
  first_indices = [];
  second_indices = Known 1 ∷ Known 1 ∷ [];
  first = Offset (negsuc 63) ∷ [];
  first_accepted = refl;
  type = 2;
  type_reached = λ v. (record { pointee = 3; points = refl; reached = _; walked = refl }, refl);
}

pub second_refused : SecondRefused
unfolding opened before_array
second_refused = record { case = before_array; whole = Offset (pos 2147483588) ∷ []; whole_accepted = refl; second_refused = refl }
