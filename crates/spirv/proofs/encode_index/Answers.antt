-- `spirv::encode_index` meets its contract.
use Rattle.spirv.specs.Rows.{encode_index}
use Rattle.spirv.proofs.encode_index.Goals as goal

pub returns-in-Known : goal.returns-in-Known
unfolding encode_index
returns-in-Known c = rw c.in-Known.is

pub returns-in-Unknown : goal.returns-in-Unknown
unfolding encode_index
returns-in-Unknown c = rw c.in-Unknown.is
