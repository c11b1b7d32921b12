-- `tabled::lower_into` meets its contract: by how long the chain is. Assumes nothing.
use Rattle.tabled.proofs.Laws.{in_short_lists, in_long_lists}
use Rattle.tabled.proofs.lower_into.Goals as goal

pub returns-then-chain-le-SHORT_CHAIN : goal.returns-then-chain-le-SHORT_CHAIN
returns-then-chain-le-SHORT_CHAIN g c = record { walk = _; is = λ room. in_short_lists _ _ _ c.args.chain.now room c.if-chain-le-SHORT_CHAIN.true; says = c.lower.ensures }

pub returns : goal.returns
returns g c = record { walk = _; is = λ room. in_long_lists _ _ _ c.args.chain.now room c.if-chain-le-SHORT_CHAIN.false; says = c.lower-2.ensures }
