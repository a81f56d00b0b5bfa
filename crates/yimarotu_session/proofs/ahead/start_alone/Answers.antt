-- A look-up that is started changes nothing.
use Rattle.yimarotu_session.proofs.Alone.{alone, alone-keeps}
use Rattle.yimarotu_session.proofs.ahead.start_alone.Goals as goal

-- src/ahead.rt
pub returns-clause-starts : goal.returns-clause-starts
returns-clause-starts c =
    alone c.args.second.now c.in_ok-name.name c.in_ok-name.ensures.cases c.args.resolver.now _ c.start_lookup.new.self c.start_lookup.ensures.starts

pub returns-clause-same : goal.returns-clause-same
returns-clause-same c =
    alone-keeps c.args.second.now c.in_ok-name.name c.in_ok-name.ensures.cases c.args.resolver.now _ c.start_lookup.new.self c.start_lookup.ensures.starts
