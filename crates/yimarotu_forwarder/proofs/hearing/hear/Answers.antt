-- A fetch that is written back as it was leaves the fetches as they were.
use Rattle.std.proofs.Common.{sym}
use Rattle.yimarotu_forwarder.specs.FetchTables.{fetches_of}
use Rattle.yimarotu_forwarder.proofs.Refused.{put_back}
use Rattle.yimarotu_forwarder.proofs.hearing.hear.Goals as goal

-- src/hearing.rt
pub returns-in-Err-clause-err : goal.returns-in-Err-clause-err
returns-in-Err-clause-err c =
    put_back c.args.key.now (fetches_of c.args.fetches.now) _ c.in-Some.fetch.now c.hear_fetch.new.fetch
    ((c.get_mut.follows.holds c.hear_fetch.new.fetch).0) c.in-Err.ensures.err (sym c.in-Some.ensures.value)
