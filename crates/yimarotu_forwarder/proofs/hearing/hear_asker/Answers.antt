-- Its key, and what that tells it.
use Rattle.std.proofs.Common.{◌∙◌, sym}
use Rattle.yimarotu_forwarder.specs.FetchTables.{fetches_of}
use Rattle.yimarotu_forwarder.proofs.Turns.{asker_heard}
use Rattle.yimarotu_forwarder.proofs.hearing.hear_asker.Goals as goal

-- src/hearing.rt
pub returns-in_ok-told-in-Some-clause-ok : goal.returns-in_ok-told-in-Some-clause-ok
returns-in_ok-told-in-Some-clause-ok c =
    rw (c.with_key.ensures, c.remove_asker.ensures.same)
    (asker_heard c.args.telling.now.over c.args.asker c.args.second c.in-Some.key c.in_ok-told-in-Some.told
    (fetches_of c.args.fetches.now) (fetches_of c.hear_turn.new.fetches) c.in_ok-told-in-Some.ensures.ok
    (sym c.asked_for.ensures ∙ c.in-Some.is))
