use Rattle.std.proofs.Common.{◌∙◌, ap, subst, sym}
use Rattle.std.proofs.lemmas.Result.{on_ok_weaker}
use Rattle.hickory_resolver_model.specs.Cache.{OutlivesNoAnswer, entry_weight, insert_within}
use Rattle.hickory_resolver_cache.proofs.Held.{entry_of-weight}
use Rattle.hickory_resolver_cache.proofs.KeptEntries.{kept_entry-some}
use Rattle.hickory_resolver_cache.proofs.Laws.{entry_of-query, never_later-same, never_later-stored}
use Rattle.hickory_resolver_cache.proofs.Timely.{timely-entry, timely-limited}
use Rattle.hickory_resolver_cache.proofs.response_cache.ResponseCache.upsert_clamped_ttl.Goals as goal

pub returns-in_default-clause-no_later : goal.returns-in_default-clause-no_later
returns-in_default-clause-no_later g c _ = never_later-same c.args.query c.args.now c.args.self.now.entries c.in_ok-entry.ensures.cache.apart

pub insert_entry-requires : goal.insert_entry-requires
insert_entry-requires g c =
    let old = c.args.self.now in
    let some = kept_entry-some old c.args.query c.args.outcome c.args.now c.in-Some.entry (sym c.in-Some.is ∙ c.in_ok-entry.ensures.entry) in
    let own = timely-entry old.config c.args.query c.args.outcome c.args.now c.in-Some.entry some.1 in
    record {
      some = some.0;
      timely = subst (OutlivesNoAnswer old.config) (sym c.not_after_current-entry.ensures) (timely-limited old.config old.entries c.args.now c.in-Some.entry own);
      weight = λ some_octets. c.weigh-weight.ensures some_octets ∙ sym (entry_of-weight old.config c.args.query c.args.outcome c.args.now c.in-Some.entry some.1) ∙ sym (ap entry_weight c.not_after_current-entry.ensures);
    }

pub insert_entry-requires-2 : goal.insert_entry-requires-2
insert_entry-requires-2 g c =
    let old = c.args.self.now in
    let some = kept_entry-some old c.args.query c.args.outcome c.args.now c.in-Some.entry (sym c.in-Some.is ∙ c.in_ok-entry.ensures.entry) in
    record {
      some = some.0;
      timely = timely-entry old.config c.args.query c.args.outcome c.args.now c.in-Some.entry some.1;
      weight = λ some_octets. c.weigh-weight.ensures some_octets ∙ sym (entry_of-weight old.config c.args.query c.args.outcome c.args.now c.in-Some.entry some.1);
    }

pub returns-then-clamp_valid_until-clause-no_later :
    goal.returns-then-clamp_valid_until-clause-no_later
returns-then-clamp_valid_until-clause-no_later g c =
    let old = c.args.self.now in
    let some = kept_entry-some old c.args.query c.args.outcome c.args.now c.in-Some.entry (sym c.in-Some.is ∙ c.in_ok-entry.ensures.entry) in
    let own = entry_of-query old.config c.args.query c.args.outcome c.args.now c.in-Some.entry some.1 in
    on_ok_weaker c.insert_entry.result
    (λ stored _. never_later-stored old.octets old.capacity c.args.now c.args.query old.entries c.insert_entry.new.self.entries c.in-Some.entry c.in_ok-entry.ensures.cache.apart own (ap (λ v. v.entries) stored ∙ ap (λ e. insert_within old.octets old.capacity old.entries e) c.not_after_current-entry.ensures))
    c.insert_entry.ensures.ok
