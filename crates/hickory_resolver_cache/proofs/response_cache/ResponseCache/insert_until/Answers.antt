use Rattle.std.proofs.Common.{◌∙◌, ap, subst, sym}
use Rattle.std.proofs.lemmas.Result.{on_ok_weaker}
use Rattle.hickory_resolver_model.specs.Cache.{OutlivesNoAnswer, entry_of, entry_weight, insert_within}
use Rattle.hickory_resolver_cache.proofs.Held.{entry_of-weight}
use Rattle.hickory_resolver_cache.proofs.KeptEntries.{kept_entry-some}
use Rattle.hickory_resolver_cache.proofs.Laws.{entry_of-query, newest-until, within-none, within-stored}
use Rattle.hickory_resolver_cache.proofs.Timely.{timely-entry, timely-not_after}
use Rattle.hickory_resolver_cache.proofs.response_cache.ResponseCache.insert_until.Goals as goal

pub insert_entry-requires : goal.insert_entry-requires
insert_entry-requires g c =
    let old = c.args.self.now in
    let some = kept_entry-some old c.args.query c.args.outcome c.args.now c.in-Some.entry (sym c.in-Some.is ∙ c.in_ok-entry.ensures.entry) in
    let own = timely-entry old.config c.args.query c.args.outcome c.args.now c.in-Some.entry some.1 in
    record {
      some = some.0;
      timely = subst (OutlivesNoAnswer old.config) (sym c.not_after.ensures) (timely-not_after old.config c.args.limit c.in-Some.entry own);
      weight = λ some_octets. c.weigh-weight.ensures some_octets ∙ sym (entry_of-weight old.config c.args.query c.args.outcome c.args.now c.in-Some.entry some.1) ∙ sym (ap entry_weight c.not_after.ensures);
    }

pub returns-in-Some-clause-within : goal.returns-in-Some-clause-within
returns-in-Some-clause-within g c =
    let old = c.args.self.now in
    let some = kept_entry-some old c.args.query c.args.outcome c.args.now c.in-Some.entry (sym c.in-Some.is ∙ c.in_ok-entry.ensures.entry) in
    let own = entry_of-query old.config c.args.query c.args.outcome c.args.now c.in-Some.entry some.1 in
    on_ok_weaker c.insert_entry.result
    (λ stored _. within-stored old.octets old.capacity c.args.limit c.args.query old.entries c.insert_entry.new.self.entries c.in-Some.entry some.0 own (ap (λ v. v.entries) stored ∙ ap (λ e. insert_within old.octets old.capacity old.entries e) c.not_after.ensures))
    c.insert_entry.ensures.ok

pub returns-in-None-clause-within : goal.returns-in-None-clause-within
returns-in-None-clause-within g c =
    within-none c.args.self.now c.args.query c.args.outcome c.args.now c.args.limit c.in_ok-entry.ensures.cache.short (sym c.in-None.is ∙ c.in_ok-entry.ensures.entry)

pub returns-in-Some-clause-newest : goal.returns-in-Some-clause-newest
returns-in-Some-clause-newest g c =
    let old = c.args.self.now in
    let some = kept_entry-some old c.args.query c.args.outcome c.args.now c.in-Some.entry (sym c.in-Some.is ∙ c.in_ok-entry.ensures.entry) in
    on_ok_weaker c.insert_entry.result
    (λ stored pos. newest-until old.octets old.capacity c.args.limit old.entries c.insert_entry.new.self.entries c.in-Some.entry (entry_of old.config c.args.query c.args.outcome c.args.now) some.1 pos (ap (λ v. v.entries) stored ∙ ap (λ e. insert_within old.octets old.capacity old.entries e) c.not_after.ensures))
    c.insert_entry.ensures.ok
