use Rattle.std.proofs.Common.{◌≡◌, ◌∙◌, ◌∷◌, [], ◌++◌, ap, sym, subst, None}
use Rattle.std.specs.HashMap.{get}
use Rattle.hickory_resolver_model.specs.Cache.{Entry}
use Rattle.indexmap.proofs.CallerLemmas.{insert_entry-new}
use Rattle.hickory_proto_core.specs.Query.{query_eq}
use Rattle.hickory_resolver_cache.specs.Turns.{Pair, pair_of}
use Rattle.hickory_resolver_cache.proofs.Store.{ok_fact}
use Rattle.hickory_resolver_cache.proofs.turns.insert_entry.Goals as goal

pub returns : goal.returns
returns g c =
    let e = c.entry.inside in
    let p : Pair = (e.query, record { result = e.result; original_time = e.original_time; valid_until = e.valid_until; number = c.args.number; weight = c.args.weight }) in
    let new = subst (λ (x : Entry). get query_eq c.args.index.now x.query ≡ None) (sym c.entry.view_is) c.requires.new in
    ok_fact c.insert.result (c.insert.ensures.succeeds c.requires.room) c.insert.ensures.entries
    ∙ insert_entry-new query_eq c.args.index.now p.0 p.1 new
    ∙ ap (λ x. c.args.index.now.entries ++ pair_of x c.args.number c.args.weight ∷ []) c.entry.view_is
