-- A look-up that waits to asks its question of the pool, and one ahead.
use Rattle.std.proofs.Common.{◌≡◌, ◌∙◌, ℕ, Some, ap, subst}
use Rattle.hickory_proto_core.specs.declared.dns_request.DnsRequestOptions.{DnsRequestOptions}
use Rattle.hickory_proto_core.specs.declared.query.Query.{Query}
use Rattle.hickory_resolver_model.specs.Options.{request_options_of}
use Rattle.hickory_resolver_pool.specs.Pool.{PoolState, after_asking, asking_told, list_of, settings_for}
use Rattle.hickory_resolver_pool.specs.declared.pool.Asked.{Asked}
use Rattle.hickory_resolver_theorems.specs.ResumingCalls.{WaitingCallValue}
use Rattle.hickory_resolver_tries.specs.Question.{question_of}
use Rattle.yimarotu_session.specs.LookupTables.{TableValue, held_at}
use Rattle.yimarotu_session.specs.Messages.{whole_query}
use Rattle.yimarotu_session.specs.NetworkSessions.{NetworkValue}
use Rattle.yimarotu_session.specs.NetworkSteps.{AsksAhead, AsksPool, IsAnswered, IsAskedAhead, no_dnssec}
use Rattle.yimarotu_session.specs.declared.ahead.SecondQuestion.{SecondQuestion}
use Rattle.yimarotu_session.specs.declared.network_lookup.NetworkLookup.TheVariants.{Asks}

-- what the pool says to a question with these options, and the pool after it
abbrev pub said_to : Query → DnsRequestOptions → PoolState → Asked
said_to query options pool = asking_told (list_of 0 pool.traffic) (question_of query options no_dnssec) pool

abbrev pub after_question : Query → DnsRequestOptions → PoolState → PoolState
after_question query options pool =
    after_asking (list_of 0 pool.traffic) (question_of query options no_dnssec) (settings_for pool.options options) 0 pool

module _ (w : WaitingCallValue) (number : ℕ) (before after : NetworkValue) (table : TableValue) (query : Query)
    (options : DnsRequestOptions) (said : Asked) where
  pub asks-pool : held_at number before.table ≡ Some (Asks w) → query ≡ whole_query w.lookup.hop.query
      → options ≡ request_options_of before.resolver.options → table ≡ before.table
      → said ≡ said_to query options before.pool → after.pool ≡ after_question query options before.pool
      → ((v : WaitingCallValue) → held_at number table ≡ Some (Asks v)
      → IsAnswered said v number before.resolver table after.resolver after.table)
      → after.telling ≡ before.telling → AsksPool w number before after
  asks-pool there asks with same told pool answered telling =
      let there_too : held_at number table ≡ Some (Asks w) = ap (λ (t : TableValue). held_at number t) same ∙ there in
      let own = subst (λ (t : TableValue). IsAnswered said w number before.resolver t after.resolver after.table) same (answered w there_too) in
      let s = before.pool in
      record {
        pool_is = pool ∙ ap (λ (q : Query). after_question q options s) asks
            ∙ ap (λ (o : DnsRequestOptions). after_question (whole_query w.lookup.hop.query) o s) with;
        answered = subst (λ (a : Asked). IsAnswered a w number before.resolver before.table after.resolver after.table)
            (told ∙ ap (λ (q : Query). said_to q options s) asks
            ∙ ap (λ (o : DnsRequestOptions). said_to (whole_query w.lookup.hop.query) o s) with) own;
        telling_stays = telling;
      }

module _ (number : ℕ) (before after : NetworkValue) (table : TableValue) (second : SecondQuestion) (copy : Query)
    (options : DnsRequestOptions) (said : Asked) where
  pub asks-ahead : copy ≡ second.query → options ≡ request_options_of before.resolver.options → table ≡ before.table
      → said ≡ said_to copy options before.pool → after.pool ≡ after_question copy options before.pool
      → IsAskedAhead said second number table after.table
      → after ≡ record before { pool = after.pool; table = after.table } → AsksAhead number second before after
  asks-ahead copied with same told pool asked others =
      let s = before.pool in
      record {
        pool_is = pool ∙ ap (λ (q : Query). after_question q options s) copied
            ∙ ap (λ (o : DnsRequestOptions). after_question second.query o s) with;
        asked = subst (λ (a : Asked). IsAskedAhead a second number before.table after.table)
            (told ∙ ap (λ (q : Query). said_to q options s) copied
            ∙ ap (λ (o : DnsRequestOptions). said_to second.query o s) with)
            (subst (λ (t : TableValue). IsAskedAhead said second number t after.table) same asked);
        others_stay = others;
      }
