-- A fetch begins, once its question is on its way.
use Rattle.std.proofs.Common.{◌≡◌, ◌∙◌, ℕ, List, ap, ap₂, sym, subst, refl}
use Rattle.hickory_proto_core.specs.declared.query.Query.{Query}
use Rattle.hickory_proto_wire.specs.Messages.{bit}
use Rattle.hickory_resolver_askers.specs.declared.asker.Asker.{Asker}
use Rattle.hickory_resolver_model.specs.Options.{request_options_of}
use Rattle.hickory_resolver_pool.specs.Pool.{PoolState, after_asking, asking_told, list_of, settings_for}
use Rattle.hickory_resolver_pool.specs.declared.pool.Asked as pool_asked
use Rattle.hickory_resolver_pool.specs.declared.pool.Asked.TheVariants as asked
use Rattle.hickory_resolver_tries.specs.Question as tries
use Rattle.hickory_resolver_tries.specs.declared.pool_question.DnssecOptions.{DnssecOptions}
use Rattle.hickory_resolver_tries.specs.declared.pool_question.PoolQuestion.{PoolQuestion}
use Rattle.client_limits.specs.Counts.{CountsValue}
use Rattle.client_requests.specs.Keys.{key_of}
use Rattle.client_requests.specs.Requests.{RequestValue}
use Rattle.stored_replies.specs.Told.{asks_dnssec}
use Rattle.yimarotu_forwarder.specs.Fetches.{Begins, FetchValue, FetchesValue}
use Rattle.yimarotu_forwarder.specs.Forwarders.{ForwarderValue}
use Rattle.yimarotu_forwarder.specs.Late.{late_after}
use Rattle.yimarotu_forwarder.specs.LookingUp.{BeginsWith, counts_after, dnssec_of, new_fetch, pool_question, pool_says}
use Rattle.yimarotu_forwarder.specs.declared.answered.Outcome.TheVariants.{Waits}

pub begins_with : (query : Query) (r waiting : RequestValue) (group : ℕ) (before : ForwarderValue)
    (what : pool_asked.Asked) (a : Asker) (dnssec : DnssecOptions) (fetch : FetchValue) (key : List ℕ)
    (pool : PoolState) (counts : CountsValue) (fetches : FetchesValue) (late : List (ℕ × List ℕ))
    → dnssec ≡ dnssec_of (asks_dnssec r.query.edns) (bit 16 r.query.flags) before
    → what ≡ asking_told (list_of group before.pool.traffic)
    (tries.question_of query (request_options_of before.pool.options) dnssec) before.pool
    → what ≡ asked.Asker a
    → pool ≡ after_asking (list_of group before.pool.traffic)
    (tries.question_of query (request_options_of before.pool.options) dnssec)
    (settings_for before.pool.options (request_options_of before.pool.options)) before.clock before.pool
    → counts ≡ counts_after what r.client.address before.counts
    → fetch ≡ new_fetch query r waiting before.generation before.clock → key ≡ key_of r
    → late ≡ late_after (key_of r) before → Begins key fetch a.number before.fetches fetches
    → BeginsWith query r (pool_question query (asks_dnssec r.query.edns) (bit 16 r.query.flags) before) group before
    Waits (record before { pool = pool; counts = counts; fetches = fetches; late = late }) waiting
begins_with query r waiting group before what a dnssec fetch key pool counts fetches late dnssec_is told is pool_is
    counts_is fetch_is key_is late_is begins =
    let question : PoolQuestion = pool_question query (asks_dnssec r.query.edns) (bit 16 r.query.flags) before in
    let question_is : tries.question_of query (request_options_of before.pool.options) dnssec ≡ question =
    ap (λ (d : DnssecOptions). tries.question_of query (request_options_of before.pool.options) d) dnssec_is in
    let says : pool_says group question before ≡ asked.Asker a =
    ap (λ (q : PoolQuestion). asking_told (list_of group before.pool.traffic) q before.pool) (sym question_is)
    ∙ sym told ∙ is in
    subst (λ (l : List (ℕ × List ℕ)). BeginsWith query r question group before Waits
    (record before { pool = pool; counts = counts; fetches = fetches; late = l }) waiting) (sym late_is) (rw says (record {
      waits = refl;
      begins =
          subst (λ (k : List ℕ). Begins k (new_fetch query r waiting before.generation before.clock) a.number before.fetches fetches)
          key_is (subst (λ (f : FetchValue). Begins key f a.number before.fetches fetches) fetch_is begins);
      others_are =
          ap₂ (λ (p : PoolState) (n : CountsValue). record before {
            pool = p;
            counts = n;
            fetches = fetches;
            late = late_after (key_of r) before;
          })
          (pool_is ∙ ap (λ (q : PoolQuestion). after_asking (list_of group before.pool.traffic) q
          (settings_for before.pool.options (request_options_of before.pool.options)) before.clock before.pool)
          question_is)
          (counts_is ∙ ap (λ (x : pool_asked.Asked). counts_after x r.client.address before.counts) is);
    }))
