-- A fetch begins, once its question is on its way.
use Rattle.std.proofs.Common.{◌≡◌, ◌∙◌, ◌++◌, ◌∷◌, [], ℕ, List, Bool, ap, ap₂, sym, subst}
use Rattle.std.specs.Prelude.{if◌then◌else◌}
use Rattle.client_queries.specs.declared.query.ClientQuery.{ClientQuery}
use Rattle.client_requests.specs.declared.client.Client.{Client}
use Rattle.hickory_proto_core.specs.declared.query.Query.{Query}
use Rattle.hickory_proto_wire.specs.Messages.{bit}
use Rattle.stored_replies.specs.Told.{asks_dnssec}
use Rattle.yimarotu_forwarder.specs.FetchTables.{fetches_of}
use Rattle.yimarotu_forwarder.specs.Fetches.{Begins, FetchesValue}
use Rattle.yimarotu_forwarder.specs.Forwarders.{ForwarderValue}
use Rattle.client_requests.specs.Keys.{key_of}
use Rattle.yimarotu_forwarder.specs.Late.{is_noted_late, late_after, late_at}
use Rattle.yimarotu_forwarder.specs.LookingUp.{BeginsWith, counts_after, dnssec_of, new_fetch, pool_question}
use Rattle.yimarotu_forwarder.specs.contracts.forwarder.Forwarder.{the_view}
use Rattle.yimarotu_forwarder.specs.declared.answered.Outcome.TheVariants.{Waits}
use Rattle.yimarotu_forwarder.proofs.Begun.{begins_with}
use Rattle.yimarotu_forwarder.proofs.forwarder.Forwarder.begin_with.Goals as goal

-- src/looking_up.rt
pub returns-in-Asker-clause-ok : goal.returns-in-Asker-clause-ok
returns-in-Asker-clause-ok c =
    let was : ForwarderValue = the_view c.self.inside in
    let asks : c.asks_dnssec.result ≡ asks_dnssec c.args.request.now.query.edns =
    c.asks_dnssec.ensures ∙ ap (λ (q : ClientQuery). asks_dnssec q.edns) c.query.ensures in
    let unchecked : c.is_unchecked.result ≡ bit 16 c.args.request.now.query.flags =
    c.is_unchecked.ensures ∙ ap (λ (q : ClientQuery). bit 16 q.flags) c.query-2.ensures in
    let dnssec_is : c.dnssec_of-dnssec.result
    ≡ dnssec_of (asks_dnssec c.args.request.now.query.edns) (bit 16 c.args.request.now.query.flags) was =
    c.dnssec_of-dnssec.ensures
    ∙ ap₂ (λ (a : Bool) (b : Bool). dnssec_of a b c.args.self.now) asks unchecked
    ∙ ap (λ (s : ForwarderValue). dnssec_of (asks_dnssec c.args.request.now.query.edns)
    (bit 16 c.args.request.now.query.flags) s) (sym c.self.view_is) in
    let late_is : c.note_late.new.late.items ≡ late_after (key_of c.args.request.now) was =
    c.note_late.ensures
    ∙ ap₂ (λ (b : Bool) (l : List (ℕ × List ℕ)). if b then l ++ (late_at was.clock, c.args.key) ∷ [] else l)
    (c.is_noted_late-is_noted.ensures ∙ ap (λ (s : ForwarderValue). is_noted_late c.args.key s) (sym c.self.view_is))
    c.reserve_late.ensures.same
    ∙ ap (λ (k : List ℕ). late_after k was) c.requires in
    subst (λ (s : ForwarderValue). BeginsWith c.args.query c.args.request.now
    (pool_question c.args.query (asks_dnssec c.args.request.now.query.edns)
    (bit 16 c.args.request.now.query.flags) s) c.args.group s Waits
    (record was {
      pool = c.ask_counted.new.pool;
      counts = c.ask_counted.new.counts;
      fetches = fetches_of c.begin.new.self;
      late = c.note_late.new.late.items;
    }) c.args.waiting) c.self.view_is
    (begins_with c.args.query c.args.request.now c.args.waiting c.args.group was c.in_ok-asked.asked c.in-Asker.asker
    c.dnssec_of-dnssec.result c.in_ok-fetch.fetch c.args.key c.ask_counted.new.pool c.ask_counted.new.counts
    (fetches_of c.begin.new.self) c.note_late.new.late.items dnssec_is c.in_ok-asked.ensures.told c.in-Asker.is c.in_ok-asked.ensures.pool
    (c.in_ok-asked.ensures.counts
    ∙ ap (λ (x : Client). counts_after c.in_ok-asked.asked x.address was.counts) c.client.ensures)
    (c.in_ok-fetch.ensures ∙ ap (λ (q : Query). new_fetch q c.args.request.now c.args.waiting was.generation was.clock)
    c.in_ok-copy.ensures) c.requires late_is
    (subst (λ (f : FetchesValue). Begins c.args.key c.in_ok-fetch.fetch c.in-Asker.asker.number f
    (fetches_of c.begin.new.self)) c.reserve.ensures.same c.begin.ensures))
