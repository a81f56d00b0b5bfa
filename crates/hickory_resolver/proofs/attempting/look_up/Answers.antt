use Rattle.std.proofs.Common.{◌≡◌, false, Some, None, refl, subst, inl, inr}
use Rattle.hickory_proto_core.specs.declared.query.Query.{Query}
use Rattle.hickory_resolver_client.specs.Contexts.{progress_of}
use Rattle.hickory_resolver_model.specs.Client.{context_of}
use Rattle.hickory_resolver_model.specs.Hosts.{HostsHave, NotInHosts}
use Rattle.hickory_resolver_model.specs.Lookup.{question_of}
use Rattle.hickory_resolver_model.specs.Resuming.{Starts}
use Rattle.hickory_resolver.proofs.attempting.look_up.Goals as goal

pub returns-then-skips_hosts-clause-looks_up : goal.returns-then-skips_hosts-clause-looks_up
returns-then-skips_hosts-clause-looks_up g c =
    let question_is : c.query-question.result ≡ question_of c.args.name c.args.record_type =
    λ i. record {
      name = c.query-question.ensures.name i;
      query_type = c.query-question.ensures.query_type i;
      query_class = c.query-question.ensures.query_class i;
    } in
    let P : Query → Type 0 = λ q. NotInHosts c.args.with_hosts q c.args.now c.args.hosts.now in
    let Q : Query → Type 0 = λ q. Starts (context_of c.args.client.now c.args.now) q (progress_of c.start.result)
    c.start.new.self.cache in
    inl (
      progress_of c.start.result,
      refl,
      subst P question_is (c.skips_hosts.ensures.none c.if-skips_hosts.true c.args.now),
      subst Q question_is c.start.ensures.starts,
    )

pub returns-in-Ok-Some-clause-looks_up : goal.returns-in-Ok-Some-clause-looks_up
returns-in-Ok-Some-clause-looks_up g c =
    let question_is : c.query-question.result ≡ question_of c.args.name c.args.record_type =
    λ i. record {
      name = c.query-question.ensures.name i;
      query_type = c.query-question.ensures.query_type i;
      query_class = c.query-question.ensures.query_class i;
    } in
    let P : Query → Type 0 = λ q. HostsHave q c.args.now c.args.hosts.now (Some c.in-Ok-Some.found) in
    inr (inl (
      c.in-Ok-Some.found,
      refl,
      c.skips_hosts.ensures.asked c.if-skips_hosts.false,
      subst P question_is (rw c.in-Ok-Some.field-0-is at c.in-Ok-Some.ensures.ok),
      refl,
    ))

pub returns-in-Ok-None-clause-looks_up : goal.returns-in-Ok-None-clause-looks_up
returns-in-Ok-None-clause-looks_up g c =
    let question_is : c.query-question.result ≡ question_of c.args.name c.args.record_type =
    λ i. record {
      name = c.query-question.ensures.name i;
      query_type = c.query-question.ensures.query_type i;
      query_class = c.query-question.ensures.query_class i;
    } in
    let P : Query → Type 0 = λ q. HostsHave q c.args.now c.args.hosts.now None in
    let Q : Query → Type 0 = λ q. Starts (context_of c.args.client.now c.args.now) q
    (progress_of c.start-in-Ok-None.result) c.start-in-Ok-None.new.self.cache in
    inl (
      progress_of c.start-in-Ok-None.result,
      refl,
      inr (subst P question_is (rw c.in-Ok-None.field-0-is at c.in-Ok-None.ensures.ok)),
      subst Q question_is c.start-in-Ok-None.ensures.starts,
    )
