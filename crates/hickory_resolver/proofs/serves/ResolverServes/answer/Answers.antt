use Rattle.std.proofs.Common.{List, ℕ, Ok, sym, subst}
use Rattle.hickory_resolver_model.specs.Run as served
use Rattle.hickory_resolver_lookup.specs.Requests.{request_of}
use Rattle.hickory_resolver_lookup.specs.declared.request.Request.{Request}
use Rattle.hickory_resolver.specs.Serving.{Answered}
use Rattle.hickory_resolver.proofs.ServedRuns.{answered_lookup, answered_host, answered_clear_lookup, answered_clear}
use Rattle.hickory_resolver.proofs.serves.ResolverServes.answer.Goals as goal

pub returns-in-Lookup : goal.returns-in-Lookup
returns-in-Lookup g c =
    let step = g.R.DnsHandle.step in
    let asked = c.in-Lookup in
    let R : Request → Type 0 = λ r. Answered step (request_of r) c.args.self.now (served.LookedUp c.lookup.result)
    c.lookup.new.self in
    let T : List ℕ → Type 0 = λ text. Answered step (served.Lookup text asked.record_type asked.now) c.args.self.now
    (served.LookedUp c.lookup.result) c.lookup.new.self in
    subst R (sym asked.is) (subst T c.as_str.ensures.value
    (answered_lookup step c.args.self.now c.as_str.result.now asked.record_type asked.now c.lookup.result
    c.lookup.new.self c.lookup.ensures))

pub returns-in-LookupIp : goal.returns-in-LookupIp
returns-in-LookupIp g c =
    let step = g.R.DnsHandle.step in
    let asked = c.in-LookupIp in
    let R : Request → Type 0 = λ r. Answered step (request_of r) c.args.self.now
    (served.LookedUpIp c.lookup_ip.result) c.lookup_ip.new.self in
    let T : List ℕ → Type 0 = λ text. Answered step (served.LookupIp text asked.now) c.args.self.now
    (served.LookedUpIp c.lookup_ip.result) c.lookup_ip.new.self in
    subst R (sym asked.is) (subst T c.as_str-in-LookupIp.ensures.value
    (answered_host step c.args.self.now c.as_str-in-LookupIp.result.now asked.now c.lookup_ip.result
    c.lookup_ip.new.self c.lookup_ip.ensures))

pub returns-in-ClearLookup : goal.returns-in-ClearLookup
returns-in-ClearLookup g c =
    let step = g.R.DnsHandle.step in
    let asked = c.in-ClearLookup in
    let cleared = c.clear_lookup_cache in
    let R : Request → Type 0 = λ r. Answered step (request_of r) c.args.self.now (served.Cleared cleared.result)
    cleared.new.self in
    let T : List ℕ → Type 0 = λ text. Answered step (served.ClearLookup text asked.record_type asked.now)
    c.args.self.now (served.Cleared cleared.result) cleared.new.self in
    subst R (sym asked.is) (subst T c.as_str-in-ClearLookup.ensures.value
    (answered_clear_lookup step c.args.self.now c.as_str-in-ClearLookup.result.now asked.record_type asked.now
    cleared.result cleared.new.self cleared.ensures.ok cleared.ensures.unchanged cleared.ensures.err))

pub returns-in-Clear : goal.returns-in-Clear
returns-in-Clear g c =
    let step = g.R.DnsHandle.step in
    let R : Request → Type 0 = λ r. Answered step (request_of r) c.args.self.now (served.Cleared (Ok tt))
    c.clear_cache.new.self in
    subst R (sym c.in-Clear.is) (answered_clear step c.args.self.now c.in-Clear.now c.clear_cache.new.self
    c.clear_cache.ensures.cleared)
