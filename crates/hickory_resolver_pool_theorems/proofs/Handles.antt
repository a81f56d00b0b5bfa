-- A run over a pool, from octets to octets.
use Rattle.std.proofs.Common.{◌≡◌, ℕ, true, List, [], ◌∷◌, ◌++◌, ap, sym, subst, ◌∙◌, append_assoc, inl, inr, ◌⊎◌}
use Rattle.std.specs.Prelude.{Option, None, Some, Ok, Err}
use Rattle.std.specs.List.{AllByRecursion}
use Rattle.hickory_proto_core.specs.Handles.{OutcomeValue, Leads}
use Rattle.hickory_proto_core.specs.Messages.{MessageValue}
use Rattle.hickory_proto_core.specs.declared.dns_request.DnsRequest.{DnsRequest}
use Rattle.hickory_proto_core.specs.declared.dns_request.DnsRequestOptions.{DnsRequestOptions}
use Rattle.hickory_proto_core.specs.declared.net_error.DnsError.TheVariants.{NoRecordsFound}
use Rattle.hickory_proto_core.specs.declared.net_error.NetError.TheVariants as error
use Rattle.hickory_proto_core.specs.declared.recorded.Exchange.{Exchange}
use Rattle.hickory_resolver_config.specs.ResolverConfig.{OptionsValue}
use Rattle.hickory_resolver_theorems.proofs.PromisesHold.{promised_run}
use Rattle.hickory_resolver_tries.specs.Question.{question_of, question_eq}
use Rattle.hickory_resolver_tries.specs.declared.pool_question.DnssecOptions.{DnssecOptions}
use Rattle.hickory_resolver_pool.specs.Laws.{after_event}
use Rattle.hickory_proto_wire.specs.declared.wire_message.WireMessage.{WireMessage}
use Rattle.hickory_resolver_pool.specs.Over.{OverValue, IsCoreOutcome, IsFault, IsToldToCore, message_of}
use Rattle.hickory_resolver_pool.specs.declared.over.PoolOutcome.{PoolOutcome}
use Rattle.hickory_resolver_pool.specs.declared.over.PoolOutcome.TheVariants.{Response, Cut, Code, Unreachable, Timeout, Overloaded}
use Rattle.hickory_resolver_pool.specs.declared.over.TheConstants.{CUT, UNREACHABLE, OVERLOADED}
use Rattle.hickory_resolver_pool.specs.Pool.{PoolState, no_servers}
use Rattle.hickory_resolver_pool.specs.declared.limits.PoolLimits.{PoolLimits}
use Rattle.hickory_resolver_pool.specs.declared.pool.Action.TheVariants.{Over}
use Rattle.hickory_resolver_pool_theorems.specs.Handles.{IsReadOfOctets, CameFor, PoolHandle, asking, IsTold, PoolStep, CameAsOctets, IsDenial, IsPoolOf, FromOctetsToOctets}
use Rattle.hickory_resolver_pool_theorems.specs.Runs.{Happening, came, did, Runs, at_first, by_event, by_step}
use Rattle.hickory_resolver_pool_theorems.proofs.Asked.{known-runs, asks-it, own-runs, end-asks}
use Rattle.hickory_resolver_pool_theorems.proofs.Overs.{told-at_end}
use Rattle.hickory_resolver_pool_theorems.proofs.Told.{core_is_told_what_came}
use Rattle.hickory_resolver_pool_theorems.proofs.Wires.{reply-more}

-- what happens after what happened
runs-on : (start mid s : PoolState) (before more : List Happening) → Runs start before mid → Runs mid more s
    → Runs start (more ++ before) s
runs-on start mid _ before _ first at_first = first
runs-on start mid _ before _ first (by_event past s e more) =
    by_event (past ++ before) s e (runs-on start mid s before past first more)
runs-on start mid _ before _ first (by_step past s after r is more) =
    by_step (past ++ before) s after r is (runs-on start mid s before past first more)

-- ---- the same, later

read-more : (a : Happening) (past : List Happening) (o : OverValue) (m : MessageValue) → IsReadOfOctets past o m
    → IsReadOfOctets (a ∷ past) o m
read-more a past o m r = record {
  reply = r.reply;
  believed = reply-more a past o.transaction o.question o.outcome r.reply r.believed;
  read = r.read;
  spelled = r.spelled;
  whole = r.whole;
  told = r.told;
}

read-on : (more past : List Happening) (o : OverValue) (m : MessageValue) → IsReadOfOctets past o m
    → IsReadOfOctets (more ++ past) o m
read-on [] past o m r = r
read-on (a ∷ more) past o m r = read-more a (more ++ past) o m (read-on more past o m r)

-- ---- that there are no records is told by no error

fault-denies : (words : List ℕ) (outcome : OutcomeValue) → IsFault words outcome → IsDenial outcome → ⊥
fault-denies words (Err (error.Dns (NoRecordsFound n))) fault denial = fault
fault-denies words (Err (error.Message text)) fault denial = denial
fault-denies words other fault denial = fault

told-denies : (told : PoolOutcome) (message : Option WireMessage) (outcome : OutcomeValue)
    → IsToldToCore told message outcome → IsDenial outcome → ⊥
told-denies Response None outcome is denial = subst IsDenial is denial
told-denies Response (Some m) outcome is denial = subst IsDenial is denial
told-denies Cut message outcome is denial = fault-denies CUT.now outcome is denial
told-denies Code message outcome is denial = subst IsDenial is denial
told-denies Unreachable message outcome is denial = fault-denies UNREACHABLE.now outcome is denial
told-denies Timeout message outcome is denial = subst IsDenial is denial
told-denies Overloaded message outcome is denial = fault-denies OVERLOADED.now outcome is denial

-- ---- steps of the handle

module _ (options : OptionsValue) (limits : PoolLimits) (seed : List ℕ) (group : ℕ) (dnssec : DnssecOptions) where
  abbrev Step : PoolHandle → DnsRequest → OutcomeValue → PoolHandle → Type 0
  Step = PoolStep group dnssec

  -- a later handle of the same pool
  record IsLater (before after : PoolHandle) : Type 0 where
    pool : IsPoolOf options limits seed after
    more : List Happening
    past_is : after.past ≡ more ++ before.past

  told-later : (before : PoolHandle) (request : DnsRequest) (outcome : OutcomeValue) (after : PoolHandle)
      → IsPoolOf options limits seed before → (t : IsTold group dnssec before request outcome after) → IsPoolOf options limits seed (record { past = t.waited ++ came before.pool (asking group dnssec request t.now) ∷ before.past; pool = t.last })
  told-later before request outcome after is t =
      runs-on (no_servers options limits seed) (after_event before.pool (asking group dnssec request t.now)) t.last
      (came before.pool (asking group dnssec request t.now) ∷ before.past) t.waited
      (by_event before.past before.pool (asking group dnssec request t.now) is) t.runs

  step-later : (before : PoolHandle) (request : DnsRequest) (outcome : OutcomeValue) (after : PoolHandle)
      → IsPoolOf options limits seed before → Step before request outcome after → IsLater before after
  step-later before request outcome after is (inl t) =
      let whole = by_step (t.waited ++ came before.pool (asking group dnssec request t.now) ∷ before.past) t.last after.pool
      (Some (Over t.over)) t.ends (told-later before request outcome after is t) in
      record {
        pool = subst (λ (past : List Happening). Runs (no_servers options limits seed) past after.pool) (sym t.past_is) whole;
        more = did t.last (Some (Over t.over)) ∷ t.waited ++ came before.pool (asking group dnssec request t.now) ∷ [];
        past_is = t.past_is ∙ sym (append_assoc (did t.last (Some (Over t.over)) ∷ t.waited)
            (came before.pool (asking group dnssec request t.now) ∷ []) before.past);
      }
  step-later before request outcome after is (inr f) = record {
    pool = subst (λ (past : List Happening). Runs (no_servers options limits seed) past after.pool) (sym f.past_is)
        (runs-on (no_servers options limits seed) before.pool after.pool before.past f.waited is f.runs);
    more = f.waited;
    past_is = f.past_is;
  }

  -- what is told is of an equal question
  same-asked : (before : PoolHandle) (request : DnsRequest) (outcome : OutcomeValue) (after : PoolHandle)
      → IsPoolOf options limits seed before → (t : IsTold group dnssec before request outcome after)
      → question_eq (question_of request.query request.options dnssec) t.over.question ≡ true
  same-asked before request outcome after is t =
      let known = known-runs options limits seed before.past before.pool is in
      let it = asks-it before.pool group request.query request.options dnssec t.now known t.asker t.asks in
      let question = question_of request.query request.options dnssec in
      end-asks it.list question t.asker.transaction t.last t.over
      (own-runs (it.list, question) t.asker.transaction (after_event before.pool (asking group dnssec request t.now))
      t.waited t.last t.runs it.own)
      t.transaction (told-at_end t.over t.last after.pool t.ends)

  step-octets : (before : PoolHandle) (request : DnsRequest) (outcome : OutcomeValue) (after : PoolHandle)
      → IsPoolOf options limits seed before → Step before request outcome after
      → (m : MessageValue) → outcome ≡ Ok m → CameFor after.past (question_of request.query request.options dnssec) m
  step-octets before request outcome after is (inl t) m e = by t.told
    where
      by : (outcome ≡ Err error.OutOfMemory) ⊎ IsCoreOutcome t.over outcome
          → CameFor after.past (question_of request.query request.options dnssec) m
      by (inl none) = let no_such : Ok m ≡ Err error.OutOfMemory = sym e ∙ none in absurd cc
      by (inr told) =
          let past = t.waited ++ came before.pool (asking group dnssec request t.now) ∷ before.past in
          let read = core_is_told_what_came options limits seed past t.last after.pool t.over m
          (told-later before request outcome after is t) t.ends
          (subst (λ (x : OutcomeValue). IsCoreOutcome t.over x) e told) in
          record {
            over = t.over;
            read = subst (λ (p : List Happening). IsReadOfOctets p t.over m) (sym t.past_is)
                (read-more (did t.last (Some (Over t.over))) past t.over m read);
            same = same-asked before request outcome after is t;
          }
  step-octets before request outcome after is (inr f) m e = absurd (f.fails m e)

  step-denies : (before : PoolHandle) (request : DnsRequest) (outcome : OutcomeValue) (after : PoolHandle)
      → Step before request outcome after → IsDenial outcome → ⊥
  step-denies before request outcome after (inl t) denial = by t.told
    where
      by : (outcome ≡ Err error.OutOfMemory) ⊎ IsCoreOutcome t.over outcome → ⊥
      by (inl none) = subst IsDenial none denial
      by (inr told) = told-denies t.over.outcome (message_of t.over) outcome told denial
  step-denies before request outcome after (inr f) denial = f.denies_nothing denial

  all-octets : (request : DnsRequestOptions) (before after : PoolHandle) (xs : List Exchange)
      → IsPoolOf options limits seed before → Leads Step request before xs after
      → AllByRecursion (CameAsOctets after.past request dnssec) xs × IsLater before after
  all-octets request before after [] is end = (
    tt,
    record {
      pool = subst (λ (h : PoolHandle). IsPoolOf options limits seed h) (sym end) is;
      more = [];
      past_is = ap (λ (h : PoolHandle). h.past) end;
    },
  )
  all-octets request before after (x ∷ xs) is (mid, sent, rest) =
      let asked : DnsRequest = record { query = x.query; options = request } in
      let next = step-later before asked x.outcome mid is sent in
      let more = all-octets request mid after xs next.pool rest in
      let here : CameAsOctets after.past request dnssec x = record {
        response = λ m e. let found = step-octets before asked x.outcome mid is sent m e in record {
          over = found.over;
          read = subst (λ (p : List Happening). IsReadOfOctets p found.over m) (sym more.1.past_is)
              (read-on more.1.more mid.past found.over m found.read);
          same = found.same;
        };
        denies_nothing = step-denies before asked x.outcome mid sent;
      } in (
        (here, more.0),
        record {
          pool = more.1.pool;
          more = more.1.more ++ next.more;
          past_is = more.1.past_is ∙ ap (λ (p : List Happening). more.1.more ++ p) next.past_is
              ∙ sym (append_assoc more.1.more next.more before.past);
        },
      )

pub from_octets_to_octets : FromOctetsToOctets
from_octets_to_octets options limits seed group dnssec s before after requests steps exchanges cache is run = (
  promised_run (PoolStep group dnssec) s before requests steps exchanges after cache run,
  (all-octets options limits seed group dnssec s.request_options before after exchanges is run.led).0,
)
