-- What may be asked ahead of a look-up is of the second family, at the name of the question for which its call waits.
use Rattle.std.proofs.Common.{◌≡◌, ◌==◌, Bool, true, false, cond, List, [], ◌∷◌, refl, subst, inl, sym}
use Rattle.std.specs.Prelude.{Ok, Option, None, Some}
use Rattle.std.specs.Option.{is_some}
use Rattle.std.proofs.lemmas.Bool.{eqb-true}
use Rattle.hickory_proto_core.specs.Codes.{type_code}
use Rattle.hickory_proto_core.specs.codes.record_type.RecordType.{RecordType}
use Rattle.hickory_resolver.specs.Contexts.{first_passed}
use Rattle.hickory_resolver_model.specs.Calls.{Both, Fallback, FamilyOrder, One}
use Rattle.hickory_resolver_model.specs.Hops.{PassedValue}
use Rattle.hickory_resolver_model.specs.Resolver.{settings}
use Rattle.hickory_resolver_model.specs.Run.{family_order, name_call}
use Rattle.hickory_resolver_theorems.proofs.Lists.{contains-from_recursion}
use Rattle.hickory_resolver_theorems.specs.InterleavedCalls.{CallEventValue, IsStartedIn, PendingCallValue}
use Rattle.hickory_resolver_theorems.specs.ResumingCalls.{WaitingCallValue}
use Rattle.yimarotu_session.specs.Ahead.{Resolver, of_type, second_of, second_question, second_type}
use Rattle.yimarotu_session.specs.LookupTables.{question_ahead}
use Rattle.yimarotu_session.specs.Messages.{whole_query}
use Rattle.yimarotu_session.specs.declared.ahead.Ahead.{Ahead}
use Rattle.yimarotu_session.specs.declared.ahead.Ahead.TheVariants.{Nothing, Told, Waits}
use Rattle.yimarotu_session.specs.declared.ahead.SecondQuestion.{SecondQuestion}
use Rattle.yimarotu_session.specs.declared.network_lookup.NetworkLookup.{NetworkLookup}
use Rattle.yimarotu_session.specs.declared.network_lookup.NetworkLookup.TheVariants.{Asks, Asked, Done}
use Rattle.yimarotu_session_theorems.specs.NetworkCalls.{IsOfSecond, waits_after, waits_now}
use Rattle.yimarotu_session_theorems.specs.NetworkLaws.{IsAsCall}

module _ (resolver : Resolver) where
  -- a look-up of this question alone is one of the second family
  abbrev OfSecond : List CallEventValue → SecondQuestion → Type 0
  OfSecond events q = IsOfSecond (settings resolver) events (name_call q.query.query_type (Ok q.query.name)) q.started

  module _ (event : CallEventValue) (earlier : List CallEventValue) (c : PendingCallValue)
      (waits : waits_after event ≡ Some c)
      (started : IsStartedIn (event ∷ earlier) c.call c.waiting.lookup.now) (q : SecondQuestion) where
    abbrev first_type : RecordType
    first_type = c.waiting.lookup.hop.query.query_type

    abbrev order : FamilyOrder
    order = family_order resolver.options.ip_strategy

    abbrev question_with_type : RecordType → SecondQuestion
    question_with_type t =
        record { query = whole_query (of_type t c.waiting.lookup.hop.query); started = c.waiting.lookup.now }

    of-type : (first second : RecordType) → c.waiting.lookup.passed ≡ [] → order ≡ Both first second
        → (type_code first_type == type_code first) ≡ true → OfSecond (event ∷ earlier) (question_with_type second)
    of-type first second none both same = record {
      event = event;
      among = contains-from_recursion (event ∷ earlier) event (inl refl);
      waited = c;
      waits = waits;
      started = started;
      no_alias = none;
      first = first;
      second = second;
      both = both;
      of_first = eqb-true (type_code first_type) (type_code first) same;
      call_is = refl;
    }

    by-order : (o : FamilyOrder) → c.waiting.lookup.passed ≡ [] → order ≡ o
        → second_of c.waiting (second_type o first_type) ≡ Some q → OfSecond (event ∷ earlier) q
    by-order (One t) none is e = let clash : None ≡ Some q = e in absurd cc
    by-order (Fallback t u) none is e = let clash : None ≡ Some q = e in absurd cc
    by-order (Both first second) none is e = by (type_code first_type == type_code first) refl e
      where
        by : (b : Bool) → (type_code first_type == type_code first) ≡ b
            → second_of c.waiting (cond b (Some second) None) ≡ Some q → OfSecond (event ∷ earlier) q
        by true same e =
            let own : question_with_type second ≡ q = cc in
            subst (λ (x : SecondQuestion). OfSecond (event ∷ earlier) x) own (of-type first second none is same)
        by false same e = let clash : None ≡ Some q = e in absurd cc

    by-passed : (passed : List PassedValue) → c.waiting.lookup.passed ≡ passed
        → cond (is_some (first_passed passed)) None (second_of c.waiting (second_type order first_type)) ≡ Some q
        → OfSecond (event ∷ earlier) q
    by-passed [] none e = by-order order none refl e
    by-passed (p ∷ ps) some e = let clash : None ≡ Some q = e in absurd cc

  second-of : (events : List CallEventValue) (c : PendingCallValue) (q : SecondQuestion) → waits_now events ≡ Some c
      → IsStartedIn events c.call c.waiting.lookup.now → second_question resolver c.waiting ≡ Some q → OfSecond events q
  second-of [] c q there started e = let clash : None ≡ Some c = there in absurd cc
  second-of (event ∷ earlier) c q there started e =
      by-passed event earlier c there started q c.waiting.lookup.passed refl e

  -- what may be asked ahead of a look-up that is as its call
  pub second-ahead : (events : List CallEventValue)
      → ((c : PendingCallValue) → waits_now events ≡ Some c → IsStartedIn events c.call c.waiting.lookup.now)
      → (held : Option NetworkLookup) (place : Option Ahead) (q : SecondQuestion) → IsAsCall events held
      → question_ahead resolver held place ≡ Some q → OfSecond events q
  second-ahead events since None place q are e = let clash : None ≡ Some q = e in absurd cc
  second-ahead events since (Some (Asks w)) place q are e = let clash : None ≡ Some q = e in absurd cc
  second-ahead events since (Some (Done found b)) place q are e = let clash : None ≡ Some q = e in absurd cc
  second-ahead events since (Some (Asked w a)) None q are e = let clash : None ≡ Some q = e in absurd cc
  second-ahead events since (Some (Asked w a)) (Some (Waits x b)) q are e =
      let clash : None ≡ Some q = e in absurd cc
  second-ahead events since (Some (Asked w a)) (Some (Told x outcome)) q are e =
      let clash : None ≡ Some q = e in absurd cc
  second-ahead events since (Some (Asked w a)) (Some Nothing) q (c, there, same) e =
      second-of events c q there (since c there)
      (subst (λ (v : WaitingCallValue). second_question resolver v ≡ Some q) (sym same) e)
