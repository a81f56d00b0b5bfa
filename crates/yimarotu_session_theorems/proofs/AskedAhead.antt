-- A question that was asked ahead of a look-up is the one that the look-up comes to, or is told to its asker.
use Rattle.std.proofs.Common.{◌≡◌, ◌∙◌, ◌==◌, ◌&&◌, ℕ, Bool, true, false, cond, List, true≢false, refl, sym, ap, subst, inl, inr}
use Rattle.std.specs.Prelude.{Option, None, Some}
use Rattle.std.specs.Bool.{beq}
use Rattle.std.specs.Option.{is_some, option_and_then}
use Rattle.std.proofs.lemmas.Bool.{and_parts, eqb-true}
use Rattle.hickory_proto_core.specs.Handles.{OutcomeValue}
use Rattle.hickory_proto_core.specs.Query.{query_eq, query_equiv}
use Rattle.hickory_proto_core.specs.declared.dns_request.DnsRequestOptions.{DnsRequestOptions}
use Rattle.hickory_proto_core.specs.declared.query.Query.{Query}
use Rattle.hickory_resolver_askers.specs.declared.asker.Asker.{Asker}
use Rattle.hickory_resolver_pool.specs.Pool.{PoolState}
use Rattle.hickory_resolver_pool_theorems.specs.Runs.{Happening}
use Rattle.hickory_resolver_theorems.specs.ResumingCalls.{WaitingCallValue}
use Rattle.hickory_resolver_tries.specs.Question.{is_dnssec_ok, payload_or_zero, question_eq, question_equiv, question_of}
use Rattle.hickory_resolver_tries.specs.declared.pool_question.PoolQuestion.{PoolQuestion}
use Rattle.yimarotu_session.specs.Ahead.{ahead_of, asker_ahead, is_ahead, is_waited_for}
use Rattle.yimarotu_session.specs.LookupTables.{TableValue, ahead_at, asker_of, held_at, if_waits_ahead, if_waits_for, is_same, waits_ahead, waits_for}
use Rattle.yimarotu_session.specs.Messages.{whole_query}
use Rattle.yimarotu_session.specs.NetworkSteps.{no_dnssec}
use Rattle.yimarotu_session.specs.Sessions.{value_at}
use Rattle.yimarotu_session.specs.declared.ahead.Ahead.{Ahead}
use Rattle.yimarotu_session.specs.declared.ahead.Ahead.TheVariants.{Nothing, Told, Waits}
use Rattle.yimarotu_session.specs.declared.ahead.SecondQuestion.{SecondQuestion}
use Rattle.yimarotu_session.specs.declared.network_lookup.NetworkLookup.{NetworkLookup}
use Rattle.yimarotu_session.specs.declared.network_lookup.NetworkLookup.TheVariants.{Asks, Asked, Done}
use Rattle.yimarotu_session_theorems.specs.NetworkLaws.{IsFromPool}

-- ---- equal questions

-- one that is equal to what is equal
pub equal-then : (p q r : PoolQuestion) → question_eq p q ≡ true → question_eq q r ≡ true → question_eq p r ≡ true
equal-then p q r pq qr = question_equiv.congr p q r pq ∙ qr

pub equal-self : (p : PoolQuestion) → question_eq p p ≡ true
equal-self p = question_equiv.refl p

-- what is from the pool is so for each equal question
pub from-equal : (first : PoolState) (past : List Happening) (p q : PoolQuestion) (outcome : OutcomeValue)
    → question_eq p q ≡ true → IsFromPool first past q outcome → IsFromPool first past p outcome
from-equal first past p q outcome same (inl t) =
    inl (record { over = t.over; was_over = t.was_over; same = equal-then p q t.over.question same t.same; told = t.told; read = t.read })
from-equal first past p q outcome same (inr r) =
    inr (record {
      later = r.later;
      earlier = r.earlier;
      before = r.before;
      query = r.query;
      options = r.options;
      now = r.now;
      happened = r.happened;
      same = equal-then p q (question_of r.query r.options no_dnssec) same r.same;
      told = r.told;
    })

-- the same bits and size are sent with names, types and classes that are so
abbrev sent-alike : PoolQuestion → PoolQuestion → Bool → Bool
sent-alike p q names =
    names && beq p.recursion_desired q.recursion_desired && beq p.checking_disabled q.checking_disabled
    && beq p.authentic_data q.authentic_data && beq (is_some p.opt) (is_some q.opt)
    && (payload_or_zero p.opt == payload_or_zero q.opt) && beq (is_dnssec_ok p.opt) (is_dnssec_ok q.opt)

-- queries that are equal are equal questions with the same options
pub equal-questions : (p q : Query) (options : DnsRequestOptions) → query_eq p q ≡ true
    → question_eq (question_of p options no_dnssec) (question_of q options no_dnssec) ≡ true
equal-questions p q options same =
    let alike = sent-alike (question_of q options no_dnssec) (question_of q options no_dnssec) in
    ap alike (same ∙ sym (query_equiv.refl q)) ∙ question_equiv.refl (question_of q options no_dnssec)

-- a call that waits for what comes back to a question asks that question
pub asked-alone : (q : Query) (w : WaitingCallValue) (options : DnsRequestOptions) → is_waited_for q w ≡ true
    → question_eq (question_of (whole_query w.lookup.hop.query) options no_dnssec) (question_of q options no_dnssec) ≡ true
asked-alone q w options waits =
    let own = w.lookup.hop.query in
    let parts = and_parts own.name.fqdn (query_eq own q) waits in
    let whole : whole_query own ≡ own = ap (λ (b : Bool). record own { name = record own.name { fqdn = b } }) (sym parts.0) in
    equal-questions (whole_query own) q options (ap (λ (p : Query). query_eq p q) whole ∙ parts.1)

-- ---- what was asked ahead, where it is this question

pub record IsFoundAhead (q : Query) (place : Option Ahead) (found : Ahead) : Type 0 where
  pub there : place ≡ Some found
  pub same : is_ahead q found ≡ true

pub found-ahead : (q : Query) (place : Option Ahead) (found : Ahead) → ahead_of q place ≡ found → (found ≡ Nothing → ⊥)
    → IsFoundAhead q place found
found-ahead q None found e some = absurd (some (sym e))
found-ahead q (Some x) found e some = by (is_ahead q x) refl e
  where
    by : (b : Bool) → is_ahead q x ≡ b → cond b x Nothing ≡ found → IsFoundAhead q (Some x) found
    by true same e = record {
      there = ap (λ (y : Ahead). Some y) e;
      same = ap (is_ahead q) (sym e) ∙ same;
    }
    by false same e = absurd (some (sym e))

-- ---- who waits for an asker

and-left : (a b : Bool) → (a && b) ≡ true → a ≡ true
and-left true b h = refl
and-left false b h = h

same-then : (asker b : Asker) → is_same asker (Some b) ≡ true → b.transaction ≡ asker.transaction
same-then asker b e =
    eqb-true b.transaction asker.transaction
    (and-left (b.transaction == asker.transaction) (b.number == asker.number) e)

-- the look-up that waits for an asker has this one
pub record FoundWaiting (asker : Asker) (table : TableValue) (n : ℕ) : Type 0 where
  pub call : WaitingCallValue
  pub the_asker : Asker
  pub held : held_at n table ≡ Some (Asked call the_asker)
  pub transaction : the_asker.transaction ≡ asker.transaction

pub found-waiting : (asker : Asker) (table : TableValue) (n : ℕ) → waits_for asker table ≡ Some n
    → FoundWaiting asker table n
found-waiting asker table n found = by (value_at asker.number table.askers) found
  where
    waiting-in : (m : ℕ) (held : Option NetworkLookup) → held_at m table ≡ held → is_same asker (asker_of held) ≡ true
        → FoundWaiting asker table m
    waiting-in m None is e = absurd (true≢false (sym e))
    waiting-in m (Some (Asks w)) is e = absurd (true≢false (sym e))
    waiting-in m (Some (Asked w b)) is e = record { call = w; the_asker = b; held = is; transaction = same-then asker b e }
    waiting-in m (Some (Done found announced)) is e = absurd (true≢false (sym e))

    if-waits : (m : ℕ) (b : Bool) → is_same asker (asker_of (held_at m table)) ≡ b → cond b (Some m) None ≡ Some n
        → FoundWaiting asker table n
    if-waits m true e h =
        let same : m ≡ n = cc in
        subst (λ (i : ℕ). FoundWaiting asker table i) same (waiting-in m (held_at m table) refl e)
    if-waits m false e h = let clash : None ≡ Some n = h in absurd cc

    by : (m : Option ℕ) → option_and_then (if_waits_for asker table) m ≡ Some n → FoundWaiting asker table n
    by None h = let clash : None ≡ Some n = h in absurd cc
    by (Some m) h = if-waits m (is_same asker (asker_of (held_at m table))) refl h

-- and so has what is asked ahead
pub record FoundAsking (asker : Asker) (table : TableValue) (n : ℕ) : Type 0 where
  pub question : SecondQuestion
  pub the_asker : Asker
  pub place : ahead_at n table ≡ Some (Waits question the_asker)
  pub transaction : the_asker.transaction ≡ asker.transaction

pub found-asking : (asker : Asker) (table : TableValue) (n : ℕ) → waits_ahead asker table ≡ Some n
    → FoundAsking asker table n
found-asking asker table n found = by (value_at asker.number table.askers) found
  where
    asking-in : (m : ℕ) (place : Option Ahead) → ahead_at m table ≡ place → is_same asker (asker_ahead place) ≡ true
        → FoundAsking asker table m
    asking-in m None is e = absurd (true≢false (sym e))
    asking-in m (Some Nothing) is e = absurd (true≢false (sym e))
    asking-in m (Some (Waits q b)) is e = record { question = q; the_asker = b; place = is; transaction = same-then asker b e }
    asking-in m (Some (Told q outcome)) is e = absurd (true≢false (sym e))

    if-asks : (m : ℕ) (b : Bool) → is_same asker (asker_ahead (ahead_at m table)) ≡ b → cond b (Some m) None ≡ Some n
        → FoundAsking asker table n
    if-asks m true e h =
        let same : m ≡ n = cc in
        subst (λ (i : ℕ). FoundAsking asker table i) same (asking-in m (ahead_at m table) refl e)
    if-asks m false e h = let clash : None ≡ Some n = h in absurd cc

    by : (m : Option ℕ) → option_and_then (if_waits_ahead asker table) m ≡ Some n → FoundAsking asker table n
    by None h = let clash : None ≡ Some n = h in absurd cc
    by (Some m) h = if-asks m (is_same asker (asker_ahead (ahead_at m table))) refl h
