-- A look-up whose turn it is asks its question, or one ahead.
use Rattle.std.proofs.Common.{◌≡◌, ◌∙◌, ℕ, nat_eq, Bool, true, false, cond, List, [], ◌∷◌, ◌++◌, refl, sym, ap, subst, inr, arith}
use Rattle.std.specs.Prelude.{MatchOption, Option, None, Some}
use Rattle.std.specs.Option.{option_and_then, option_map}
use Rattle.std.proofs.lemmas.Bool.Decides.{nat_tests}
use Rattle.hickory_proto_core.specs.Handles.{OutcomeValue}
use Rattle.hickory_proto_core.specs.Query.{query_eq}
use Rattle.hickory_proto_core.specs.declared.query.Query.{Query}
use Rattle.hickory_resolver_askers.specs.declared.asker.Asker.{Asker}
use Rattle.hickory_resolver_model.specs.Resolver.{ResolverValue}
use Rattle.hickory_resolver_pool.specs.Laws.{PoolEvent, after_event, is_asked}
use Rattle.hickory_resolver_model.specs.Options.{request_options_of}
use Rattle.hickory_resolver_pool.specs.Pool.{PoolState}
use Rattle.hickory_resolver_pool.specs.declared.pool.Asked as pool_asked
use Rattle.hickory_resolver_pool.specs.declared.pool.Asked.TheVariants as asked
use Rattle.hickory_resolver_pool.specs.declared.limits.PoolLimits.{PoolLimits}
use Rattle.hickory_resolver_pool_theorems.specs.Runs.{Happening}
use Rattle.hickory_resolver_pool_theorems.proofs.Asked.{IsOwn, asks-it, known-runs}
use Rattle.hickory_proto_core.specs.declared.dns_request.DnsRequestOptions.{DnsRequestOptions}
use Rattle.hickory_resolver_tries.specs.Question.{question_eq, question_of}
use Rattle.hickory_resolver_tries.specs.declared.pool_question.PoolQuestion.{PoolQuestion}
use Rattle.yimarotu_session.specs.Ahead.{ahead_of}
use Rattle.hickory_resolver_theorems.specs.ResumingCalls.{WaitingCallValue}
use Rattle.yimarotu_session.specs.LookupTables.{ChangesAhead, TableValue, ahead_at, emptied, first_asked, question_ahead}
use Rattle.yimarotu_session.specs.Messages.{whole_query}
use Rattle.yimarotu_session.specs.NetworkSessions.{NetworkValue, TellingValue}
use Rattle.yimarotu_session.specs.NetworkSteps.{AsksAhead, AsksAs, AsksBy, AsksIf, AsksOther, AsksOwn, AsksPool, AsksSecond, GoesOnAt, IsAnswered, IsAskedAhead, TakesOver, UsesTold, no_dnssec, pool_says}
use Rattle.yimarotu_session.specs.Sessions.{PutsUnder, value_at}
use Rattle.yimarotu_session.specs.declared.ahead.Ahead.{Ahead}
use Rattle.yimarotu_session.specs.declared.ahead.Ahead.TheVariants.{Nothing, Told, Waits}
use Rattle.yimarotu_session.specs.declared.ahead.SecondQuestion.{SecondQuestion}
use Rattle.yimarotu_session.specs.declared.network_lookup.NetworkLookup.{NetworkLookup}
use Rattle.yimarotu_session.specs.declared.network_lookup.NetworkLookup.TheVariants.{Asks, Asked, Done}
use Rattle.yimarotu_session.specs.declared.network_session.NetworkAction.{NetworkAction}
use Rattle.yimarotu_session_theorems.specs.NetworkLaws.{IsFromPool, IsToldOfRefusal, question_with}
use Rattle.yimarotu_session_theorems.specs.NetworkRuns.{NetworkEvent, is_stepped}
use Rattle.yimarotu_session_theorems.proofs.AskedAhead.{IsFoundAhead, equal-questions, equal-self, equal-then, found-ahead, from-equal}
use Rattle.yimarotu_session_theorems.proofs.Calls.{Lookups, as-put}
use Rattle.yimarotu_session_theorems.proofs.Going.{as-stay, before_it, gone-on-at, none-done, own-places, passed, silent, waits-there}
use Rattle.yimarotu_session_theorems.proofs.Kept.{AreAhead, AreAskedFor, AreSecond, IsAhead, IsAskedFor, IsSecond, IsTelling, Kept, Places, PlacesLess, PoolMoves, ahead-grows, ahead-on, asked-on, call_at, call_of, ends-put-undone, ends-same, first, keeps, keeps-telling, lookups-same, options, places-less, places-same, pool-stays, pool-takes, question_for, second-on}
use Rattle.yimarotu_session_theorems.proofs.SecondFamily.{second-ahead}

module _ (resolver : ResolverValue (List OutcomeValue)) (limits : PoolLimits) (seed : List ℕ) where
  abbrev Resolver : Type 0
  Resolver = ResolverValue (List OutcomeValue)

  module _ (events : List NetworkEvent) (s : NetworkValue) (k : Kept resolver limits seed events s) (after : NetworkValue)
      (action : Option NetworkAction) where
    abbrev NextKept : Type 0
    NextKept = Kept resolver limits seed (is_stepped action ∷ events) after

    -- ---- a question is asked

    -- with these options, which the resolver keeps
    abbrev own_options : DnsRequestOptions
    own_options = request_options_of s.resolver.options

    options-stay : own_options ≡ options resolver limits seed
    options-stay = ap (λ (r : Resolver). request_options_of r.options) k.after_is

    abbrev asking : Query → PoolEvent
    asking q = is_asked 0 q own_options no_dnssec 0

    new-asked : (q : Query) (b : Asker) → after.pool ≡ after_event s.pool (asking q) → pool_says q s ≡ asked.Asker b
        → IsAskedFor resolver limits seed after.pool (question_for resolver limits seed q) b
    new-asked q b pool_is says =
        let known = known-runs resolver.options limits seed k.past s.pool k.runs in
        let it = asks-it s.pool 0 q own_options no_dnssec 0 known b says in
        record {
          list = it.list;
          asked = question_for resolver limits seed q;
          same = equal-self (question_for resolver limits seed q);
          own =
              subst (λ (x : PoolState). IsOwn (it.list, question_for resolver limits seed q) b.transaction x) (sym pool_is)
              (subst (λ (o : DnsRequestOptions). IsOwn (it.list, question_of q o no_dnssec) b.transaction (after_event s.pool (asking q))) options-stay it.own);
        }

    asked-too : (n : ℕ) (w : WaitingCallValue) (b : Asker)
        → IsAskedFor resolver limits seed after.pool (question_with (options resolver limits seed) w) b
        → PutsUnder n (Some (Asked w b)) s.table.lookups after.table.lookups
        → ((q : PoolQuestion) (a : Asker) → IsAskedFor resolver limits seed s.pool q a → IsAskedFor resolver limits seed after.pool q a)
        → AreAskedFor resolver limits seed after.pool after.table.lookups
    asked-too n w b new puts moves m v a there = by (nat_eq n m) (sym (puts m) ∙ there)
      where
        by : (c : Bool) → cond c (Some (Asked w b)) (value_at m s.table.lookups) ≡ Some (Asked v a)
            → IsAskedFor resolver limits seed after.pool (question_with (options resolver limits seed) v) a
        by true e =
            let call : w ≡ v = cc in
            let asker : b ≡ a = cc in
            subst (λ (x : Asker). IsAskedFor resolver limits seed after.pool (question_with (options resolver limits seed) v) x) asker
            (subst (λ (x : WaitingCallValue). IsAskedFor resolver limits seed after.pool (question_with (options resolver limits seed) x) b) call new)
        by false e = moves (question_with (options resolver limits seed) v) a (k.asked m v a e)

    -- nobody is told
    told-none : (past : List Happening) → s.telling ≡ None → after.telling ≡ s.telling
        → IsTelling resolver limits seed past after.table after.telling
    told-none past none stays =
        subst (λ (t : Option TellingValue). IsTelling resolver limits seed past after.table t) (sym (stays ∙ none)) tt

    -- a look-up that waits to ask waits for an asker
    waits-for : (p : PoolMoves resolver limits seed [] k.past s.pool after.pool) (n : ℕ) (w : WaitingCallValue) (b : Asker)
        → s.telling ≡ None → after.telling ≡ s.telling → value_at n s.table.lookups ≡ Some (Asks w)
        → after.resolver ≡ s.resolver → PutsUnder n (Some (Asked w b)) s.table.lookups after.table.lookups
        → PlacesLess resolver limits seed (p.later ++ k.past) s.table.ahead after.table.ahead
        → IsAskedFor resolver limits seed after.pool (question_with (options resolver limits seed) w) b
        → NextKept
    waits-for p n w b none stays there same puts places new =
        let d = none-done resolver limits seed events s k after (is_stepped action) (p.later ++ k.past) (silent resolver limits seed events s k after action) same
        (as-put n (Some (Asked w b)) k.calls s.table.lookups after.table.lookups puts (waits-there resolver limits seed events s k after n (Asks w) there) k.as_calls)
        (ends-put-undone [] n (Some (Asked w b)) s.table.lookups after.table.lookups
        (λ found c e. let clash : Some (Asked w b) ≡ Some (Done found c) = e in absurd cc) puts) in
        keeps resolver limits seed events s k after (is_stepped action) p refl d (asked-too n w b new puts p.asked)
        (ahead-on resolver limits seed events s k after p places)
        (second-on resolver limits seed events s k after (is_stepped action) (p.later ++ k.past) d places)
        (told-none (p.later ++ k.past) none stays)

    asks-pool : (n : ℕ) (w : WaitingCallValue) → s.telling ≡ None → value_at n s.table.lookups ≡ Some (Asks w)
        → AsksPool w n s after → NextKept
    asks-pool n w none there a = by (pool_says (whole_query w.lookup.hop.query) s) refl a.answered
      where
        p : PoolMoves resolver limits seed [] k.past s.pool after.pool
        p = pool-takes resolver limits seed events s k after (asking (whole_query w.lookup.hop.query)) a.pool_is

        from : (said : pool_asked.Asked) → pool_says (whole_query w.lookup.hop.query) s ≡ said → (outcome : OutcomeValue)
            → IsToldOfRefusal said outcome → (v : WaitingCallValue) → call_at s.table.lookups n ≡ Some v
            → IsFromPool (first resolver limits seed) (p.later ++ k.past) (question_with (options resolver limits seed) v) outcome
        from said says outcome told v is =
            let call : call_at s.table.lookups n ≡ Some w = ap (λ (h : Option NetworkLookup). option_and_then call_of h) there in
            let one : Some w ≡ Some v = sym call ∙ is in
            let own : w ≡ v = cc in
            subst (λ (x : WaitingCallValue). IsFromPool (first resolver limits seed) (p.later ++ k.past) (question_with (options resolver limits seed) x) outcome) own
            (inr (record {
              later = [];
              earlier = k.past;
              before = s.pool;
              query = whole_query w.lookup.hop.query;
              options = own_options;
              now = 0;
              happened = refl;
              same =
                  subst (λ (o : DnsRequestOptions). question_eq (question_of (whole_query w.lookup.hop.query) o no_dnssec) (question_of (whole_query w.lookup.hop.query) own_options no_dnssec) ≡ true) options-stay
                  (equal-self (question_of (whole_query w.lookup.hop.query) own_options no_dnssec));
              told = subst (λ (a : pool_asked.Asked). IsToldOfRefusal a outcome) (sym says) told;
            }))

        refused : (said : pool_asked.Asked) → pool_says (whole_query w.lookup.hop.query) s ≡ said → (outcome : OutcomeValue)
            → IsToldOfRefusal said outcome
            → GoesOnAt outcome n s.resolver (first_asked s.table) after.resolver after.table
            → NextKept
        refused said says outcome told goes =
            let went = gone-on-at resolver limits seed events s k after action (p.later ++ k.past) n outcome (first_asked s.table) refl (own-places resolver limits seed events s k after (p.later ++ k.past)) (from said says outcome told) goes in
            keeps-telling resolver limits seed events s k after (is_stepped action) p refl went.played went.less a.telling_stays

        by : (said : pool_asked.Asked) → pool_says (whole_query w.lookup.hop.query) s ≡ said
            → IsAnswered said w n s.resolver s.table after.resolver after.table → NextKept
        by (asked.Asker b) says (same, waits) =
            waits-for p n w b none a.telling_stays there same waits.puts
            (places-same resolver limits seed (p.later ++ k.past) s.table.ahead after.table.ahead
            (ap (λ (t : TableValue). t.ahead) waits.others_are))
            (new-asked (whole_query w.lookup.hop.query) b a.pool_is says)
        by asked.Overloaded says r = refused asked.Overloaded says r.outcome r.told r.goes_on
        by asked.NoServers says r = refused asked.NoServers says r.outcome r.told r.goes_on

    -- ---- its question was asked ahead

    -- which is equal to that of the look-up
    same-question : (w : WaitingCallValue) (q : Query) → query_eq (whole_query w.lookup.hop.query) q ≡ true
        → question_eq (question_with (options resolver limits seed) w) (question_for resolver limits seed q) ≡ true
    same-question w q same = equal-questions (whole_query w.lookup.hop.query) q (options resolver limits seed) same

    emptied-less : (past : List Happening) (n : ℕ) (found : Ahead) (mid : TableValue) → ahead_at n s.table ≡ Some found
        → ChangesAhead n emptied s.table mid → PlacesLess resolver limits seed past s.table.ahead mid.ahead
    emptied-less past n found mid there c =
        places-less resolver limits seed past n (Some Nothing) s.table.ahead mid.ahead tt
        (subst (λ (x : Option Ahead). PutsUnder n (option_map emptied x) s.table.ahead mid.ahead) there c.puts)

    takes-over : (n : ℕ) (w : WaitingCallValue) (q : SecondQuestion) (b : Asker) → s.telling ≡ None
        → value_at n s.table.lookups ≡ Some (Asks w)
        → IsFoundAhead (whole_query w.lookup.hop.query) (ahead_at n s.table) (Waits q b) → TakesOver w b n s after
        → NextKept
    takes-over n w q b none there f h =
        let p = pool-stays resolver limits seed events s k after (ap (λ (x : NetworkValue). x.pool) h.others_stay) in
        let is = ahead-grows resolver limits seed events s k after p (Waits q b) (k.ahead n (Waits q b) f.there) in
        let lookups : h.mid.lookups ≡ s.table.lookups = ap (λ (t : TableValue). t.lookups) h.empties.others_stay in
        let places : after.table.ahead ≡ h.mid.ahead = ap (λ (t : TableValue). t.ahead) h.waits.others_are in
        waits-for p n w b none (ap (λ (x : NetworkValue). x.telling) h.others_stay) there
        (ap (λ (x : NetworkValue). x.resolver) h.others_stay)
        (subst (λ (l : Lookups). PutsUnder n (Some (Asked w b)) l after.table.lookups) lookups h.waits.puts)
        (subst (λ (l : Places). PlacesLess resolver limits seed k.past s.table.ahead l) (sym places)
        (emptied-less k.past n (Waits q b) h.mid f.there h.empties))
        (record {
          list = is.list;
          asked = is.asked;
          same = equal-then (question_with (options resolver limits seed) w) (question_for resolver limits seed q.query) is.asked (same-question w q.query f.same) is.same;
          own = is.own;
        })

    uses-told : (n : ℕ) (w : WaitingCallValue) (q : Query) (outcome : OutcomeValue)
        → value_at n s.table.lookups ≡ Some (Asks w)
        → IsFoundAhead (whole_query w.lookup.hop.query) (ahead_at n s.table) (Told q outcome) → UsesTold outcome n s after
        → NextKept
    uses-told n w q outcome there f h =
        let p = pool-stays resolver limits seed events s k after (ap (λ (x : NetworkValue). x.pool) h.others_stay) in
        let call : call_at s.table.lookups n ≡ Some w = ap (λ (x : Option NetworkLookup). option_and_then call_of x) there in
        let from = from-equal (first resolver limits seed) k.past (question_with (options resolver limits seed) w) (question_for resolver limits seed q) outcome (same-question w q f.same) (k.ahead n (Told q outcome) f.there) in
        let went = gone-on-at resolver limits seed events s k after action k.past n outcome (first_asked h.mid) (ap (λ (t : TableValue). t.lookups) h.empties.others_stay)
        (emptied-less k.past n (Told q outcome) h.mid f.there h.empties)
        (λ v is.
        let one : Some w ≡ Some v = sym call ∙ is in
        let own : w ≡ v = cc in
        subst (λ (x : WaitingCallValue). IsFromPool (first resolver limits seed) k.past (question_with (options resolver limits seed) x) outcome) own from)
        h.goes_on in
        keeps-telling resolver limits seed events s k after (is_stepped action) p refl went.played went.less (ap (λ (x : NetworkValue). x.telling) h.others_stay)

    asks-own : (n : ℕ) (w : WaitingCallValue) → s.telling ≡ None → value_at n s.table.lookups ≡ Some (Asks w)
        → AsksOwn w n s after → NextKept
    asks-own n w none there h = by (ahead_of (whole_query w.lookup.hop.query) (ahead_at n s.table)) refl h
      where
        by : (found : Ahead) → ahead_of (whole_query w.lookup.hop.query) (ahead_at n s.table) ≡ found
            → AsksBy found w n s after → NextKept
        by Nothing e h = asks-pool n w none there h
        by (Waits q b) e h =
            takes-over n w q b none there
            (found-ahead (whole_query w.lookup.hop.query) (ahead_at n s.table) (Waits q b) e (λ clash. absurd cc)) h
        by (Told q outcome) e h =
            uses-told n w q outcome there
            (found-ahead (whole_query w.lookup.hop.query) (ahead_at n s.table) (Told q outcome) e (λ clash. absurd cc)) h

    -- ---- a question is asked ahead

    ahead-too : (past : List Happening) (n : ℕ) (place : Option Ahead)
        → ((x : Ahead) → place ≡ Some x → IsAhead resolver limits seed past after.pool x)
        → PutsUnder n place s.table.ahead after.table.ahead
        → ((x : Ahead) → IsAhead resolver limits seed k.past s.pool x → IsAhead resolver limits seed past after.pool x)
        → AreAhead resolver limits seed past after.pool after.table.ahead
    ahead-too past n place new puts grows m x there = by (nat_eq n m) (sym (puts m) ∙ there)
      where
        by : (c : Bool) → cond c place (value_at m s.table.ahead) ≡ Some x → IsAhead resolver limits seed past after.pool x
        by true e = new x e
        by false e = grows x (k.ahead m x e)

    asks-ahead : (n : ℕ) → s.telling ≡ None → (q : SecondQuestion) → IsSecond resolver limits seed q (k.calls n)
        → AsksAhead n q s after → NextKept
    asks-ahead n none q second h = by (pool_says q.query s) refl h.asked
      where
        p : PoolMoves resolver limits seed [] k.past s.pool after.pool
        p = pool-takes resolver limits seed events s k after (asking q.query) h.pool_is

        kept : after.table.lookups ≡ s.table.lookups
            → AreAhead resolver limits seed (p.later ++ k.past) after.pool after.table.ahead
            → AreSecond resolver limits seed k.calls after.table.ahead → NextKept
        kept lookups ahead second =
            keeps resolver limits seed events s k after (is_stepped action) p refl
            (none-done resolver limits seed events s k after (is_stepped action) (p.later ++ k.past) (silent resolver limits seed events s k after action) (ap (λ (x : NetworkValue). x.resolver) h.others_stay)
            (as-stay resolver limits seed events s k after lookups)
            (ends-same [] s.table.lookups after.table.lookups lookups))
            (asked-on resolver limits seed events s k after p (lookups-same s.table.lookups after.table.lookups lookups)) ahead second
            (told-none (p.later ++ k.past) none (ap (λ (x : NetworkValue). x.telling) h.others_stay))

        stays : after.table ≡ first_asked s.table → NextKept
        stays same =
            kept (ap (λ (t : TableValue). t.lookups) same)
            (ahead-on resolver limits seed events s k after p
            (places-same resolver limits seed (p.later ++ k.past) s.table.ahead after.table.ahead (ap (λ (t : TableValue). t.ahead) same)))
            (subst (λ (l : Places). AreSecond resolver limits seed k.calls l) (sym (ap (λ (t : TableValue). t.ahead) same)) k.second)

        -- it is of the second family of its look-up
        second-too : (b : Asker) → PutsUnder n (option_map (λ nothing. Waits q b) (ahead_at n s.table)) s.table.ahead after.table.ahead
            → AreSecond resolver limits seed k.calls after.table.ahead
        second-too b puts m x a there = by (nat_eq n m) refl (sym (puts m) ∙ there)
          where
            own : (place : Option Ahead) → option_map (λ nothing. Waits q b) place ≡ Some (Waits x a)
                → IsSecond resolver limits seed x (k.calls n)
            own None e = let clash : None ≡ Some (Waits x a) = e in absurd cc
            own (Some y) e =
                let same : q ≡ x = cc in
                subst (λ (z : SecondQuestion). IsSecond resolver limits seed z (k.calls n)) same second

            by : (c : Bool) → nat_eq n m ≡ c
                → cond c (option_map (λ nothing. Waits q b) (ahead_at n s.table)) (value_at m s.table.ahead) ≡ Some (Waits x a)
                → IsSecond resolver limits seed x (k.calls m)
            by true is e =
                let same : n ≡ m = grind (arith, nat_tests) in
                subst (λ (i : ℕ). IsSecond resolver limits seed x (k.calls i)) same (own (ahead_at n s.table) e)
            by false is e = k.second m x a e

        new : (b : Asker) → pool_says q.query s ≡ asked.Asker b → (place : Option Ahead) (x : Ahead)
            → option_map (λ nothing. Waits q b) place ≡ Some x → IsAhead resolver limits seed (p.later ++ k.past) after.pool x
        new b says None x e = let clash : None ≡ Some x = e in absurd cc
        new b says (Some y) x e =
            let same : Waits q b ≡ x = cc in
            subst (λ (z : Ahead). IsAhead resolver limits seed (p.later ++ k.past) after.pool z) same (new-asked q.query b h.pool_is says)

        by : (said : pool_asked.Asked) → pool_says q.query s ≡ said → IsAskedAhead said q n s.table after.table
            → NextKept
        by (asked.Asker b) says c =
            kept (ap (λ (t : TableValue). t.lookups) c.others_stay)
            (ahead-too (p.later ++ k.past) n (option_map (λ nothing. Waits q b) (ahead_at n s.table))
            (new b says (ahead_at n s.table)) c.puts (ahead-grows resolver limits seed events s k after p))
            (second-too b c.puts)
        by asked.Overloaded says same = stays same
        by asked.NoServers says same = stays same

    -- where a look-up of it alone would ask it
    asks-second : (n : ℕ) → s.telling ≡ None → (q : SecondQuestion) → IsSecond resolver limits seed q (k.calls n)
        → AsksSecond n s after q → NextKept
    asks-second n none q second h = by h.asks h.goes_on
      where
        by : (asks : Bool) → AsksIf asks n q s after → NextKept
        by true h = asks-ahead n none q second h
        by false same = passed resolver limits seed events s k after action (first_asked s.table) refl refl same

    -- one that may be asked ahead is of the second family
    is-second : (n : ℕ) (q : SecondQuestion)
        → question_ahead s.resolver (value_at n s.table.lookups) (ahead_at n s.table) ≡ Some q
        → IsSecond resolver limits seed q (k.calls n)
    is-second n q e =
        second-ahead (before_it resolver limits seed events s k after) (k.calls n) (k.since n) (value_at n s.table.lookups) (ahead_at n s.table) q (k.as_calls n)
        (subst (λ (r : Resolver). question_ahead r (value_at n s.table.lookups) (ahead_at n s.table) ≡ Some q) k.after_is e)

    asks-other : (n : ℕ) (held : Option NetworkLookup) → value_at n s.table.lookups ≡ held → s.telling ≡ None
        → AsksOther held n s after → NextKept
    asks-other n held there none h = by (question_ahead s.resolver held (ahead_at n s.table)) refl h
      where
        by : (q : Option SecondQuestion) → question_ahead s.resolver held (ahead_at n s.table) ≡ q
            → MatchOption q (after ≡ record s { table = first_asked s.table }) (AsksSecond n s after) → NextKept
        by None is same = passed resolver limits seed events s k after action (first_asked s.table) refl refl same
        by (Some q) is h =
            asks-second n none q
            (is-second n q (ap (λ (x : Option NetworkLookup). question_ahead s.resolver x (ahead_at n s.table)) there ∙ is)) h

    pub asks : (n : ℕ) → s.telling ≡ None → (held : Option NetworkLookup) → value_at n s.table.lookups ≡ held
        → AsksAs held n s after → NextKept
    asks n none None there h = asks-other n None there none h
    asks n none (Some (Asks w)) there a = asks-own n w none there a
    asks n none (Some (Asked w a)) there h = asks-other n (Some (Asked w a)) there none h
    asks n none (Some (Done found b)) there h = asks-other n (Some (Done found b)) there none h
