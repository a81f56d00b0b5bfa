-- Each request that was told to wait is replied to once, in its turn.
use Rattle.std.proofs.Common.{◌≡◌, ◌∙◌, ℕ, Bool, true, false, not, List, [], ◌∷◌, ◌++◌, length, drop, refl, sym, ap, subst}
use Rattle.std.specs.Prelude.{Option, Some, filter, if◌then◌else◌}
use Rattle.std.specs.List.{AllByRecursion}
use Rattle.std.proofs.lemmas.Bool.{eqb-true}
use Rattle.std.proofs.lemmas.List.{append-nil, append_assoc}
use Rattle.std.proofs.lemmas.List.Elements.{filter-append}
use Rattle.hickory_resolver_pool.specs.Pool.{PoolState}
use Rattle.second_chance_cache.specs.declared.bounds.CacheBounds.{CacheBounds}
use Rattle.client_requests.specs.Keys.{key_eq, key_of}
use Rattle.client_requests.specs.Requests.{RequestValue}
use Rattle.yimarotu_forwarder.specs.Fetches.{fetch_in, is_of_client, without_client}
use Rattle.yimarotu_forwarder.specs.Forwarders.{ForwarderValue, ReplyingValue, new_forwarder, second_of}
use Rattle.yimarotu_forwarder.specs.Local.{LocalValue}
use Rattle.yimarotu_forwarder.specs.Options.{OptionsValue}
use Rattle.yimarotu_forwarder.specs.declared.steps.ForwarderAction.TheVariants as act
use Rattle.yimarotu_forwarder_theorems.specs.Replies.{EachIsRepliedToOnce, EachReplyIsToItsRequest, IsNotGoneBy, QuestionsHaveQueues, RepliesToFirst, is_under, of_client, queue_after, queue_in, replied_in, replied_to, told_to_wait, under, untold_under, waited_in}
use Rattle.yimarotu_forwarder_theorems.specs.ReplyOctets.{IsOwnReply}
use Rattle.yimarotu_forwarder_theorems.specs.Runs.{ForwarderEvent, Happening, Runs, at_first, client_is_gone, happened, next}
use Rattle.yimarotu_forwarder_theorems.proofs.Cores.{Core, Leaves, core, waiting_for}
use Rattle.yimarotu_forwarder_theorems.proofs.Events.{EventMoves, Says, event_goes, event_joins, event_leaves, event_options, event_stays, moves}
use Rattle.yimarotu_forwarder_theorems.proofs.Keys.{own-key, same-key}
use Rattle.yimarotu_forwarder_theorems.proofs.Octets.{told-end-own}
use Rattle.yimarotu_forwarder_theorems.proofs.Stepping.{StepMoves, step_replies, step_stays, steps}
use Rattle.yimarotu_forwarder_theorems.proofs.Waiting.{gone-waits, join-waits, leave-waits, stills-wait, waiting}

abbrev Requests : Type 0
Requests = List RequestValue

-- ---- who waits for a question asked it

abbrev AllUnder : List ℕ → Requests → Type 0
AllUnder key ws = AllByRecursion (λ w. is_under key w ≡ true) ws

all-under : (key : List ℕ) (ws : Requests) → AllUnder key (under key ws)
all-under key [] = tt
all-under key (w ∷ ws) = by (is_under key w) refl (all-under key ws)
  where
    by : (b : Bool) → is_under key w ≡ b → AllUnder key (under key ws)
        → AllUnder key (if b then w ∷ under key ws else under key ws)
    by true is rest = (is, rest)
    by false is rest = rest

all-behind : (key : List ℕ) (front back : Requests) → AllUnder key (front ++ back) → AllUnder key back
all-behind key [] back all = all
all-behind key (w ∷ front) back all = all-behind key front back all.1

all-and : (key : List ℕ) (front back : Requests) → AllUnder key front → AllUnder key back → AllUnder key (front ++ back)
all-and key [] back all more = more
all-and key (w ∷ front) back all more = (all.0, all-and key front back all.1 more)

all-filtered : (key : List ℕ) (test : RequestValue → Bool) (ws : Requests) → AllUnder key ws
    → AllUnder key (filter test ws)
all-filtered key test [] all = tt
all-filtered key test (w ∷ ws) all = by (test w) (all-filtered key test ws all.1)
  where
    by : (b : Bool) → AllUnder key (filter test ws)
        → AllUnder key (if b then w ∷ filter test ws else filter test ws)
    by true rest = (all.0, rest)
    by false rest = rest

abbrev pub AreOwn : ForwarderValue → Type 0
AreOwn s = (key : List ℕ) → AllUnder key (waiting key (core s))

-- who is replied to is the first
pub first-waits : (s : ForwarderValue) (w : RequestValue) (d : Core) (l : Leaves w (core s) d)
    → waiting l.replying.key (core s) ≡ w ∷ (l.others ++ waiting_for (fetch_in l.replying.key s.fetches.fetches))
first-waits s w d l =
    let key = l.replying.key in
    let rest = waiting_for (fetch_in key s.fetches.fetches) in
    ap (λ (r : Option ReplyingValue). untold_under key r ++ rest) l.was
    ∙ ap (λ (b : Bool). (if b then l.replying.waiting else []) ++ rest) (own-key key)
    ∙ ap (λ (ws : Requests). ws ++ rest) l.first

-- and waited under his own key
pub first-own : (s : ForwarderValue) (w : RequestValue) (d : Core) → AreOwn s → (l : Leaves w (core s) d)
    → key_of w ≡ l.replying.key
first-own s w d are l =
    let key = l.replying.key in
    let rest = waiting_for (fetch_in key s.fetches.fetches) in
    let all : AllUnder key (w ∷ (l.others ++ rest)) = subst (AllUnder key) (first-waits s w d l) (are key) in
    sym (same-key key (key_of w) all.0)

own-after : (event : ForwarderEvent) (b a : ForwarderValue) → EventMoves event b a → AreOwn b → AreOwn a
own-after event b a (event_stays says still) are key =
    subst (AllUnder key) (sym (stills-wait key (core b) (core a) still)) (are key)
own-after event b a (event_joins w says j) are key =
    subst (AllUnder key) (sym (join-waits key w (core b) (core a) j))
    (all-and key (waiting key (core b)) (under key (w ∷ [])) (are key) (all-under key (w ∷ [])))
own-after event b a (event_leaves w says l) are key =
    all-behind key (under key (w ∷ [])) (waiting key (core a))
    (subst (AllUnder key) (sym (leave-waits key w (core b) (core a) l (first-own b w (core a) are l))) (are key))
own-after event b a (event_goes client is e) are key =
    subst (AllUnder key) (sym (ap (waiting key) e ∙ gone-waits key client (core b)))
    (all-filtered key (λ w. not (is_of_client client w)) (waiting key (core b)) (are key))
own-after event b a (event_options options is says e) are key =
    subst (AllUnder key) (sym (ap (waiting key) e)) (are key)

-- ---- queues

behind : (xs ys : Requests) → drop (length xs) (xs ++ ys) ≡ ys
behind [] ys = refl
behind (x ∷ xs) ys = behind xs ys

-- what an event makes of a queue
made : (key : List ℕ) (event : ForwarderEvent) (b : ForwarderValue) (told replied queue : Requests)
    → Says event b told replied
    → queue_after key event b queue ≡ drop (length (under key replied)) queue ++ under key told
made key event b told replied queue says =
    ap (λ (ws : Requests). drop (length (under key (replied_to event b))) ws ++ under key (told_to_wait event))
    (says.none_gone queue)
    ∙ ap (λ (ws : Requests). drop (length (under key ws)) queue ++ under key (told_to_wait event)) says.replied_is
    ∙ ap (λ (ws : Requests). drop (length (under key replied)) queue ++ under key ws) says.told_is

queue-goes : (key : List ℕ) (event : ForwarderEvent) (b : ForwarderValue) (client : ℕ) (queue : Requests)
    → event ≡ client_is_gone client → queue_after key event b queue ≡ without_client client queue
queue-goes key event b client queue is =
    ap (λ (e : ForwarderEvent). queue_after key e b queue) is ∙ append-nil (without_client client queue)

queue-next : (key : List ℕ) (event : ForwarderEvent) (b a : ForwarderValue) → AreOwn b → EventMoves event b a
    → waiting key (core a) ≡ queue_after key event b (waiting key (core b))
queue-next key event b a are (event_stays says still) =
    stills-wait key (core b) (core a) still
    ∙ sym (made key event b [] [] (waiting key (core b)) says ∙ append-nil (waiting key (core b)))
queue-next key event b a are (event_joins w says j) =
    join-waits key w (core b) (core a) j ∙ sym (made key event b (w ∷ []) [] (waiting key (core b)) says)
queue-next key event b a are (event_leaves w says l) =
    let were = leave-waits key w (core b) (core a) l (first-own b w (core a) are l) in
    sym (made key event b [] (w ∷ []) (waiting key (core b)) says
    ∙ append-nil (drop (length (under key (w ∷ []))) (waiting key (core b)))
    ∙ ap (drop (length (under key (w ∷ [])))) (sym were) ∙ behind (under key (w ∷ [])) (waiting key (core a)))
queue-next key event b a are (event_goes client is e) =
    ap (waiting key) e ∙ gone-waits key client (core b)
    ∙ sym (queue-goes key event b client (waiting key (core b)) is)
queue-next key event b a are (event_options options is says e) =
    ap (waiting key) e
    ∙ sym (made key event b [] [] (waiting key (core b)) says ∙ append-nil (waiting key (core b)))

-- ---- a client that is not gone

abbrev Of : ℕ → Requests → Requests
Of client ws = of_client client ws

of-and : (client : ℕ) (xs ys : Requests) → Of client (xs ++ ys) ≡ Of client xs ++ Of client ys
of-and client xs ys = filter-append (is_of_client client) xs ys

others-stay : (client other : ℕ) (ws : Requests) → (other ≡ client → ⊥)
    → Of client (without_client other ws) ≡ Of client ws
others-stay client other [] apart = refl
others-stay client other (w ∷ ws) apart =
    by (is_of_client other w) (is_of_client client w) refl refl (others-stay client other ws apart)
  where
    by : (gone own : Bool) → is_of_client other w ≡ gone → is_of_client client w ≡ own
        → Of client (without_client other ws) ≡ Of client ws
        → Of client (if not gone then w ∷ without_client other ws else without_client other ws)
        ≡ (if own then w ∷ Of client ws else Of client ws)
    by true true is same more =
        absurd (apart (sym (eqb-true w.client.number other is) ∙ eqb-true w.client.number client same))
    by true false is same more = more
    by false true is same more =
        ap (λ (b : Bool).
        if b then w ∷ Of client (without_client other ws) else Of client (without_client other ws)) same
        ∙ ap (λ (l : Requests). w ∷ l) more
    by false false is same more =
        ap (λ (b : Bool).
        if b then w ∷ Of client (without_client other ws) else Of client (without_client other ws)) same
        ∙ more

-- what waited and came are what left and what waits
even : (key : List ℕ) (event : ForwarderEvent) (b a : ForwarderValue) → AreOwn b
    → (told replied : Requests) → Says event b told replied
    → waiting key (core b) ++ under key told ≡ under key replied ++ waiting key (core a)
    → waiting key (core b) ++ under key (told_to_wait event) ≡ under key (replied_to event b) ++ waiting key (core a)
even key event b a are told replied says h =
    ap (λ (ws : Requests). waiting key (core b) ++ under key ws) says.told_is ∙ h
    ∙ sym (ap (λ (ws : Requests). under key ws ++ waiting key (core a)) says.replied_is)

abbrev Balances : ℕ → List ℕ → ForwarderEvent → ForwarderValue → ForwarderValue → Type 0
Balances client key event b a =
    Of client (waiting key (core b)) ++ Of client (under key (told_to_wait event))
    ≡ Of client (under key (replied_to event b)) ++ Of client (waiting key (core a))

of-even : (client : ℕ) (key : List ℕ) (event : ForwarderEvent) (b a : ForwarderValue)
    → waiting key (core b) ++ under key (told_to_wait event) ≡ under key (replied_to event b) ++ waiting key (core a)
    → Balances client key event b a
of-even client key event b a h =
    sym (of-and client (waiting key (core b)) (under key (told_to_wait event))) ∙ ap (Of client) h
    ∙ of-and client (under key (replied_to event b)) (waiting key (core a))

balances : (client : ℕ) (key : List ℕ) (event : ForwarderEvent) (b a : ForwarderValue) → AreOwn b
    → IsNotGoneBy client (happened event b a) → EventMoves event b a → Balances client key event b a
balances client key event b a are there (event_stays says still) =
    of-even client key event b a (even key event b a are [] [] says
    (append-nil (waiting key (core b)) ∙ sym (stills-wait key (core b) (core a) still)))
balances client key event b a are there (event_joins w says j) =
    of-even client key event b a (even key event b a are (w ∷ []) [] says
    (sym (join-waits key w (core b) (core a) j)))
balances client key event b a are there (event_leaves w says l) =
    of-even client key event b a (even key event b a are [] (w ∷ []) says
    (append-nil (waiting key (core b))
    ∙ sym (leave-waits key w (core b) (core a) l (first-own b w (core a) are l))))
balances client key event b a are there (event_goes other is e) =
    let other-than : other ≡ client → ⊥ =
    subst (λ (x : ForwarderEvent). IsNotGoneBy client (happened x b a)) is there in
    ap (λ (x : ForwarderEvent). Of client (waiting key (core b)) ++ Of client (under key (told_to_wait x))) is
    ∙ append-nil (Of client (waiting key (core b)))
    ∙ sym (ap (Of client) (ap (waiting key) e ∙ gone-waits key other (core b))
    ∙ others-stay client other (waiting key (core b)) other-than)
    ∙ sym (ap (λ (x : ForwarderEvent).
    Of client (under key (replied_to x b)) ++ Of client (waiting key (core a))) is)
balances client key event b a are there (event_options options is says e) =
    of-even client key event b a (even key event b a are [] [] says
    (append-nil (waiting key (core b)) ∙ sym (ap (waiting key) e)))

abbrev AreWaiting : ℕ → List ℕ → List Happening → ForwarderValue → Type 0
AreWaiting client key past s =
    Of client (under key (waited_in past)) ≡ Of client (under key (replied_in past)) ++ Of client (waiting key (core s))

both-of : (client : ℕ) (key : List ℕ) (xs ys : Requests)
    → Of client (under key (xs ++ ys)) ≡ Of client (under key xs) ++ Of client (under key ys)
both-of client key xs ys =
    ap (Of client) (filter-append (is_under key) xs ys) ∙ of-and client (under key xs) (under key ys)

one-more : (client : ℕ) (key : List ℕ) (past : List Happening) (event : ForwarderEvent) (b a : ForwarderValue)
    → AreWaiting client key past b → Balances client key event b a
    → AreWaiting client key (happened event b a ∷ past) a
one-more client key past event b a are h =
    both-of client key (waited_in past) (told_to_wait event)
    ∙ ap (λ (ws : Requests). ws ++ Of client (under key (told_to_wait event))) are
    ∙ append_assoc (Of client (under key (replied_in past))) (Of client (waiting key (core b)))
    (Of client (under key (told_to_wait event)))
    ∙ ap (λ (ws : Requests). Of client (under key (replied_in past)) ++ ws) h
    ∙ sym (append_assoc (Of client (under key (replied_in past))) (Of client (under key (replied_to event b)))
    (Of client (waiting key (core a))))
    ∙ ap (λ (ws : Requests). ws ++ Of client (waiting key (core a)))
    (sym (both-of client key (replied_in past) (replied_to event b)))

-- ---- over whole runs

module _ (options : OptionsValue) (local : LocalValue) (cache failures : CacheBounds) (pool : PoolState) where
  pub are-own : (past : List Happening) (s : ForwarderValue)
      → Runs (new_forwarder options local cache failures pool) past s → AreOwn s
  are-own past s at_first = λ key. tt
  are-own past s (next earlier event before after happens runs) =
      own-after event before after (moves event before after happens) (are-own earlier before runs)

  in-queues : (key : List ℕ) (past : List Happening) (s : ForwarderValue)
      → Runs (new_forwarder options local cache failures pool) past s → waiting key (core s) ≡ queue_in key past
  in-queues key past s at_first = refl
  in-queues key past s (next earlier event before after happens runs) =
      queue-next key event before after (are-own earlier before runs) (moves event before after happens)
      ∙ ap (queue_after key event before) (in-queues key earlier before runs)

  are-waiting : (client : ℕ) (key : List ℕ) (past : List Happening) (s : ForwarderValue)
      → Runs (new_forwarder options local cache failures pool) past s → AllByRecursion (IsNotGoneBy client) past
      → AreWaiting client key past s
  are-waiting client key past s at_first there = refl
  are-waiting client key past s (next earlier event before after happens runs) there =
      one-more client key earlier event before after (are-waiting client key earlier before runs there.1)
      (balances client key event before after (are-own earlier before runs) there.0
      (moves event before after happens))

pub questions_have_queues : QuestionsHaveQueues
questions_have_queues options local cache failures pool past s runs key =
    in-queues options local cache failures pool key past s runs

pub each_is_replied_to_once : EachIsRepliedToOnce
each_is_replied_to_once options local cache failures pool past s runs client there key =
    are-waiting options local cache failures pool client key past s runs there

-- ---- a reply

same-client : (client other : ℕ) → Some (act.Reply client) ≡ Some (act.Reply other) → client ≡ other
same-client client other h = cc

to-first : (s after : ForwarderValue) (client : ℕ) → AreOwn s
    → StepMoves s after (Some (act.Reply client)) → RepliesToFirst s client after
to-first s after client are (step_stays none still) = absurd (none tt)
to-first s after client are (step_replies w l does reply) =
    let own = first-own s w (core after) are l in
    let key = key_of w in
    let own-again : key_eq key l.replying.key ≡ true = ap (key_eq key) (sym own) ∙ own-key key in
    let rest = waiting_for (fetch_in key s.fetches.fetches) in
    record {
      request = w;
      others = l.others ++ rest;
      came = l.replying;
      is_first =
          ap (λ (r : Option ReplyingValue). untold_under key r ++ rest) l.was
          ∙ ap (λ (b : Bool). (if b then l.replying.waiting else []) ++ rest) own-again
          ∙ ap (λ (ws : Requests). ws ++ rest) l.first;
      client_is = same-client client w.client.number does;
      looked_up = l.was;
      same_key = sym own;
      reply_is = reply;
      own =
          subst (IsOwnReply w) (sym reply)
          (told-end-own s.cache w l.replying.key s.options (second_of s) l.replying.end);
      others_wait =
          ap (waiting key) l.others_are ∙ ap (λ (b : Bool). (if b then l.others else []) ++ rest) own-again;
    }

pub each_reply_is_to_its_request : EachReplyIsToItsRequest
each_reply_is_to_its_request options local cache failures pool past s after client runs steps-so =
    to-first s after client (are-own options local cache failures pool past s runs)
    (steps s after (Some (act.Reply client)) steps-so)
