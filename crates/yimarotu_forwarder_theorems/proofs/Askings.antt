-- For which questions askers were given, and of what they are told.
use Rattle.std.proofs.Common.{◌≡◌, ◌∙◌, ◌==◌, ◌&&◌, ℕ, Bool, true, false, List, [], ◌∷◌, ◌++◌, eqb, eqb-true, eq-eqb, true≢false, refl, sym, ap, subst}
use Rattle.std.specs.Prelude.{None, Some, if◌then◌else◌, ◌||◌}
use Rattle.std.specs.Bool.{beq}
use Rattle.std.specs.List.{AllByRecursion}
use Rattle.std.specs.Option.{is_some}
use Rattle.std.proofs.lemmas.Bool.{and_parts}
use Rattle.hickory_proto_core.specs.Query.{query_eq}
use Rattle.hickory_proto_core.specs.declared.query.Query.{Query}
use Rattle.hickory_resolver_askers.specs.declared.asker.Asker.{Asker}
use Rattle.hickory_resolver_config.specs.ResolverConfig.{OptionsValue as PoolOptions}
use Rattle.hickory_resolver_pool.specs.Laws.{PoolEvent, channel_fails, group_has, is_asked, is_forgotten, octets_come, time_passes}
use Rattle.hickory_resolver_pool.specs.Over.{OverValue}
use Rattle.hickory_resolver_pool.specs.Pool.{PoolState, asking_told, list_of, no_servers}
use Rattle.hickory_resolver_pool.specs.Pool as in_pool
use Rattle.hickory_resolver_pool.specs.declared.limits.PoolLimits.{PoolLimits}
use Rattle.hickory_resolver_pool.specs.declared.pool.Action.TheVariants as does
use Rattle.hickory_resolver_pool_theorems.proofs.OverOnce.{over_once}
use Rattle.hickory_resolver_pool_theorems.proofs.Tellings.{heard-runs, who_asks_is_told}
use Rattle.hickory_resolver_pool_theorems.specs.Runs.{Happening, Runs, came, did}
use Rattle.hickory_resolver_pool_theorems.specs.Tellings.{AsksEqual, IsNoneOf, IsOverOnce, WasNotOver, asking_in, number_of}
use Rattle.hickory_resolver_tries.specs.Question.{is_dnssec_ok, payload_or_zero, question_eq, question_of}
use Rattle.hickory_resolver_tries.specs.declared.pool_question.PoolQuestion.{PoolQuestion}
use Rattle.yimarotu_forwarder.specs.Fetches.{FetchValue}
use Rattle.yimarotu_forwarder_theorems.specs.Questions.{IsFor}
use Rattle.yimarotu_forwarder_theorems.proofs.AskerLists.{IsIn, in-all, in-first, in-last}
use Rattle.yimarotu_forwarder_theorems.proofs.Parts.{Asks, IsKept}

-- ---- an asker was given

-- It is one of a transaction, and was given to one who asked this, with DO or without, as all did who were given one.
pub record IsAsking (past : List Happening) (number : ℕ) (q : Query) (dnssec : Bool) : Type 0 where
  pub question : PoolQuestion
  pub query_is : question.query ≡ q
  pub with_do : is_dnssec_ok question.opt ≡ dnssec
  pub transaction : ℕ
  pub given : IsIn number (asking_in transaction past)
  pub equal : (list : ℕ) (other : PoolQuestion) → AllByRecursion (AsksEqual transaction list other) past
      → question_eq question other ≡ true

-- the event by which it is given
abbrev pub event-of : (f : FetchValue) (number : ℕ) (before after : PoolState) → Asks f number before after → PoolEvent
event-of f number before after asks = is_asked asks.group f.lookup.next asks.options asks.dnssec asks.now

do-sent : (edns ok : Bool) (payload : ℕ)
    → is_dnssec_ok (if edns || ok then Some (record { payload = payload; dnssec_ok = ok }) else None) ≡ ok
do-sent true ok payload = refl
do-sent false true payload = refl
do-sent false false payload = refl

pub given-now : (past : List Happening) (f : FetchValue) (number : ℕ) (before after : PoolState)
    (asks : Asks f number before after)
    → IsAsking (came before (event-of f number before after asks) ∷ past) number f.lookup.next f.lookup.dnssec
given-now past f number before after asks = record {
  question = question_of f.lookup.next asks.options asks.dnssec;
  query_is = refl;
  with_do = do-sent asks.options.use_edns asks.dnssec.dnssec_ok asks.options.edns_payload_len ∙ asks.with_do;
  transaction = asks.asker.transaction;
  given = subst (λ (l : List ℕ). IsIn number (asking_in asks.asker.transaction past ++ l)) (sym numbers)
      (in-last number (asking_in asks.asker.transaction past));
  equal = λ list other all. (all.0 asks.asker asks.given refl).1;
}
  where
    n : ℕ
    n = asks.asker.transaction

    numbers : number_of n
        (asking_told (list_of asks.group before.traffic) (question_of f.lookup.next asks.options asks.dnssec) before)
        ≡ number ∷ []
    numbers =
        ap (number_of n) asks.given
        ∙ ap (λ (b : Bool). if b then asks.asker.number ∷ [] else []) (eq-eqb n n refl)
        ∙ ap (λ (m : ℕ). m ∷ []) asks.number_is

-- what happens forgets no asker
abbrev pub KeepsAskers : Happening → Type 0
KeepsAskers (came s e) = IsKept e
KeepsAskers (did s r) = Unit {0}

in-later : (number n : ℕ) (h : Happening) (past : List Happening) → KeepsAskers h → IsIn number (asking_in n past)
    → IsIn number (asking_in n (h ∷ past))
in-later number n (did s r) past kept here = here
in-later number n (came s (time_passes now)) past kept here = here
in-later number n (came s (group_has group servers)) past kept here = here
in-later number n (came s (is_asked group query options dnssec now)) past kept here =
    in-first number (asking_in n past)
    (number_of n (asking_told (list_of group s.traffic) (question_of query options dnssec) s)) here
in-later number n (came s (octets_come channel octets now)) past kept here = here
in-later number n (came s (channel_fails f now)) past kept here = here
in-later number n (came s (is_forgotten a)) past kept here = absurd kept

pub asking-later : (h : Happening) (past : List Happening) (number : ℕ) (q : Query) (dnssec : Bool) → KeepsAskers h
    → IsAsking past number q dnssec → IsAsking (h ∷ past) number q dnssec
asking-later h past number q dnssec kept x = record {
  question = x.question;
  query_is = x.query_is;
  with_do = x.with_do;
  transaction = x.transaction;
  given = in-later number x.transaction h past kept x.given;
  equal = λ list other all. x.equal list other all.1;
}

-- ---- a transaction is over

-- Those who are told it were given askers of it, all who were asked its question, and none is given one any more.
pub record IsOver (past : List Happening) (o : OverValue) : Type 0 where
  pub among : (number : ℕ) → IsIn number o.askers → IsIn number (asking_in o.transaction past)
  pub list : ℕ
  pub asked : AllByRecursion (AsksEqual o.transaction list o.question) past
  pub closed : (a : Asker) → AllByRecursion (WasNotOver a) past → o.transaction ≡ a.transaction → ⊥

pub over-later : (s : PoolState) (e : PoolEvent) (past : List Happening) (o : OverValue) → IsKept e
    → IsOverOnce past s → IsOver past o → IsOver (came s e ∷ past) o
over-later s e past o kept once x = record {
  among = λ number here. in-later number o.transaction (came s e) past kept (x.among number here);
  list = x.list;
  asked = (one e, x.asked);
  closed = λ a all. x.closed a all.1;
}
  where
    one : (e' : PoolEvent) → AsksEqual o.transaction x.list o.question (came s e')
    one (time_passes now) = tt
    one (group_has group servers) = tt
    one (is_asked group query options dnssec now) =
        λ a says same.
        absurd (x.closed a (once.given (list_of group s.traffic) (question_of query options dnssec) a says) (sym same))
    one (octets_come channel octets now) = tt
    one (channel_fails f now) = tt
    one (is_forgotten a) = tt

-- the parts of a question that are compared
alike : (a b c d e f g : Bool) → (a && b && c && d && e && f && g) ≡ true → (a ≡ true) × (g ≡ true)
alike a b c d e f g h =
    let six = and_parts (a && b && c && d && e && f) g h in
    let five = and_parts (a && b && c && d && e) f six.0 in
    let four = and_parts (a && b && c && d) e five.0 in
    let three = and_parts (a && b && c) d four.0 in
    let two = and_parts (a && b) c three.0 in (
      (and_parts a b two.0).0,
      six.1,
    )

same-bits : (a b : Bool) → beq a b ≡ true → a ≡ b
same-bits true true h = refl
same-bits true false h = absurd (true≢false (sym h))
same-bits false true h = absurd (true≢false (sym h))
same-bits false false h = refl

is-for : (p o : PoolQuestion) (q : Query) (dnssec : Bool) → p.query ≡ q → is_dnssec_ok p.opt ≡ dnssec
    → question_eq p o ≡ true → IsFor o q dnssec
is-for p o q dnssec query_is with_do same =
    let parts =
    alike (query_eq p.query o.query) (beq p.recursion_desired o.recursion_desired)
    (beq p.checking_disabled o.checking_disabled) (beq p.authentic_data o.authentic_data)
    (beq (is_some p.opt) (is_some o.opt)) (payload_or_zero p.opt == payload_or_zero o.opt)
    (beq (is_dnssec_ok p.opt) (is_dnssec_ok o.opt)) same in
    record {
      same = subst (λ (x : Query). query_eq x o.query ≡ true) query_is parts.0;
      with_do = sym (same-bits (is_dnssec_ok p.opt) (is_dnssec_ok o.opt) parts.1) ∙ with_do;
    }

module _ (options : PoolOptions) (limits : PoolLimits) (seed : List ℕ) (past : List Happening) (s : PoolState)
    (runs : Runs (no_servers options limits seed) past s) where
  pub over-now : (after : PoolState) (o : OverValue) → in_pool.Steps s (Some (does.Over o)) after
      → IsOver (did s (Some (does.Over o)) ∷ past) o
  over-now after o steps =
      let told = who_asks_is_told options limits seed past s after o runs steps in
      record {
        among = λ number here. subst (IsIn number) told.told here;
        list = told.list;
        asked = (tt, told.asked);
        closed = λ a all same. all.0.0 same;
      }

  pub once-over : IsOverOnce past s
  once-over = over_once options limits seed past s runs

  -- who is told asked what is told: a number is that of one asker
  pub told-for : (number : ℕ) (q : Query) (dnssec : Bool) (o : OverValue) → IsAsking past number q dnssec
      → IsOver past o → IsIn number o.askers → IsFor o.question q dnssec
  told-for number q dnssec o x over here =
      is-for x.question o.question q dnssec x.query_is x.with_do (by (eqb x.transaction o.transaction) refl)
    where
      apart : (o.transaction ≡ x.transaction → ⊥) → ⊥
      apart other =
          let none = (heard-runs options limits seed past s runs).apart x.transaction o.transaction other in
          let not-there =
          in-all (IsNoneOf (asking_in o.transaction past)) number (asking_in x.transaction past) none x.given in
          in-all (λ (m : ℕ). m ≡ number → ⊥) number (asking_in o.transaction past) not-there (over.among number here)
          refl

      by : (b : Bool) → eqb x.transaction o.transaction ≡ b → question_eq x.question o.question ≡ true
      by true is =
          x.equal over.list o.question
          (subst (λ (n : ℕ). AllByRecursion (AsksEqual n over.list o.question) past)
          (sym (eqb-true x.transaction o.transaction is)) over.asked)
      by false is =
          absurd (apart (λ same. true≢false (sym (eq-eqb x.transaction o.transaction (sym same)) ∙ is)))
