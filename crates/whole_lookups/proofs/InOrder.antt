-- A whole reply has what is kept of each reply, in order.
use Rattle.std.proofs.Common.{◌≡◌, ℕ, suc, ◌+◌, ◌≤◌, Bool, true, false, cond, List, [], ◌∷◌, ◌++◌, length, min, refl, sym, ◌∙◌, ap, subst, arith, append_assoc}
use Rattle.std.specs.Prelude.{Option, None, Some, nat_lt, unwrap_or}
use Rattle.std.specs.List.{AllByRecursion, flat_map, last_or}
use Rattle.std.specs.Option.{option_map, option_to_list}
use Rattle.std.proofs.lemmas.Bool.{ltb-true}
use Rattle.hickory_proto_core.specs.Records.{RecordValue}
use Rattle.hickory_proto_core.specs.declared.query.Query.{Query}
use Rattle.hickory_proto_wire.specs.declared.wire_message.WireMessage.{WireMessage}
use Rattle.whole_replies.specs.Kept.{KeptValue, joined, kept_of, next_question}
use Rattle.whole_lookups.specs.Lookups.{LookupValue, after, after_of, begun, gone_on, may_go_on, outcome_of, taken, whole_with}
use Rattle.whole_lookups.specs.Laws.{AsksFewQuestions, IsAllInOrder, WholeRepliesAreAllInOrder, after_all, parts_of, told_by, whole_of}
use Rattle.whole_lookups.specs.declared.choices.TheConstants.{MOST_QUESTIONS}
use Rattle.whole_lookups.specs.declared.heard.Heard.TheVariants.{Asks, Whole, Fails}

-- ---- one part more

no-more : (rs : List RecordValue) → rs ++ [] ≡ rs
no-more [] = refl
no-more (r ∷ rs) = ap (λ (l : List RecordValue). r ∷ l) (no-more rs)

answers-push : (parts : List KeptValue) (k : KeptValue)
    → flat_map (λ p. p.answers) (parts ++ k ∷ []) ≡ flat_map (λ p. p.answers) parts ++ k.answers
answers-push [] k = no-more k.answers
answers-push (p ∷ parts) k =
    ap (λ (rs : List RecordValue). p.answers ++ rs) (answers-push parts k)
    ∙ sym (append_assoc p.answers (flat_map (λ p. p.answers) parts) k.answers)

last-push : (before : Option KeptValue) (parts : List KeptValue) (k : KeptValue)
    → last_or before (parts ++ k ∷ []) ≡ Some k
last-push before [] k = refl
last-push before (p ∷ parts) k = last-push (Some p) parts k

seconds-push : (parts : List KeptValue) (k : KeptValue) (n : ℕ)
    → AllByRecursion (λ p. n ≤ p.seconds) parts → AllByRecursion (λ p. min n k.seconds ≤ p.seconds) (parts ++ k ∷ [])
seconds-push [] k n all = (omega arith, tt)
seconds-push (p ∷ parts) k n all = (omega (arith, all.0), seconds-push parts k n all.1)

in-order-one : (k : KeptValue) → IsAllInOrder k (k ∷ [])
in-order-one k = record {
  answers = sym (no-more k.answers);
  code = refl;
  authorities = refl;
  seconds = (omega arith, tt);
}

in-order-joined : (first k : KeptValue) (parts : List KeptValue) → IsAllInOrder first parts
    → IsAllInOrder (joined first k) (parts ++ k ∷ [])
in-order-joined first k parts o = record {
  answers = ap (λ (rs : List RecordValue). rs ++ k.answers) o.answers ∙ sym (answers-push parts k);
  code = ap (λ last. option_map (λ (p : KeptValue). p.code) last) (last-push None parts k);
  authorities = ap (λ last. option_map (λ (p : KeptValue). p.authorities) last) (last-push None parts k);
  seconds = seconds-push parts k first.seconds o.seconds;
}

-- ---- what a look-up has put together

abbrev Holds : Option KeptValue → List KeptValue → Type 0
Holds None parts = parts ≡ []
Holds (Some k) parts = IsAllInOrder k parts

holds-with : (l : LookupValue) (k : KeptValue) (parts : List KeptValue) → Holds l.kept parts
    → IsAllInOrder (whole_with k l) (parts ++ k ∷ [])
holds-with l k parts holds = by l.kept refl holds
  where
    by : (kept : Option KeptValue) → l.kept ≡ kept → Holds kept parts → IsAllInOrder (whole_with k l) (parts ++ k ∷ [])
    by None is none =
        let whole : whole_with k l ≡ k = rw is refl in
        let one : parts ++ k ∷ [] ≡ k ∷ [] = ap (λ (ps : List KeptValue). ps ++ k ∷ []) none in
        rw (whole, one) (in-order-one k)
    by (Some first) is o =
        let whole : whole_with k l ≡ joined first k = rw is refl in
        rw whole (in-order-joined first k parts o)

-- a whole reply is told by the last one
record IsEnded (w k : KeptValue) (ms : List WireMessage) : Type 0 where
  last : ms ≡ []
  same : w ≡ k

ended : (w k : KeptValue) (ms : List WireMessage) (later : Option KeptValue) → told_by (Whole w) ms later ≡ Some k
    → IsEnded w k ms
ended w k [] later h = record { last = refl; same = cc }
ended w k (m ∷ ms) later h = absurd cc

-- ---- all replies

-- so many questions at the most, this one with them
record IsMade (k : KeptValue) (l : LookupValue) (parts : List KeptValue) (ms : List WireMessage) : Type 0 where
  in_order : IsAllInOrder k (parts ++ parts_of l.next l.dnssec ms)
  few : l.count + length ms ≤ MOST_QUESTIONS + 1

abbrev Told : KeptValue → LookupValue → List KeptValue → List WireMessage → Option KeptValue → Option Query → Type 0
Told k l parts ms kept next =
    IsAllInOrder k (parts ++ (option_to_list kept ++ parts_of (unwrap_or next l.next) l.dnssec ms))
    × (l.count + suc (length ms) ≤ MOST_QUESTIONS + 1)

made : (ms : List WireMessage) (l : LookupValue) (parts : List KeptValue) (k : KeptValue) → Holds l.kept parts
    → l.count ≤ MOST_QUESTIONS → whole_of l ms ≡ Some k → IsMade k l parts ms
made [] l parts k holds few h = absurd cc
made (m ∷ ms) l parts k holds few h =
    let by-parts =
    by (kept_of l.next l.dnssec m) (next_question l.next m.message) (λ l' ps holds' few' h'. made ms l' ps k holds' few' h') h in
    record { in_order = by-parts.0; few = by-parts.1 }
  where
    going : (p : KeptValue) (next : Query) (b : Bool) → nat_lt l.count MOST_QUESTIONS ≡ b
        → ((l' : LookupValue) (ps : List KeptValue) → Holds l'.kept ps → l'.count ≤ MOST_QUESTIONS
        → whole_of l' ms ≡ Some k → IsMade k l' ps ms)
        → told_by (cond b Asks Fails) ms (whole_of (cond b (gone_on p next l) l) ms) ≡ Some k
        → Told k l parts ms (Some p) (Some next)
    going p next true room more h =
        let later : IsMade k (gone_on p next l) (parts ++ p ∷ []) ms =
        more (gone_on p next l) (parts ++ p ∷ []) (holds-with l p parts holds)
        (omega (arith, ltb-true l.count MOST_QUESTIONS room)) h in (
          subst (λ (ps : List KeptValue). IsAllInOrder k ps) (append_assoc parts (p ∷ []) (parts_of next l.dnssec ms)) later.in_order,
          omega (arith, later.few),
        )
    going p next false room more h = absurd cc

    by : (kept : Option KeptValue) (next : Option Query)
        → ((l' : LookupValue) (ps : List KeptValue) → Holds l'.kept ps → l'.count ≤ MOST_QUESTIONS
        → whole_of l' ms ≡ Some k → IsMade k l' ps ms)
        → told_by (outcome_of kept next l) ms (whole_of (after_of kept next l) ms) ≡ Some k
        → Told k l parts ms kept next
    by None next more h = absurd cc
    by (Some p) None more h =
        let end = ended (whole_with p l) k ms (whole_of (taken l) ms) h in
        let all : IsAllInOrder k (parts ++ p ∷ []) =
        subst (λ (w : KeptValue). IsAllInOrder w (parts ++ p ∷ [])) end.same (holds-with l p parts holds) in
        subst (λ (rest : List WireMessage).
        IsAllInOrder k (parts ++ (p ∷ [] ++ parts_of l.next l.dnssec rest))
        × (l.count + suc (length rest) ≤ MOST_QUESTIONS + 1)) (sym end.last) (all, omega (arith, few))
    by (Some p) (Some next) more h = going p next (may_go_on l) refl more h

pub whole_replies_are_all_in_order : WholeRepliesAreAllInOrder
whole_replies_are_all_in_order q dnssec replies k h =
    let is = made replies (begun q dnssec) [] k refl (omega arith) h in
    record { in_order = is.in_order; few = omega (arith, is.few) }

-- ---- questions

few-after : (m : WireMessage) (l : LookupValue) → l.count ≤ MOST_QUESTIONS → (after m l).count ≤ MOST_QUESTIONS
few-after m l few = by (kept_of l.next l.dnssec m) (next_question l.next m.message)
  where
    going : (p : KeptValue) (next : Query) (b : Bool) → nat_lt l.count MOST_QUESTIONS ≡ b
        → (cond b (gone_on p next l) l).count ≤ MOST_QUESTIONS
    going p next true room = omega (arith, ltb-true l.count MOST_QUESTIONS room)
    going p next false room = few

    by : (kept : Option KeptValue) (next : Option Query) → (after_of kept next l).count ≤ MOST_QUESTIONS
    by None next = few
    by (Some p) None = few
    by (Some p) (Some next) = going p next (may_go_on l) refl

few-all : (ms : List WireMessage) (l : LookupValue) → l.count ≤ MOST_QUESTIONS → (after_all l ms).count ≤ MOST_QUESTIONS
few-all [] l few = few
few-all (m ∷ ms) l few = few-all ms (after m l) (few-after m l few)

pub asks_few_questions : AsksFewQuestions
asks_few_questions q dnssec replies = few-all replies (begun q dnssec) (omega arith)
