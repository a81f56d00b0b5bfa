-- What a judge keeps, from line to line.
use Rattle.std.proofs.Common.{◌≡◌, ◌+◌, ◌≤◌, ℕ, Bool, true, false, ◌&&◌, ◌||◌, filter, max, ◌<◌, nat_le, List, [], ◌∷◌, ◌++◌, get_or, length, map, take, unwrap_or, refl, ap, subst, sym, ◌∙◌, arith}
use Rattle.std.specs.List.{list_any}
use Rattle.std.proofs.lemmas.Bool.Decides.{nat_tests}
use Rattle.std.proofs.lemmas.Grind.{common_steps}
use Rattle.hickory_proto_core.specs.Name.{NameValue}
use Rattle.hickory_proto_core.specs.Query.{query_eq}
use Rattle.hickory_proto_core.specs.Records.{RecordValue}
use Rattle.hickory_proto_core.specs.codes.dns_class.DNSClass.{DNSClass}
use Rattle.hickory_proto_core.specs.declared.query.Query.{Query}
use Rattle.trace_judge.specs.Asks.{answers, asks, is_ask_from}
use Rattle.trace_judge.specs.Denials.{covers, covers_until, denial_deadline, denials}
use Rattle.trace_judge.specs.Forgetting.{latest, oldest}
use Rattle.trace_judge.specs.Index.{DeniedValue, Forgets, ForgetsDenials, ForgetsGaps, ForgetsMoments, GapsSee, GapsStand, GapsValue, SeesAs, Stands, any_late, chains_in, denied_at, is_late, is_reaching, is_since, latest_at, reaches, seen_at}
use Rattle.trace_judge.specs.Judging.{DeniesAs, JudgeValue, Keeps, NotesAs, evidence_of, index_of}
use Rattle.trace_judge.specs.Options.{OptionsValue}
use Rattle.trace_judge.specs.Receptions.{deadline, is_same_record, reception_at, receptions}
use Rattle.trace_judge.specs.RecordKeys.{KeyValue, record_key}
use Rattle.trace_judge.specs.Trace.{milliseconds_of}
use Rattle.trace_judge.specs.declared.asks.Ask.{Ask}
use Rattle.trace_judge.specs.declared.denials.Denial.{Denial}
use Rattle.trace_judge.specs.declared.denials.Denied.{Denied}
use Rattle.trace_judge.specs.declared.event.Event.{Event}
use Rattle.trace_judge.specs.declared.event.Moment.{Moment}
use Rattle.trace_judge.specs.declared.receptions.Reception.{Reception}
use Rattle.trace_judge.proofs.Denying.{denied-alike}
use Rattle.trace_judge.proofs.Owning.{chains_kept}
use Rattle.trace_judge.proofs.Tests.{any-filter, any-push, any_same}

-- ---- what is not forgotten

seen_kept : (b : Bool) (before until ttl : ℕ) (r : Reception)
    → (nat_le before (deadline r) && (b && (nat_le until (deadline r) && nat_le ttl r.found.ttl)))
    ≡ (b && (nat_le (max until before) (deadline r) && nat_le ttl r.found.ttl))
seen_kept true before until ttl r = grind (arith, nat_tests)
seen_kept false before until ttl r = none (nat_le before (deadline r)) where
  none : (b : Bool) → (b && false) ≡ false
  none true = refl
  none false = refl

moment_kept : (b : Bool) (before since n : ℕ) → (nat_le before n && (b && nat_le since n)) ≡ (b && nat_le (max since before) n)
moment_kept true before since n = grind (arith, nat_tests)
moment_kept false before since n = none (nat_le before n) where
  none : (b : Bool) → (b && false) ≡ false
  none true = refl
  none false = refl

later_max : (a b : ℕ) → b ≤ max a b
later_max a b = omega arith

pub seen-stands : (before : ℕ) (seen : List (KeyValue × List Reception)) (rs : List Reception) → SeesAs before seen rs
    → (told : RecordValue) (until ttl : ℕ)
    → reaches told until ttl (filter (λ r. nat_le before (deadline r)) rs) ≡ reaches told (max until before) ttl (seen_at seen (record_key told))
seen-stands before seen rs sees told until ttl =
    any-filter (λ r. nat_le before (deadline r)) (is_reaching told until ttl) rs
    ∙ any_same (λ r. nat_le before (deadline r) && is_reaching told until ttl r) (is_reaching told (max until before) ttl) rs
    (λ r. seen_kept (is_same_record r.found told) before until ttl r)
    ∙ sym (sees told (max until before) ttl (later_max until before))

pub late_kept : (before from : ℕ) (makes : RecordValue → Bool) (rs : List Reception)
    → any_late (max from before) makes rs ≡ any_late from makes (filter (λ r. nat_le before (deadline r)) rs)
late_kept before from makes rs =
    any_same (is_late (max from before) makes) (λ r. nat_le before (deadline r) && is_late from makes r) rs
    (λ r. sym (moment_kept (makes r.found) before from (deadline r)))
    ∙ sym (any-filter (λ r. nat_le before (deadline r)) (is_late from makes) rs)

pub gaps-stand : (before : ℕ) (gaps : GapsValue) (rs : List Reception) → GapsSee before gaps rs
    → GapsStand before gaps (filter (λ r. nat_le before (deadline r)) rs)
gaps-stand before gaps rs sees = record {
  nsec_are = λ makes from respects typed.
      sees.nsec_are makes (max from before) respects typed (later_max from before) ∙ late_kept before from makes rs;
  nsec3_are = λ makes from respects typed.
      sees.nsec3_are makes (max from before) respects typed (later_max from before) ∙ late_kept before from makes rs;
  chains_are = λ told until ttl. ap (reaches told until ttl) (chains_kept before rs)
      ∙ seen-stands before gaps.chains (chains_in rs) sees.chains_are told until ttl;
}

pub notes-stand : (before : ℕ) (moments : List (Query × ℕ)) (among : List Ask) → NotesAs before moments among
    → (q : Query) (since : ℕ)
    → list_any (is_ask_from q since) (filter (λ a. nat_le before (milliseconds_of a.moment)) among)
    ≡ is_since (max since before) (latest_at moments q)
notes-stand before moments among notes q since =
    any-filter (λ a. nat_le before (milliseconds_of a.moment)) (is_ask_from q since) among
    ∙ any_same (λ a. nat_le before (milliseconds_of a.moment) && is_ask_from q since a) (is_ask_from q (max since before)) among
    (λ a. moment_kept (query_eq q a.query) before since (milliseconds_of a.moment))
    ∙ sym (notes q (max since before) (later_max since before))

pub denials-stand : (before : ℕ) (index : DeniedValue) (ds : List Denial) → DeniesAs before index ds
    → (class : DNSClass) (name : NameValue) (denied : Denied) (until : ℕ)
    → list_any (covers_until class name denied until) (filter (λ d. nat_le before (denial_deadline d)) ds)
    ≡ is_since (max until before) (denied_at index class name denied)
denials-stand before index ds denies class name denied until =
    any-filter (λ d. nat_le before (denial_deadline d)) (covers_until class name denied until) ds
    ∙ any_same (λ d. nat_le before (denial_deadline d) && covers_until class name denied until d) (covers_until class name denied (max until before)) ds
    (λ d. moment_kept (covers class name denied d) before until (denial_deadline d))
    ∙ sym (denied-alike before index ds denies class name denied (max until before) (later_max until before))

-- ---- as time goes on

pub sees-later : (a b : ℕ) (seen : List (KeyValue × List Reception)) (rs : List Reception) → a ≤ b → SeesAs a seen rs → SeesAs b seen rs
sees-later a b seen rs below sees = λ told until ttl k. sees told until ttl (omega arith)

pub gaps-later : (a b : ℕ) (gaps : GapsValue) (rs : List Reception) → a ≤ b → GapsSee a gaps rs → GapsSee b gaps rs
gaps-later a b gaps rs below sees = record {
  nsec_are = λ makes from respects typed k. sees.nsec_are makes from respects typed (omega arith);
  nsec3_are = λ makes from respects typed k. sees.nsec3_are makes from respects typed (omega arith);
  chains_are = sees-later a b gaps.chains (chains_in rs) below sees.chains_are;
}

pub notes-later : (a b : ℕ) (moments : List (Query × ℕ)) (among : List Ask) → a ≤ b → NotesAs a moments among → NotesAs b moments among
notes-later a b moments among below notes = λ q since k. notes q since (omega arith)

pub denies-later : (a b : ℕ) (index : DeniedValue) (ds : List Denial) → a ≤ b → DeniesAs a index ds → DeniesAs b index ds
denies-later a b index ds below denies = record {
  types_are = λ key until k. denies.types_are key until (omega arith);
  names_are = λ key until k. denies.names_are key until (omega arith);
}

pub oldest-later : (slack a b : ℕ) → oldest slack a ≤ oldest slack (max a b)
oldest-later slack a b = omega arith

-- ---- one more

pub sees-push : (before : ℕ) (was is : List (KeyValue × List Reception)) (rs : List Reception) (new : Reception) → SeesAs before was rs
    → ((told : RecordValue) (until ttl : ℕ) → reaches told until ttl (seen_at is (record_key told))
    ≡ (reaches told until ttl (seen_at was (record_key told)) || is_reaching told until ttl new))
    → SeesAs before is (rs ++ new ∷ [])
sees-push before was is rs new sees adds = λ told until ttl k.
    adds told until ttl ∙ ap (λ b. b || is_reaching told until ttl new) (sees told until ttl k)
    ∙ sym (any-push (is_reaching told until ttl) rs new)

pub notes-push : (before : ℕ) (was is : List (Query × ℕ)) (among : List Ask) (new : Ask) → NotesAs before was among
    → ((p : Query) (since : ℕ) → is_since since (latest_at is p)
    ≡ (is_since since (latest_at was p) || (query_eq p new.query && nat_le since (milliseconds_of new.moment))))
    → NotesAs before is (among ++ new ∷ [])
notes-push before was is among new notes adds = λ q since k.
    adds q since ∙ ap (λ b. b || is_ask_from q since new) (notes q since k)
    ∙ sym (any-push (is_ask_from q since) among new)

-- ---- less

pub sees-forgetting : (before : ℕ) (was is : List (KeyValue × List Reception)) (rs : List Reception) → Forgets before was is → SeesAs before was rs → SeesAs before is rs
sees-forgetting before was is rs forgets sees = λ told until ttl k. forgets told until ttl k ∙ sees told until ttl k

pub gaps-forgetting : (before : ℕ) (was is : GapsValue) (rs : List Reception) → ForgetsGaps before was is → GapsSee before was rs
    → GapsSee before is rs
gaps-forgetting before was is rs forgets sees = record {
  nsec_are = λ makes from respects typed k. forgets.nsec_are makes from k ∙ sees.nsec_are makes from respects typed k;
  nsec3_are = λ makes from respects typed k. forgets.nsec3_are makes from k ∙ sees.nsec3_are makes from respects typed k;
  chains_are = sees-forgetting before was.chains is.chains (chains_in rs) forgets.chains_are sees.chains_are;
}

pub notes-forgetting : (before : ℕ) (was is : List (Query × ℕ)) (among : List Ask) → ForgetsMoments before was is → NotesAs before was among → NotesAs before is among
notes-forgetting before was is among forgets notes = λ q since k. forgets q since k ∙ notes q since k

pub denies-forgetting : (before : ℕ) (was is : DeniedValue) (ds : List Denial) → ForgetsDenials before was is → DeniesAs before was ds → DeniesAs before is ds
denies-forgetting before was is ds forgets denies = record {
  types_are = λ key until k. forgets.0 key until k ∙ denies.types_are key until k;
  names_are = λ key until k. forgets.1 key until k ∙ denies.names_are key until k;
}

-- ---- a telling

pub stands-kept : (options : OptionsValue) (past : List Event) (judge : JudgeValue) (now : Moment) (before : ℕ) → Keeps options past judge
    → before ≡ oldest options.slack (max (latest past) (milliseconds_of now))
    → Stands (evidence_of options past now) (index_of judge now before)
stands-kept options past judge now before kept is =
    let from = oldest options.slack (max (latest past) (milliseconds_of now)) in
    let later : oldest options.slack (latest past) ≤ from = oldest-later options.slack (latest past) (milliseconds_of now) in record {
      slack_is = ap (λ o. o.slack) kept.options_are;
      local_is = ap (λ o. o.local) kept.options_are;
      own_is = ap (λ o. o.own) kept.options_are;
      dns64_is = ap (λ o. o.dns64) kept.options_are;
      start_is = ap (λ o. unwrap_or o now) kept.start_is;
      seen_are = λ told until ttl. seen-stands from judge.seen (receptions past)
          (sees-later (oldest options.slack (latest past)) from judge.seen (receptions past) later kept.seen_are) told until ttl
          ∙ ap (λ n. reaches told (max until n) ttl (seen_at judge.seen (record_key told))) (sym is);
      gaps_are = subst (λ n. GapsStand n judge.gaps (filter (λ r. nat_le from (deadline r)) (receptions past))) (sym is)
          (gaps-stand from judge.gaps (receptions past)
          (gaps-later (oldest options.slack (latest past)) from judge.gaps (receptions past) later kept.gaps_are));
      asked_are = λ q since. notes-stand from judge.asked (asks past)
          (notes-later (oldest options.slack (latest past)) from judge.asked (asks past) later kept.asked_are) q since
          ∙ ap (λ n. is_since (max since n) (latest_at judge.asked q)) (sym is);
      answered_are = λ q since. notes-stand from judge.answered (answers past)
          (notes-later (oldest options.slack (latest past)) from judge.answered (answers past) later kept.answered_are) q since
          ∙ ap (λ n. is_since (max since n) (latest_at judge.answered q)) (sym is);
      denied_are = λ class name denied until. denials-stand from judge.denied (denials past)
          (denies-later (oldest options.slack (latest past)) from judge.denied (denials past) later kept.denied_are) class name denied until
          ∙ ap (λ n. is_since (max until n) (denied_at judge.denied class name denied)) (sym is);
    }

-- ---- a section

pub map_more : (moment : Moment) (before : List Reception) (rs : List RecordValue) (i : ℕ) (r : RecordValue) → i < length rs
    → r ≡ get_or rs i r
    → (before ++ map (reception_at moment) (take i rs)) ++ reception_at moment r ∷ [] ≡ before ++ map (reception_at moment) (take (i + 1) rs)
map_more moment before rs i r below is = grind (arith, common_steps)
