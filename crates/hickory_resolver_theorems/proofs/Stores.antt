-- Stores of fresh records, and of negative answers, leave fresh entries.
use Rattle.std.proofs.Common.{◌≡◌, ◌⊎◌, ◌≤◌, ◌+◌, ◌-◌, ℕ, zero, suc, ◌==◌, Bool, true, false, List, [], ◌∷◌, ◌++◌, length, min, nat_lt, Option, None, Some, Ok, Err, IfSome, not, refl, sym, subst, arith, inl, inr, if◌then◌else◌}
use Rattle.std.specs.List.{AllByRecursion, list_any, position_or_len}
use Rattle.hickory_proto_core.specs.Codes.{type_code}
use Rattle.hickory_proto_core.specs.Errors.{NoRecordsValue}
use Rattle.hickory_proto_core.specs.Handles.{OutcomeValue}
use Rattle.hickory_proto_core.specs.Messages.{MessageValue}
use Rattle.hickory_proto_core.specs.declared.query.Query.{Query}
use Rattle.hickory_proto_core.specs.declared.net_error.NetError.TheVariants.{Message, Timeout, Proto, Dns, NoOutcome, Bounds, OutOfMemory}
use Rattle.hickory_proto_core.specs.declared.net_error.DnsError.TheVariants.{ResponseCode, NoRecordsFound}
use Rattle.hickory_resolver_model.specs.Bounds.{ConfigValue, greatest_ttl}
use Rattle.hickory_resolver_model.specs.Cache.{CacheValue, Entry, is_for, without, without_earliest, least_deadline, kept_beside, insert_entry, entry_weight, is_heavy, has_room, with_room, insert_weighed, insert_within, positive_entry, negative_entry, not_after}
use Rattle.hickory_resolver_model.specs.Hops.{LookupContext, Store, passed_of, limit_of, earlier_store, earlier_stores, entry_of_store, after_store, after_stores}
use Rattle.hickory_resolver_model.specs.Lookup.{LookupResult}
use Rattle.hickory_proto_core.specs.declared.recorded.Exchange.{Exchange}
use Rattle.hickory_proto_core.specs.Records.{RecordValue}
use Rattle.hickory_resolver_theorems.specs.Covered.{Dated, IsCovered, IsLoopback}
use Rattle.hickory_resolver_theorems.specs.Statements.{LeastTtlIsZero, IsFreshRecord, IsFreshOutcome, IsFreshEntry, AreFreshEntries}
use Rattle.hickory_resolver_theorems.proofs.Lists.{all-weaker, all-append, all-filter, all-remove}
use Rattle.hickory_resolver_theorems.proofs.Covers.{Arrives, arrived-fresh, fresh-sooner, covered-left}

-- what holds of every entry, and of a new one, holds after it is put in
pub insert_entry-all : (P : Entry → Type 0) (capacity : ℕ) (es : List Entry) (e : Entry) → AllByRecursion P es → P e → AllByRecursion P (insert_entry capacity es e)
insert_entry-all P capacity es e all new = by (capacity == 0)
  where
    room : (own free : Bool) → AllByRecursion P (if own then without e.query es else (if free then es else without_earliest es))
    room true free = all-filter P (λ x. not (is_for e.query x)) es all
    room false true = all
    room false false = all-remove P es (position_or_len (λ x. x.valid_until == least_deadline es) es) all

    by : (b : Bool) → AllByRecursion P (if b then es else kept_beside capacity e.query es ++ e ∷ [])
    by true = all
    by false = all-append P (kept_beside capacity e.query es) (e ∷ []) (room (list_any (is_for e.query) es) (nat_lt (length es) capacity)) (new, tt)

-- what holds of every entry holds of those that stay where some leave to make room
room-all : (P : Entry → Type 0) (most capacity octets : ℕ) (es : List Entry) → AllByRecursion P es → AllByRecursion P (with_room most capacity octets es)
unfolding with_room
room-all P zero capacity octets es all = all
room-all P (suc most) capacity octets es all =
    by (has_room capacity octets es) (room-all P most capacity octets (without_earliest es) (all-remove P es (position_or_len (λ x. x.valid_until == least_deadline es) es) all))
  where
    by : (b : Bool) → AllByRecursion P (with_room most capacity octets (without_earliest es)) → AllByRecursion P (if b then es else with_room most capacity octets (without_earliest es))
    by true later = all
    by false later = later

insert_weighed-all : (P : Entry → Type 0) (octets capacity : ℕ) (es : List Entry) (e : Entry) → AllByRecursion P es → P e → AllByRecursion P (insert_weighed octets capacity es e)
insert_weighed-all P octets capacity es e all new = by (capacity == 0) (is_heavy octets e)
  where
    others : List Entry
    others = without e.query es

    stay : AllByRecursion P others
    stay = all-filter P (λ x. not (is_for e.query x)) es all

    room : List Entry
    room = with_room (length others) capacity (octets - entry_weight e) others

    by : (none heavy : Bool) → AllByRecursion P (if none then es else (if heavy then others else (room ++ e ∷ [])))
    by true heavy = all
    by false true = stay
    by false false = all-append P room (e ∷ []) (room-all P (length others) capacity (octets - entry_weight e) others stay) (new, tt)

pub insert_within-all : (P : Entry → Type 0) (octets : Option ℕ) (capacity : ℕ) (es : List Entry) (e : Entry) → AllByRecursion P es → P e → AllByRecursion P (insert_within octets capacity es e)
insert_within-all P None = insert_entry-all P
insert_within-all P (Some octets) = insert_weighed-all P octets

-- the entry that a store makes, where it makes one
abbrev pub Makes : (Entry → Type 0) → ConfigValue → Store → Type 0
Makes P config s =
    ((m : MessageValue) → s.outcome ≡ Ok m → P (not_after s.limit (positive_entry config s.query m s.now)))
    × ((n : NoRecordsValue) → s.outcome ≡ Err (Dns (NoRecordsFound n)) → P (not_after s.limit (negative_entry config s.query n s.now)))

-- what holds of every entry, and of those that stores make, holds after these stores
after_store-all : (P : Entry → Type 0) (s : Store) (cache : CacheValue) → AllByRecursion P cache.entries → Makes P cache.config s → AllByRecursion P (after_store s cache).entries
after_store-all P s cache all makes = by s.outcome makes.0 makes.1
  where
    by : (o : OutcomeValue) → ((m : MessageValue) → o ≡ Ok m → P (not_after s.limit (positive_entry cache.config s.query m s.now))) → ((n : NoRecordsValue) → o ≡ Err (Dns (NoRecordsFound n)) → P (not_after s.limit (negative_entry cache.config s.query n s.now)))
        → AllByRecursion P (after_store (record s { outcome = o }) cache).entries
    by (Ok m) positive negative = insert_within-all P cache.octets cache.capacity cache.entries (not_after s.limit (positive_entry cache.config s.query m s.now)) all (positive m refl)
    by (Err (Dns (NoRecordsFound n))) positive negative = insert_within-all P cache.octets cache.capacity cache.entries (not_after s.limit (negative_entry cache.config s.query n s.now)) all (negative n refl)
    by (Err (Dns (ResponseCode code))) positive negative = all
    by (Err (Message text)) positive negative = all
    by (Err Timeout) positive negative = all
    by (Err (Proto error)) positive negative = all
    by (Err NoOutcome) positive negative = all
    by (Err (Bounds error)) positive negative = all
    by (Err OutOfMemory) positive negative = all

pub after_stores-all : (P : Entry → Type 0) (stores : List Store) (cache : CacheValue) → AllByRecursion P cache.entries → AllByRecursion (Makes P cache.config) stores → AllByRecursion P (after_stores stores cache).entries
after_stores-all P [] cache all makes = all
after_stores-all P (s ∷ ss) cache all (first, rest) = after_stores-all P ss (after_store s cache) (after_store-all P s cache all first) rest

-- what holds of a result under each earlier question, whatever its limit, holds of the stores of the earlier hops
pub earlier-all : (P : Store → Type 0) (s : LookupContext) (result : LookupResult) (limit : ℕ) (passed : List Exchange) → AllByRecursion (λ x. (own : ℕ) → P (earlier_store result s.now x.query own)) passed → AllByRecursion P (earlier_stores result s.now limit (passed_of s passed))
earlier-all P s result limit [] all = tt
earlier-all P s result limit (x ∷ xs) (first, rest) =
    all-append P (earlier_stores result s.now limit (passed_of s xs)) (earlier_store result s.now x.query (limit_of (passed_of s (x ∷ xs)) limit) ∷ []) (earlier-all P s result limit xs rest) (first (limit_of (passed_of s (x ∷ xs)) limit), tt)

-- stores leave the bounds
pub stores-config : (stores : List Store) (cache : CacheValue) → (after_stores stores cache).config ≡ cache.config
stores-config [] cache = refl
stores-config (s ∷ ss) cache = stores-config ss (after_store s cache)

-- the answers of what is stored arrive, where the least TTL of the type is zero
abbrev pub StoresOutcome : ConfigValue → List Dated → ℕ → Query → OutcomeValue → Type 0
StoresOutcome config sources now q (Ok m) = LeastTtlIsZero config (type_code q.query_type) → AllByRecursion (Arrives config sources (type_code q.query_type) now) m.answers
StoresOutcome config sources now q (Err e) = Unit {0}

abbrev pub StoresArrived : ConfigValue → List Dated → Store → Type 0
StoresArrived config sources s = StoresOutcome config sources s.now s.query s.outcome

pub makes-fresh : (config : ConfigValue) (sources : List Dated) (s : Store) → StoresArrived config sources s → Makes (IsFreshEntry config sources) config s
makes-fresh config sources s arrive = (
  (λ m e zero.
      let life = (positive_entry config s.query m s.now).valid_until in
      fresh-sooner config sources (type_code s.query.query_type) s.now life (min life s.limit) _ (omega arith)
      (arrived-fresh config sources s.query s.now m zero (subst (StoresOutcome config sources s.now s.query) e arrive zero))),
  (λ n e. tt),
)

-- what holds of what a store makes holds of its entry
pub makes-some : (P : Entry → Type 0) (config : ConfigValue) (s : Store) → Makes P config s → IfSome (entry_of_store config s) P
makes-some P config s makes = by s.outcome makes.0 makes.1
  where
    by : (o : OutcomeValue) → ((m : MessageValue) → o ≡ Ok m → P (not_after s.limit (positive_entry config s.query m s.now))) → ((n : NoRecordsValue) → o ≡ Err (Dns (NoRecordsFound n)) → P (not_after s.limit (negative_entry config s.query n s.now)))
        → IfSome (entry_of_store config (record s { outcome = o })) P
    by (Ok m) positive negative = positive m refl
    by (Err (Dns (NoRecordsFound n))) positive negative = negative n refl
    by (Err (Dns (ResponseCode code))) positive negative = tt
    by (Err (Message text)) positive negative = tt
    by (Err Timeout) positive negative = tt
    by (Err (Proto error)) positive negative = tt
    by (Err NoOutcome) positive negative = tt
    by (Err (Bounds error)) positive negative = tt
    by (Err OutOfMemory) positive negative = tt

-- and so is the entry that such a store makes
pub store-fresh : (config : ConfigValue) (sources : List Dated) (s : Store) → StoresArrived config sources s → IfSome (entry_of_store config s) (IsFreshEntry config sources)
store-fresh config sources s arrive = makes-some (IsFreshEntry config sources) config s (makes-fresh config sources s arrive)

-- what holds of the entries before, and of every fresh one, holds of the entries after stores that arrived
pub stores-known : (P : Entry → Type 0) (cache : CacheValue) (sources : List Dated) (stores : List Store) → AllByRecursion P cache.entries → ((e : Entry) → IsFreshEntry cache.config sources e → P e) → AllByRecursion (StoresArrived cache.config sources) stores → AllByRecursion P (after_stores stores cache).entries
stores-known P cache sources stores all known arrived = after_stores-all P stores cache all (all-weaker (StoresArrived cache.config sources) (Makes P cache.config) made stores arrived)
  where
    made : (s : Store) → StoresArrived cache.config sources s → Makes P cache.config s
    made s arrive =
        let fresh = makes-fresh cache.config sources s arrive in
        ((λ m e. known _ (fresh.0 m e)), (λ n e. known _ (fresh.1 n e)))

pub stores-fresh : (cache : CacheValue) (sources : List Dated) (stores : List Store) → AreFreshEntries cache sources → AllByRecursion (StoresArrived cache.config sources) stores → AreFreshEntries (after_stores stores cache) sources
stores-fresh cache sources stores fresh arrived =
    subst (λ c. AllByRecursion (IsFreshEntry c sources) (after_stores stores cache).entries) (sym (stores-config stores cache))
    (stores-known (IsFreshEntry cache.config sources) cache sources stores fresh (λ e h. h) arrived)

-- entries stay fresh with more sources
outcome-more : (config : ConfigValue) (xs ys : List Dated) (e : Entry) (o : OutcomeValue) → IsFreshOutcome config xs e o → IsFreshOutcome config (xs ++ ys) e o
outcome-more config xs ys e (Ok m) fresh = λ zero. all-weaker (IsFreshRecord config xs code e.original_time e.valid_until) (IsFreshRecord config (xs ++ ys) code e.original_time e.valid_until) (λ r h same. more r (h same)) m.answers (fresh zero)
  where
    code : ℕ
    code = type_code e.query.query_type

    more : (r : RecordValue) → IsLoopback r ⊎ (IsCovered config xs e.original_time r × (r.ttl ≤ greatest_ttl config code) × (e.valid_until ≤ e.original_time + r.ttl)) → IsLoopback r ⊎ (IsCovered config (xs ++ ys) e.original_time r × (r.ttl ≤ greatest_ttl config code) × (e.valid_until ≤ e.original_time + r.ttl))
    more r (inl loop) = inl loop
    more r (inr (covered, short, live)) = inr (covered-left config xs ys e.original_time r covered, short, live)
outcome-more config xs ys e (Err error) fresh = tt

pub entries-more : (cache : CacheValue) (xs ys : List Dated) → AreFreshEntries cache xs → AreFreshEntries cache (xs ++ ys)
entries-more cache xs ys fresh = all-weaker (IsFreshEntry cache.config xs) (IsFreshEntry cache.config (xs ++ ys)) (λ e h. outcome-more cache.config xs ys e e.result h) cache.entries fresh
