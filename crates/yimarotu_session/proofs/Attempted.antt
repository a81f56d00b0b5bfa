-- What a look-up of a name would attempt, as it is told, is what a clear of the name drops.
use Rattle.std.proofs.Common.{◌≡◌, ◌∙◌, ◌≢◌, ◌⊎◌, ◌||◌, ℕ, Bool, false, List, [], ◌∷◌, Result, Ok, Err, refl, sym, ap, ap₂, inl, inr}
use Rattle.std.specs.List.{flat_map, list_any}
use Rattle.hickory_proto_core.specs.Name.{NameValue}
use Rattle.hickory_proto_core.specs.NameGiven.{IsReadName}
use Rattle.hickory_proto_core.specs.Query.{query_eq}
use Rattle.hickory_proto_core.specs.codes.record_type.RecordType.{RecordType}
use Rattle.hickory_proto_core.specs.declared.query.Query.{Query}
use Rattle.hickory_proto_core.specs.names.name_error.NameError.{NameError}
use Rattle.hickory_proto_core.specs.names.name_error.NameError.TheVariants as name_fault
use Rattle.hickory_resolver.specs.Explaining.{AreAnswered, Explains, ExplainsCall, name_questions, names_questions}
use Rattle.hickory_resolver.specs.declared.explaining.Attempted.{Attempted}
use Rattle.hickory_resolver_model.specs.Attempts.{attempts}
use Rattle.hickory_resolver_model.specs.Cache.{CacheValue}
use Rattle.hickory_resolver_model.specs.Calls.{One}
use Rattle.hickory_resolver_model.specs.Hosts.{Host}
use Rattle.hickory_resolver_model.specs.Lookup.{question_of}
use Rattle.hickory_resolver_model.specs.Resolver.{after_clear_lookup, settings}
use Rattle.hickory_resolver_model.specs.Run.{Lookup, Settings, name_call}
use Rattle.yimarotu_session.specs.Ahead.{Resolver}
use Rattle.yimarotu_session.specs.LookupTables.{TableValue, without_told}
use Rattle.yimarotu_session.specs.NetworkSessions.{NetworkValue, is_attempted, name_cleared}

-- whether a question is one of these
abbrev pub is_among : List Attempted → Query → Bool
is_among list q = list_any (λ a. query_eq a.question q) list

module _ (now : ℕ) (hosts : List Host) (cache : CacheValue) (t : RecordType) (q : Query) where
  abbrev is_of : NameValue → Bool
  is_of name = query_eq (question_of name t) q

  among-others : (names : List NameValue) (list : List Attempted)
      → AreAnswered now hosts cache (flat_map (name_questions (One t) false) names) list
      → is_among list q ≡ list_any is_of names
  among-others [] [] none = refl
  among-others [] (a ∷ list) never = absurd never
  among-others (name ∷ names) [] never = absurd never
  among-others (name ∷ names) (a ∷ list) (is, answered, rest) =
      ap₂ (λ (p : Query) (b : Bool). query_eq p q || b) is (among-others names list rest)

  -- the table of hosts is asked for the first name
  among-all : (names : List NameValue) (list : List Attempted)
      → AreAnswered now hosts cache (names_questions (One t) false names) list → is_among list q ≡ list_any is_of names
  among-all [] [] none = refl
  among-all [] (a ∷ list) never = absurd never
  among-all (name ∷ names) [] never = absurd never
  among-all (name ∷ names) (a ∷ list) (is, answered, rest) =
      ap₂ (λ (p : Query) (b : Bool). query_eq p q || b) is (among-others names list rest)

module _ (s : Settings) (cache : CacheValue) (text : List ℕ) (t : RecordType) (list : List Attempted)
    (given : Result NameValue NameError) where
  attempted-by : (name : Result NameValue NameError) → ExplainsCall s cache 0 (name_call t name) list → (q : Query)
      → is_among list q ≡ is_attempted s t name q
  attempted-by (Ok name) answered q = among-all 0 s.hosts cache t q (attempts s.search name) list answered
  attempted-by (Err fault) none q = ap (λ (l : List Attempted). is_among l q) none

  pub attempted-are : Explains s cache (Lookup text t 0) list → IsReadName text given
      → given ≢ Err name_fault.OutOfMemory → (q : Query) → is_among list q ≡ is_attempted s t given q
  attempted-are (name, reads, some, explains) gives live q =
      attempted-by name explains q ∙ ap (λ (n : Result NameValue NameError). is_attempted s t n q) (same-as _ reads.computed gives.computed)
    where
      same-as : (read : Result NameValue NameError) → (name ≡ read) ⊎ (name ≡ Err name_fault.OutOfMemory)
          → (given ≡ read) ⊎ (given ≡ Err name_fault.OutOfMemory) → name ≡ given
      same-as read (inl is) (inl was) = is ∙ sym was
      same-as read (inl is) (inr out) = absurd (live out)
      same-as read (inr out) gave = absurd (some out)

-- so it is let go with what the cache has
pub clears-name : (text : List ℕ) (t : RecordType) (list : List Attempted) (given : Result NameValue NameError)
    (before : NetworkValue) (resolver : Resolver) (table : TableValue)
    → Explains (settings before.resolver) before.resolver.client.cache (Lookup text t 0) list → IsReadName text given
    → given ≢ Err name_fault.OutOfMemory → resolver ≡ after_clear_lookup t given before.resolver
    → table ≡ without_told (is_among list) before.table
    → record before { resolver = resolver; table = table } ≡ name_cleared t given before
clears-name text t list given before resolver table explains gives live cleared told =
    let same = attempted-are (settings before.resolver) before.resolver.client.cache text t list given explains gives live in
    let let_go : table ≡ without_told (is_attempted (settings before.resolver) t given) before.table = told ∙ (λ i. without_told (λ q. same q i) before.table) in
    λ i. record before { resolver = cleared i; table = let_go i }
