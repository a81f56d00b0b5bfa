-- Who answers the questions that a request attempts, one after another.
use Rattle.std.proofs.Common.{◌≡◌, ℕ, Bool, List, [], ◌∷◌, ◌++◌, sym, subst, append_assoc, append-nil}
use Rattle.hickory_proto_core.specs.declared.query.Query.{Query}
use Rattle.hickory_resolver_model.specs.Cache.{CacheValue}
use Rattle.hickory_resolver_model.specs.Hosts.{Host}
use Rattle.hickory_resolver.specs.Explaining.{AreAnswered, IsAnsweredBy}
use Rattle.hickory_resolver.specs.declared.explaining.Attempted.{Attempted}

-- what is answered of these questions goes on to what is answered of all
abbrev pub SoFar : ℕ → List Host → CacheValue → List (Query × Bool) → List (Query × Bool) → List Attempted → Type 0
SoFar now hosts cache all left attempted =
    (rest : List Attempted) → AreAnswered now hosts cache left rest
    → AreAnswered now hosts cache all (attempted ++ rest)

module _ (now : ℕ) (hosts : List Host) (cache : CacheValue) (all : List (Query × Bool)) where
  pub one_more : (q : Query × Bool) (left : List (Query × Bool)) (attempted : List Attempted) (a : Attempted)
      → SoFar now hosts cache all (q ∷ left) attempted → a.question ≡ q.0 → IsAnsweredBy now hosts cache q a.answerer
      → SoFar now hosts cache all left (attempted ++ a ∷ [])
  one_more q left attempted a goes is by rest are =
      subst (AreAnswered now hosts cache all) (sym (append_assoc attempted (a ∷ []) rest)) (goes (a ∷ rest) (is, by, are))

  pub all_answered : (attempted : List Attempted) → SoFar now hosts cache all [] attempted
      → AreAnswered now hosts cache all attempted
  all_answered attempted goes = subst (AreAnswered now hosts cache all) (append-nil attempted) (goes [] tt)
