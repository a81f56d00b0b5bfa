-- Who is told that a transaction is over.
use Rattle.std.specs.Prelude.{◌≡◌, ℕ, true, ◌==◌, List, [], ◌∷◌, ◌++◌, Option, Some, if◌then◌else◌}
use Rattle.std.specs.List.{AllByRecursion}
use Rattle.hickory_resolver_askers.specs.Askers.{without}
use Rattle.hickory_resolver_askers.specs.declared.asker.Asker.{Asker}
use Rattle.hickory_resolver_config.specs.ResolverConfig.{OptionsValue}
use Rattle.hickory_resolver_tries.specs.Question.{question_of, question_eq}
use Rattle.hickory_resolver_tries.specs.declared.pool_question.PoolQuestion.{PoolQuestion}
use Rattle.hickory_resolver_pool.specs.Laws.{is_asked, is_forgotten}
use Rattle.hickory_resolver_pool.specs.Over.{OverValue}
use Rattle.hickory_resolver_pool.specs.Pool.{PoolState, no_servers, list_of, asking_told, Steps}
use Rattle.hickory_resolver_pool.specs.declared.limits.PoolLimits.{PoolLimits}
use Rattle.hickory_resolver_pool.specs.declared.pool.Action.{Action}
use Rattle.hickory_resolver_pool.specs.declared.pool.Action.TheVariants.{Over}
use Rattle.hickory_resolver_pool.specs.declared.pool.Asked.{Asked}
use Rattle.hickory_resolver_pool.specs.declared.pool.Asked.TheVariants as asked
use Rattle.hickory_resolver_pool_theorems.specs.Runs.{Happening, came, did, Runs}

-- ---- who asks, as what happened says

-- the number that was given, where it is one of this transaction
abbrev pub number_of : ℕ → Asked → List ℕ
number_of n (asked.Asker a) = if a.transaction == n then a.number ∷ [] else []
number_of n other = []

-- who was given an asker of this transaction and did not forget it since, in the order in which they asked
abbrev pub asking_in : ℕ → List Happening → List ℕ
asking_in n [] = []
asking_in n (came s (is_asked group query options dnssec now) ∷ past) =
    asking_in n past ++ number_of n (asking_told (list_of group s.traffic) (question_of query options dnssec) s)
asking_in n (came s (is_forgotten a) ∷ past) =
    if a.transaction == n then without a.number (asking_in n past) else asking_in n past
asking_in n (other ∷ past) = asking_in n past

-- ---- who is told

-- this number is none of them
abbrev pub IsNoneOf : List ℕ → ℕ → Type 0
IsNoneOf numbers n = AllByRecursion (λ m. m ≡ n → ⊥) numbers

-- no number stands there twice
abbrev pub EachOnce : List ℕ → Type 0
EachOnce [] = Unit {0}
EachOnce (n ∷ ns) = IsNoneOf ns n × EachOnce ns

-- who is given an asker of this transaction asks a question that is equal to this one, case of the name aside, of the
-- servers of this list
abbrev pub AsksEqual : ℕ → ℕ → PoolQuestion → Happening → Type 0
AsksEqual n list question (came s (is_asked group query options dnssec now)) =
    (a : Asker) → asking_told (list_of group s.traffic) (question_of query options dnssec) s ≡ asked.Asker a
    → a.transaction ≡ n
    → (list_of group s.traffic ≡ Some list) × (question_eq (question_of query options dnssec) question ≡ true)
AsksEqual n list question other = Unit {0}

-- Those are told, and no others, who were given an asker of the transaction and did not forget it, each of them once;
-- and all who were given one asked what is told, of the same servers.
pub record AreTold (past : List Happening) (o : OverValue) : Type 0 where
  pub told : o.askers ≡ asking_in o.transaction past
  pub once : EachOnce o.askers
  pub list : ℕ
  pub asked : AllByRecursion (AsksEqual o.transaction list o.question) past

abbrev pub WhoAsksIsTold : Type 0
WhoAsksIsTold =
    (options : OptionsValue) (limits : PoolLimits) (seed : List ℕ) (past : List Happening) (s after : PoolState)
    → (o : OverValue) → Runs (no_servers options limits seed) past s → Steps s (Some (Over o)) after → AreTold past o

-- ---- and told once

-- what was told before was told of another transaction, and to others
abbrev pub IsToldElsewhere : OverValue → Option Action → Type 0
IsToldElsewhere o (Some (Over before)) =
    (before.transaction ≡ o.transaction → ⊥) × AllByRecursion (IsNoneOf before.askers) o.askers
IsToldElsewhere o other = Unit {0}

abbrev pub WasToldElsewhere : OverValue → Happening → Type 0
WasToldElsewhere o (did s action) = IsToldElsewhere o action
WasToldElsewhere o other = Unit {0}

-- no transaction that is over is given to one who asks
abbrev pub IsNotOverBy : Asker → Option Action → Type 0
IsNotOverBy a (Some (Over before)) = (before.transaction ≡ a.transaction → ⊥) × IsNoneOf before.askers a.number
IsNotOverBy a other = Unit {0}

abbrev pub WasNotOver : Asker → Happening → Type 0
WasNotOver a (did s action) = IsNotOverBy a action
WasNotOver a other = Unit {0}

-- A transaction that was told to be over is never told so again, no asker of it is told anything again, and nobody is
-- given an asker of it any more.
pub record IsOverOnce (past : List Happening) (s : PoolState) : Type 0 where
  pub told : (after : PoolState) (o : OverValue) → Steps s (Some (Over o)) after
      → AllByRecursion (WasToldElsewhere o) past
  pub given : (list : Option ℕ) (question : PoolQuestion) (a : Asker)
      → asking_told list question s ≡ asked.Asker a → AllByRecursion (WasNotOver a) past

abbrev pub OverOnce : Type 0
OverOnce =
    (options : OptionsValue) (limits : PoolLimits) (seed : List ℕ) (past : List Happening) (s : PoolState)
    → Runs (no_servers options limits seed) past s → IsOverOnce past s
