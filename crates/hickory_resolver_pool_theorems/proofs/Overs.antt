-- What is told of a transaction is told at its end, of the transaction that is worked on.
use Rattle.std.proofs.Common.{◌≡◌, ℕ, Bool, true, false, List, refl}
use Rattle.std.specs.Prelude.{Option, None, Some}
use Rattle.std.specs.Option.{is_some}
use Rattle.hickory_resolver_askers.specs.Askers.{askers_of}
use Rattle.hickory_resolver_traffic.specs.Doing.{doing, closed_by}
use Rattle.hickory_resolver_traffic.specs.Table.{CurrentState}
use Rattle.hickory_resolver_traffic.specs.Tasks.{task_of}
use Rattle.hickory_resolver_traffic.specs.Tasks as tasks
use Rattle.hickory_resolver_traffic.specs.declared.doing.Doing.{Doing}
use Rattle.hickory_resolver_traffic.specs.declared.starting.Did.{Did}
use Rattle.hickory_resolver_traffic.specs.declared.starting.Did.TheVariants as done
use Rattle.hickory_resolver_pool.specs.Over.{OverValue}
use Rattle.hickory_resolver_pool.specs.Pool.{PoolState, action_of, close_or_continue, over_of, over_or_continue, let_go, StepsBy, StepsIn, StepsAs, Steps, scene_of, is_end, is_put}
use Rattle.hickory_resolver_pool.specs.declared.pool.Action.TheVariants as action

-- it was worked on, and had come to its end
pub record IsEnd (s : PoolState) (o : OverValue) : Type 0 where
  pub current : CurrentState
  pub askers : List ℕ
  pub works : s.current ≡ Some current
  pub ends : is_end (doing current s.traffic) ≡ true
  pub asked_by : askers_of current.number s.traffic.askers ≡ Some askers
  pub told : o ≡ over_of (doing current s.traffic) current askers

-- and it is let go
pub record IsLetGo (s after : PoolState) (o : OverValue) : Type 0 where
  pub end : IsEnd s o
  pub gone : after ≡ let_go end.current s

module _ (o : OverValue) where
  not-begun : (d : Did) → Some (action.Over o) ≡ action_of d → ⊥
  not-begun done.Idle e = cc
  not-begun done.More e = cc
  not-begun (done.Opened opening) e = cc
  not-begun (done.Written sent) e = cc
  not-begun (done.Closed channel) e = cc
  not-begun (done.TookUp current) e = cc

  not-closed : (c : Option ℕ) → Some (action.Over o) ≡ Some (close_or_continue c) → ⊥
  not-closed None e = cc
  not-closed (Some channel) e = cc

  told-by : (what : Doing) (c : CurrentState) (askers : Option (List ℕ))
      → Some (action.Over o) ≡ Some (over_or_continue what c askers)
      → (list : List ℕ) × (askers ≡ Some list) × (o ≡ over_of what c list)
  told-by what c None e = absurd cc
  told-by what c (Some list) e =
      let same : o ≡ over_of what c list = cc in (list, refl, same)

  module _ (s after : PoolState) where
    by-end : (c : CurrentState) → s.current ≡ Some c → (ends puts : Bool) → is_end (doing c s.traffic) ≡ ends
        → StepsBy ends puts (doing c s.traffic) c s (Some (action.Over o)) after → IsLetGo s after o
    by-end c works true puts ends is =
        let told = told-by (doing c s.traffic) c (askers_of c.number s.traffic.askers) is.action in
        record {
          end = record { current = c; askers = told.0; works = works; ends = ends; asked_by = told.1; told = told.2 };
          gone = is.pool;
        }
    by-end c works false true ends is = let e : Some (action.Over o) ≡ Some action.Continue = is.action in absurd cc
    by-end c works false false ends is =
        absurd (not-closed (closed_by (doing c s.traffic) (scene_of s c)) is.action)

    by-current : (c : Option CurrentState) → s.current ≡ c → StepsIn c s (Some (action.Over o)) after → IsLetGo s after o
    by-current None works is = absurd (not-begun (tasks.did (task_of s.traffic) s.traffic) is.0)
    by-current (Some c) works is =
        by-end c works (is_end (doing c s.traffic)) (is_put (doing c s.traffic)) refl is

    pub gone-at_end : Steps s (Some (action.Over o)) after → IsLetGo s after o
    gone-at_end is = by (is_some s.traffic.outgoing) is
      where
        by : (writes : Bool) → StepsAs writes s (Some (action.Over o)) after → IsLetGo s after o
        by true steps = absurd (not-begun (tasks.did (task_of s.traffic) s.traffic) steps.0)
        by false steps = by-current s.current refl steps

    pub told-at_end : Steps s (Some (action.Over o)) after → IsEnd s o
    told-at_end is = (gone-at_end is).end
