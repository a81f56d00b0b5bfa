-- Groups of which the first are asked by their servers.
use Rattle.std.proofs.Common.{◌≡◌, ◌<◌, ◌≤◌, ◌+◌, ℕ, suc, List, [], ◌∷◌, length, get_or, drop, Result, Ok, Err, refl, sym, ap, subst, drop-cons, add-one}
use Rattle.std.proofs.lemmas.List.{drop_all}
use Rattle.forwarder_settings.specs.Reading.{DomainGroupValue}
use Rattle.yimarotu_forwarder.specs.Forwarders.{ForwarderValue}
use Rattle.yimarotu_driven_forwarder.specs.Servers.{AsksGroup, AsksGroups}
use Rattle.yimarotu_driven_forwarder.specs.declared.open_error.ForwarderOpenError.{ForwarderOpenError}

abbrev pub Groups : Type 0
Groups = List DomainGroupValue

abbrev pub Ended : Type 0
Ended = Result (Unit {0}) ForwarderOpenError

-- what becomes of the groups from a place on becomes of all
pub record UnderWay (groups : Groups) (before now : ForwarderValue) (number place : ℕ) : Type 0 where
  pub number_is : number ≡ place
  pub on : (ended : Ended) (after : ForwarderValue) → AsksGroups (place + 1) (drop place groups) now ended after → AsksGroups 1 groups before ended after

pub begun : (groups : Groups) (f : ForwarderValue) → UnderWay groups f f 0 0
begun groups f = record { number_is = refl; on = λ ended after asks. asks }

next_groups : (groups : Groups) (i : ℕ) (g : DomainGroupValue) → i < length groups → g ≡ get_or groups i g
    → drop i groups ≡ g ∷ drop (i + 1) groups
next_groups groups i g h is = rw (add-one, drop-cons groups i g h) (ap (λ x. x ∷ drop (suc i) groups) (sym is))

-- what becomes of the next one becomes of those from its place on
next_asked : (groups : Groups) (before now : ForwarderValue) (number place : ℕ) (g : DomainGroupValue)
    → UnderWay groups before now number place → place < length groups → g ≡ get_or groups place g
    → (ended : Ended) (after : ForwarderValue) → AsksGroups (place + 1) (g ∷ drop (place + 1) groups) now ended after
    → AsksGroups 1 groups before ended after
next_asked groups before now number place g way h is ended after asks =
    let P : Groups → Type 0 = λ left. AsksGroups (place + 1) left now ended after in
    way.on ended after (subst P (sym (next_groups groups place g h is)) asks)

asked_at : (now asking : ForwarderValue) (number place : ℕ) (g : DomainGroupValue) (ended : Ended) → number ≡ place
    → AsksGroup (number + 1) g.servers now ended asking → AsksGroup (place + 1) g.servers now ended asking
asked_at now asking number place g ended is asks = subst (λ (n : ℕ). AsksGroup (n + 1) g.servers now ended asking) is asks

-- one more is asked by its servers
pub one_more : (groups : Groups) (before now asking : ForwarderValue) (number place : ℕ) (g : DomainGroupValue)
    → UnderWay groups before now number place → place < length groups → g ≡ get_or groups place g
    → AsksGroup (number + 1) g.servers now (Ok tt) asking → UnderWay groups before asking (number + 1) (place + 1)
one_more groups before now asking number place g way h is asks = record {
  number_is = ap (λ n. n + 1) way.number_is;
  on = λ ended after rest. next_asked groups before now number place g way h is ended after
      (Ok tt, asking, asked_at now asking number place g (Ok tt) way.number_is asks, rest);
}

-- one is refused
pub stopped : (groups : Groups) (before now asking : ForwarderValue) (number place : ℕ) (g : DomainGroupValue)
    (error : ForwarderOpenError) → UnderWay groups before now number place → place < length groups
    → g ≡ get_or groups place g → AsksGroup (number + 1) g.servers now (Err error) asking
    → AsksGroups 1 groups before (Err error) asking
stopped groups before now asking number place g error way h is asks =
    next_asked groups before now number place g way h is (Err error) asking
    (Err error, asking, asked_at now asking number place g (Err error) way.number_is asks, (refl, refl))

-- all are
pub all_asked : (groups : Groups) (before now : ForwarderValue) (number place : ℕ)
    → UnderWay groups before now number place → length groups ≤ place → AsksGroups 1 groups before (Ok tt) now
all_asked groups before now number place way h =
    let P : Groups → Type 0 = λ left. AsksGroups (place + 1) left now (Ok tt) now in
    way.on (Ok tt) now (subst P (sym (drop_all place groups h)) (refl, refl))
