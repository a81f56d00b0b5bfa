-- Names of a file, of which the first are blocked.
use Rattle.std.proofs.Common.{◌≡◌, ◌∙◌, ℕ, ◌+◌, ◌<◌, List, [], ◌∷◌, ◌++◌, length, drop, get_or, Bor, refl, sym, ap, append_assoc, add-one, drop-cons, subst}
use Rattle.std.specs.Prelude.{OnErr, Option, None, Some, Result, Ok, Err}
use Rattle.std.specs.List.{cons_option, flat_map}
use Rattle.std.specs.Option.{option_map_or}
use Rattle.domain_table.specs.Domains.{inserted}
use Rattle.local_answers.specs.declared.rules.Blocked.TheVariants.{NoName}
use Rattle.local_answers.specs.declared.rules.DomainRule.{DomainRule}
use Rattle.local_answers.specs.declared.rules.DomainRule.TheVariants as rule
use Rattle.replay_script.specs.Words.{texts}
use Rattle.forwarder_settings.specs.Blocked.{FirstBlocked, domain_named, domains_among, line_domains, with_blocked, with_name_blocked}

abbrev pub Rules : Type 0
Rules = List (List ℕ × DomainRule)

-- the first of the domains are blocked, and these are still to come
pub record SoFar (all rest : List (List ℕ)) (old new : Rules) : Type 0 where
  pub first : List (List ℕ)
  pub split : all ≡ first ++ rest
  pub blocked : new ≡ with_blocked first old

blocked_append : (xs ys : List (List ℕ)) (rules : Rules)
    → with_blocked (xs ++ ys) rules ≡ with_blocked ys (with_blocked xs rules)
blocked_append [] ys rules = refl
blocked_append (x ∷ xs) ys rules = blocked_append xs ys (inserted x (rule.Block NoName) rules)

-- behind the first domains, these are blocked too
behind : (first more : List (List ℕ)) (old mid new : Rules) → mid ≡ with_blocked first old
    → new ≡ with_blocked more mid → new ≡ with_blocked (first ++ more) old
behind first more old mid new before is =
    is ∙ ap (with_blocked more) before ∙ sym (blocked_append first more old)

pub next_blocked : (all ds rest : List (List ℕ)) (old mid new : Rules) → SoFar all (ds ++ rest) old mid
    → new ≡ with_blocked ds mid → SoFar all rest old new
next_blocked all ds rest old mid new so is = record {
  first = so.first ++ ds;
  split = so.split ∙ sym (append_assoc so.first ds rest);
  blocked = behind so.first ds old mid new so.blocked is;
}

-- of these some are blocked, and then memory is out
pub stopped : (all ds rest : List (List ℕ)) (old mid new : Rules) → SoFar all (ds ++ rest) old mid
    → FirstBlocked ds mid new → FirstBlocked all old new
stopped all ds rest old mid new so (front, back, split, is) = (
  so.first ++ front,
  back ++ rest,
  so.split ∙ ap (λ xs. so.first ++ (xs ++ rest)) split ∙ ap (λ xs. so.first ++ xs) (append_assoc front back rest)
      ∙ sym (append_assoc so.first front (back ++ rest)),
  behind so.first front old mid new so.blocked is,
)

-- ---- the names of a line

abbrev pub named : Option (List ℕ) → List (List ℕ)
named None = []
named (Some domain) = domain ∷ []

named_first : (found : Option (List ℕ)) (more : List (List ℕ)) → cons_option found more ≡ named found ++ more
named_first None more = refl
named_first (Some domain) more = refl

named_blocked : (found : Option (List ℕ)) (rules : Rules)
    → option_map_or (λ domain. inserted domain (rule.Block NoName) rules) found rules ≡ with_blocked (named found) rules
named_blocked None rules = refl
named_blocked (Some domain) rules = refl

next_name : (names : List (Bor (List ℕ))) (i : ℕ) (none : Bor (List ℕ)) → i < length names
    → domains_among (texts (drop i names))
    ≡ named (domain_named (get_or names i none).now) ++ domains_among (texts (drop (i + 1) names))
next_name names i none short =
    let cut : drop i names ≡ get_or names i none ∷ drop (i + 1) names =
    rw (add-one, drop-cons names i none short) refl in
    ap (λ xs. domains_among (texts xs)) cut
    ∙ named_first (domain_named (get_or names i none).now) (domains_among (texts (drop (i + 1) names)))

pub name_blocked : (all : List (List ℕ)) (names : List (Bor (List ℕ))) (i : ℕ) (none : Bor (List ℕ))
    (old mid new : Rules) → SoFar all (domains_among (texts (drop i names))) old mid → i < length names
    → new ≡ with_name_blocked (get_or names i none).now mid
    → SoFar all (domains_among (texts (drop (i + 1) names))) old new
name_blocked all names i none old mid new so short made =
    let found = domain_named (get_or names i none).now in
    let rest = domains_among (texts (drop (i + 1) names)) in
    let P : List (List ℕ) → Type 0 = λ xs. SoFar all xs old mid in
    next_blocked all (named found) rest old mid new (subst P (next_name names i none short) so)
    (made ∙ named_blocked found mid)

-- ---- the lines of a file

pub line_blocked : (all : List (List ℕ)) (line : List ℕ) (lines others : List (List ℕ)) (old mid new : Rules)
    → SoFar all (flat_map line_domains lines) old mid → lines ≡ line ∷ others
    → new ≡ with_blocked (line_domains line) mid → SoFar all (flat_map line_domains others) old new
line_blocked all line lines others old mid new so cut made =
    let P : List (List ℕ) → Type 0 = λ ls. SoFar all (flat_map line_domains ls) old mid in
    next_blocked all (line_domains line) (flat_map line_domains others) old mid new (subst P cut so) made

pub line_stopped : (all : List (List ℕ)) (line : List ℕ) (lines others : List (List ℕ)) (old mid new : Rules)
    → SoFar all (flat_map line_domains lines) old mid → lines ≡ line ∷ others
    → FirstBlocked (line_domains line) mid new → FirstBlocked all old new
line_stopped all line lines others old mid new so cut made =
    let P : List (List ℕ) → Type 0 = λ ls. SoFar all (flat_map line_domains ls) old mid in
    stopped all (line_domains line) (flat_map line_domains others) old mid new (subst P cut so) made

pub as_error : {A E : Type 0} {P : Type 0} (r : Result A E) → P → OnErr r P
as_error (Ok x) p = tt
as_error (Err e) p = p
