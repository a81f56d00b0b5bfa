-- How many clients wait, and whether one more may.
use Rattle.std.specs.Prelude.{◌≢◌, ℕ, ◌+◌, ◌-◌, Bool, ◌&&◌, ◌==◌, List, [], nat_lt, nat_le, Some, unwrap_or, if◌then◌else◌}
use Rattle.std.specs.Ordering.{nat_cmp}
use Rattle.std.specs.Map.{lookup, remove_entry, set_value}
use Rattle.std.specs.BTreeMap.{insert_entry, is_at}
use Rattle.std.specs.Option.{option_map_or}
use Rattle.std.specs.declared.net.IpAddr.{IpAddr}
use Rattle.client_limits.specs.Networks.{counted_as}
use Rattle.client_limits.specs.declared.choices.TheConstants.{MOST_CLIENTS, MOST_OF_ADDRESS, MOST_OF_QUESTION}
use Rattle.client_limits.specs.declared.limits.ClientLimits.{ClientLimits}

abbrev pub default_limits : ClientLimits
default_limits = record { all = MOST_CLIENTS; of_address = MOST_OF_ADDRESS; of_question = MOST_OF_QUESTION }

-- how many wait in all, and of each network, by its number
pub record CountsValue : Type 0 where
  pub all : ℕ
  pub of_networks : List (ℕ × ℕ)

-- no network is counted of which nobody waits
abbrev pub HasNoZero : List (ℕ × ℕ) → Type 0
HasNoZero counts = (network : ℕ) → lookup (is_at (nat_cmp network)) counts ≢ Some 0

abbrev pub nobody : CountsValue
nobody = record { all = 0; of_networks = [] }

abbrev pub count_at : ℕ → List (ℕ × ℕ) → ℕ
count_at network counts = unwrap_or (lookup (is_at (nat_cmp network)) counts) 0

abbrev pub count_of : IpAddr → CountsValue → ℕ
count_of address c = count_at (counted_as address) c.of_networks

-- one more of this address, where so many wait for its question
abbrev pub admits : ClientLimits → IpAddr → ℕ → CountsValue → Bool
admits limits address of_question c =
    nat_lt c.all limits.all && nat_lt of_question limits.of_question && nat_lt (count_of address c) limits.of_address

-- one more waits
abbrev pub added : IpAddr → CountsValue → CountsValue
added address c = record {
  all = c.all + 1;
  of_networks = insert_entry nat_cmp c.of_networks (counted_as address) (count_of address c + 1);
}

abbrev pub lowered : ℕ → List (ℕ × ℕ) → List (ℕ × ℕ)
lowered network counts =
    option_map_or (λ count. set_value (is_at (nat_cmp network)) counts (count - 1))
    (lookup (is_at (nat_cmp network)) counts) counts

-- one of so many in a network goes; with the last one its network is no more counted
abbrev pub one_less : ℕ → ℕ → List (ℕ × ℕ) → List (ℕ × ℕ)
one_less network count counts =
    if nat_le count 1 then remove_entry (is_at (nat_cmp network)) counts else lowered network counts

-- one waits no more, where there is one
abbrev pub removed : IpAddr → CountsValue → CountsValue
removed address c =
    if count_of address c == 0 then c
    else record { all = c.all - 1; of_networks = one_less (counted_as address) (count_of address c) c.of_networks }
