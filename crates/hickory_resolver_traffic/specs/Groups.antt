-- The server lists of groups. A list has the number of its first server, which no server had before. One that is
-- replaced is kept until no transaction asks its servers.
use Rattle.std.specs.Prelude.{ℕ, ◌+◌, ◌-◌, ◌^◌, Bool, true, false, not, ◌==◌, List, [], length, max, min, Option, if◌then◌else◌}
use Rattle.std.specs.Ordering.{nat_cmp}
use Rattle.std.specs.Option.{option_map_or}
use Rattle.std.specs.Map.{lookup, remove_entry, set_value}
use Rattle.std.specs.BTreeMap.{insert_entry, is_at}
use Rattle.hickory_resolver_servers.specs.Measures.{released}
use Rattle.hickory_resolver_servers.specs.Server.{ServerState}
use Rattle.hickory_resolver_steps.specs.Lists.{ListState, list_of}
use Rattle.hickory_resolver_traffic.specs.declared.groups.Sources.{Sources}

-- the servers, from which local addresses channels to them are opened, how many transactions ask them, and whether new
-- ones do
pub record GroupListState : Type 0 where
  pub servers : ListState
  pub sources : List Sources
  pub transactions : ℕ
  pub is_current : Bool

-- the number of the next server, the list of each group, and the lists by number
pub record GroupsState : Type 0 where
  pub next : ℕ
  pub current : List (ℕ × ℕ)
  pub lists : List (ℕ × GroupListState)

abbrev pub no_groups : GroupsState
no_groups = record { next = 0; current = []; lists = [] }

abbrev pub current_of : ℕ → GroupsState → Option ℕ
current_of group s = lookup (is_at (nat_cmp group)) s.current

abbrev pub list_in : ℕ → List (ℕ × GroupListState) → Option GroupListState
list_in number lists = lookup (is_at (nat_cmp number)) lists

abbrev pub list_at : ℕ → GroupsState → Option GroupListState
list_at number s = list_in number s.lists

abbrev pub put_list : ℕ → GroupListState → List (ℕ × GroupListState) → List (ℕ × GroupListState)
put_list number l lists = set_value (is_at (nat_cmp number)) lists l

abbrev pub drop_list : ℕ → List (ℕ × GroupListState) → List (ℕ × GroupListState)
drop_list number lists = remove_entry (is_at (nat_cmp number)) lists

-- one that nobody needs any more is dropped
abbrev pub is_needed : GroupListState → Bool
is_needed l = if l.is_current then true else not (l.transactions == 0)

abbrev pub kept_if_needed : ℕ → List (ℕ × GroupListState) → GroupListState → List (ℕ × GroupListState)
kept_if_needed number lists l = if is_needed l then lists else drop_list number lists

abbrev pub swept : ℕ → List (ℕ × GroupListState) → List (ℕ × GroupListState)
swept number lists = option_map_or (kept_if_needed number lists) (list_in number lists) lists

abbrev pub changed_list : (GroupListState → GroupListState) → ℕ → List (ℕ × GroupListState) → List (ℕ × GroupListState)
changed_list change number lists = option_map_or (λ l. put_list number (change l) lists) (list_in number lists) lists

-- ---- transactions begin and end

abbrev pub one_more : GroupListState → GroupListState
one_more l = record l { transactions = min (l.transactions + 1) (2 ^ 64 - 1) }

abbrev pub begun : ℕ → GroupsState → GroupsState
begun number s = record s { lists = changed_list one_more number s.lists }

-- it tries no server as an unknown one any more
abbrev pub one_less : ℕ → GroupListState → GroupListState
one_less transaction l = record l {
  servers = record l.servers { servers = released transaction l.servers.servers };
  transactions = l.transactions - 1;
}

abbrev pub ended : ℕ → ℕ → GroupsState → GroupsState
ended number transaction s = record s { lists = swept number (changed_list (one_less transaction) number s.lists) }

-- ---- a group gets other servers

abbrev pub new_list : ℕ → List ServerState → List Sources → GroupListState
new_list first servers sources = record {
  servers = list_of first servers;
  sources = sources;
  transactions = 0;
  is_current = true;
}

abbrev pub retired : GroupListState → GroupListState
retired l = record l { is_current = false }

abbrev pub without_current : List (ℕ × GroupListState) → ℕ → List (ℕ × GroupListState)
without_current lists number = swept number (changed_list retired number lists)

-- a list has at least one number, so that it has one of its own
abbrev pub numbers_of : List ServerState → ℕ
numbers_of servers = max (length servers) 1

abbrev pub with_servers : ℕ → List ServerState → List Sources → GroupsState → GroupsState
with_servers group servers sources s = record {
  next = s.next + numbers_of servers;
  current = insert_entry nat_cmp s.current group s.next;
  lists =
      option_map_or (without_current (insert_entry nat_cmp s.lists s.next (new_list s.next servers sources)))
      (current_of group s) (insert_entry nat_cmp s.lists s.next (new_list s.next servers sources));
}
