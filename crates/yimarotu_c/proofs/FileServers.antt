-- No server of a file resolv.conf is to be asked from a given port.
use Rattle.std.proofs.Common.{◌≡◌, ◌+◌, ◌≤◌, ℕ, suc, Bool, true, false, cond, List, [], ◌∷◌, length, map, Option, None, Some, not, if◌then◌else◌, nat_lt, arith, refl, sym, subst, ◌∙◌, ap}
use Rattle.std.proofs.lemmas.Bool.{le-ltb}
use Rattle.std.specs.List.{position, prefix_len, zip}
use Rattle.std.specs.declared.net.IpAddr.{IpAddr}
use Rattle.hickory_resolver_config.specs.Connections.{over_tcp, over_udp}
use Rattle.hickory_resolver_config.specs.Servers.{server_over}
use Rattle.hickory_resolver_pool.specs.Servers.{PoolServerValue, first_fixed, has_fixed_port}
use Rattle.resolv_conf.specs.ResolvConf.{file_said, protocols_of, resolv_conf}
use Rattle.resolv_conf.specs.declared.settings.Settings.{Settings}
use Rattle.session_settings.specs.ServerLine.{file_servers, scoped}

not_fixed : (use_vc : Bool) (address : IpAddr) (scope : Option (List ℕ))
    → has_fixed_port (scoped (server_over (if use_vc then over_tcp ∷ [] else over_udp ∷ over_tcp ∷ []) address, scope)) ≡ false
not_fixed true address scope = refl
not_fixed false address scope = refl

one_more : (b : Bool) (n m : ℕ) → b ≡ false → n ≡ m → cond (not b) (1 + n) 0 ≡ suc m
one_more true n m contrary same = cc
one_more false n m free same = omega arith

abbrev servers_at : Settings → List IpAddr → List (Option (List ℕ)) → List PoolServerValue
servers_at settings addresses scopes = map scoped (zip (map (server_over (protocols_of settings)) addresses) scopes)

all_pass : (settings : Settings) (addresses : List IpAddr) (scopes : List (Option (List ℕ)))
    → prefix_len (λ s. not (has_fixed_port s)) (servers_at settings addresses scopes) ≡ length (servers_at settings addresses scopes)
all_pass settings [] scopes = refl
all_pass settings (address ∷ addresses) [] = refl
all_pass settings (address ∷ addresses) (scope ∷ scopes) =
    one_more (has_fixed_port (scoped (server_over (protocols_of settings) address, scope)))
    (prefix_len (λ s. not (has_fixed_port s)) (servers_at settings addresses scopes))
    (length (servers_at settings addresses scopes)) (not_fixed settings.use_vc address scope)
    (all_pass settings addresses scopes)

position_none : (servers : List PoolServerValue)
    → prefix_len (λ s. not (has_fixed_port s)) servers ≡ length servers → first_fixed servers ≡ None
position_none servers all =
    let P : Bool → Type 0 = λ b. cond b (Some (prefix_len (λ s. not (has_fixed_port s)) servers)) None ≡ None in
    subst P (sym (le-ltb (prefix_len (λ s. not (has_fixed_port s)) servers) (length servers) (omega arith))) refl

pub none_fixed : (octets hostname : List ℕ) → first_fixed (file_servers (resolv_conf octets hostname)) ≡ None
none_fixed octets hostname =
    let reading = file_said octets hostname in
    position_none (file_servers (resolv_conf octets hostname)) (all_pass reading.settings reading.addresses reading.scopes)
