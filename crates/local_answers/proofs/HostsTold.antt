-- What the hosts tell.
use Rattle.std.proofs.Common.{◌≡◌, ℕ, ◌||◌, true, false, List, [], ◌∷◌, length, refl, arith}
use Rattle.std.specs.Prelude.{Option, None, ◌==◌}
use Rattle.std.specs.Cmp.{unsigned_Decides}
use Rattle.std.specs.Option.{is_some}
use Rattle.hickory_proto_core.specs.codes.record_type.RecordType.TheVariants as type
use Rattle.hickory_proto_core.specs.declared.query.Query.{Query}
use Rattle.hickory_resolver_model.specs.Hosts.{Host, HostsHave}
use Rattle.hickory_resolver_model.specs.Lookup.{LookupValue}
use Rattle.whole_replies.specs.Kept.{KeptValue}
use Rattle.local_answers.specs.FromHosts.{IsFromHosts, as_type, chosen, told}

pub no_hosts : (q : Query) (now : ℕ) (hosts : List Host) → (length hosts == 0) ≡ true → IsFromHosts q now hosts None
no_hosts q now [] h = refl
no_hosts q now (x ∷ hosts) h =
    let none : length (x ∷ hosts) ≡ 0 = (unsigned_Decides (length (x ∷ hosts)) 0).0 h in
    absurd (omega arith)

pub some_hosts : (q : Query) (now : ℕ) (hosts : List Host) (v4 v6 names : Option LookupValue)
    (result : Option KeptValue) → (length hosts == 0) ≡ false
    → HostsHave (as_type type.A q) now hosts v4 → HostsHave (as_type type.AAAA q) now hosts v6
    → HostsHave (as_type type.PTR q) now hosts names
    → result ≡ told (chosen q v4 v6 names) (is_some v4 || is_some v6 || is_some names)
    → IsFromHosts q now hosts result
some_hosts q now [] v4 v6 names result h a b c is = absurd (let wrong : true ≡ false = h in cc)
some_hosts q now (x ∷ hosts) v4 v6 names result h a b c is = (v4, v6, names, a, b, c, is)
