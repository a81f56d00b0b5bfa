-- How aliases lead from a name, by how many more may follow.
use Rattle.std.proofs.Common.{◌≡◌, ◌-◌, ◌<◌, ℕ, zero, suc, true, false, ◌||◌, List, ap, ◌∙◌, arith}
use Rattle.std.specs.List.{list_any}
use Rattle.hickory_proto_core.specs.Name.{NameValue, name_eq}
use Rattle.hickory_proto_core.specs.codes.dns_class.DNSClass.{DNSClass}
use Rattle.trace_judge.specs.Index.{alias_key, leads_in, leads_in_by, seen_at}
use Rattle.trace_judge.specs.RecordKeys.{KeyValue}
use Rattle.trace_judge.specs.declared.receptions.Reception.{Reception}

-- a name leads to itself
pub leads_here : (until : ℕ) (seen : List (KeyValue × List Reception)) (class : DNSClass) (to : NameValue) (hops : ℕ) (from : NameValue) → name_eq from to ≡ true → leads_in until seen class to hops from ≡ true
unfolding leads_in
leads_here until seen class to zero from same = same
leads_here until seen class to (suc hops) from same =
    ap (λ b. b || list_any (leads_in_by until seen class to hops from) (seen_at seen (alias_key class from))) same

-- without aliases it leads nowhere else
pub leads_nowhere : (until : ℕ) (seen : List (KeyValue × List Reception)) (class : DNSClass) (to : NameValue) (hops : ℕ) (from : NameValue) → hops ≡ 0 → name_eq from to ≡ false → leads_in until seen class to hops from ≡ false
unfolding leads_in
leads_nowhere until seen class to zero from none other = other
leads_nowhere until seen class to (suc hops) from none other = absurd (omega arith)

-- another name is led to by a first alias, and one fewer behind it
pub leads_more : (until : ℕ) (seen : List (KeyValue × List Reception)) (class : DNSClass) (to : NameValue) (hops : ℕ) (from : NameValue) → 0 < hops → name_eq from to ≡ false → leads_in until seen class to hops from ≡ list_any (leads_in_by until seen class to (hops - 1) from) (seen_at seen (alias_key class from))
unfolding leads_in
leads_more until seen class to zero from some other = absurd (omega arith)
leads_more until seen class to (suc hops) from some other =
    let fewer : hops ≡ suc hops - 1 = omega arith in
    ap (λ b. b || list_any (leads_in_by until seen class to hops from) (seen_at seen (alias_key class from))) other
    ∙ ap (λ n. list_any (leads_in_by until seen class to n from) (seen_at seen (alias_key class from))) fewer
