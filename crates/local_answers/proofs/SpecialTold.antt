-- Special names are told as a resolver answers them.
use Rattle.std.proofs.Common.{◌≡◌, ℕ, Bool, true, false, cond, [], ◌∷◌, refl, sym, ◌∙◌, ap}
use Rattle.std.specs.Prelude.{Option, None, Some, Ok, Err, ◌==◌}
use Rattle.std.specs.Option.{option_map, option_map_or}
use Rattle.hickory_proto_core.specs.Codes.{class_code, type_code}
use Rattle.hickory_proto_core.specs.Records.{DataValue}
use Rattle.hickory_proto_core.specs.codes.dns_class.DNSClass.{DNSClass}
use Rattle.hickory_proto_core.specs.codes.dns_class.DNSClass.TheVariants as class
use Rattle.hickory_proto_core.specs.codes.response_code.ResponseCode.TheVariants as response
use Rattle.hickory_proto_core.specs.declared.query.Query.{Query}
use Rattle.hickory_resolver_model.specs.Bounds.{day}
use Rattle.hickory_resolver_model.specs.Lookup.{LookupResult}
use Rattle.hickory_resolver_model.specs.SpecialUse.{is_loopback_name, is_nonexistent_name, loopback_data, one_record, no_records as none_found}
use Rattle.local_answers.specs.Laws.{TellsSpecialNames, as_reply}
use Rattle.local_answers.specs.Replies.{answer, no_records, record_at}

-- what the core answers, by what its name is and has
abbrev core_result : Query → ℕ → Bool → Option DataValue → Bool → Option LookupResult
core_result q now loopback found nonexistent =
    cond loopback
    (Some (option_map_or (λ rdata. Ok (one_record q rdata now)) found (Err (none_found q response.NoError))))
    (cond nonexistent (Some (Err (none_found q response.NXDomain))) None)

same : (q : Query) (now : ℕ) → q.query_class ≡ class.IN → (loopback : Bool) (found : Option DataValue) (gone : Bool)
    → cond loopback
    (Some (option_map_or (λ rdata. answer (record_at q day rdata ∷ [])) found (no_records response.NoError)))
    (cond gone (Some (no_records response.NXDomain)) None)
    ≡ option_map as_reply (core_result q now loopback found gone)
same q now is true (Some rdata) gone =
    ap (λ (c : DNSClass). Some (answer (record { name = q.name; dns_class = c; ttl = day; rdata = rdata } ∷ []))) is
same q now is true None gone = refl
same q now is false found true = refl
same q now is false found false = refl

pub tells_special_names : TellsSpecialNames
tells_special_names q now is =
    let here : (class_code q.query_class == class_code class.IN) ≡ true =
    ap (λ (c : DNSClass). class_code c == class_code class.IN) is in
    let core : Option LookupResult =
    core_result q now (is_loopback_name q.name) (loopback_data (type_code q.query_type)) (is_nonexistent_name q.name) in
    same q now is (is_loopback_name q.name) (loopback_data (type_code q.query_type)) (is_nonexistent_name q.name)
    ∙ sym (ap (λ (b : Bool). option_map as_reply (cond b core None)) here)
