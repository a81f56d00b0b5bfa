-- The octets of a try, part by part, are those of its message, and are read as it.
use Rattle.std.proofs.Common.{◌≡◌, ℕ, ◌+◌, ◌*◌, ◌≤◌, ◌<◌, Bool, true, false, cond, ◌&&◌, List, [], ◌∷◌, ◌++◌, refl, ap, ap₂, sym, ◌∙◌, append_assoc, Ok, lit<, arith}
use Rattle.std.specs.Prelude.{Option, None, Some}
use Rattle.std.specs.Option.{is_some, is_none}
use Rattle.std.specs.List.{list_any}
use Rattle.hickory_proto_core.specs.Name.{is_long_label, label_fault}
use Rattle.hickory_proto_wire.specs.Edns.{EdnsValue, AreInRange}
use Rattle.hickory_proto_wire.specs.Made.{query_flaw, flaw_unless}
use Rattle.hickory_proto_wire.specs.Messages.{message_of}
use Rattle.hickory_proto_wire.specs.Refused.{message_fault, first_fault}
use Rattle.hickory_proto_wire.specs.Writing.{u16_octets, weighed, opt_count, cut}
use Rattle.hickory_proto_wire.specs.Written.{name_octets, header_octets, opt_octets, edns_octets}
use Rattle.hickory_proto_wire.specs.declared.wire_message.WireMessage.{WireMessage}
use Rattle.hickory_proto_wire.proofs.FewLabels.{few_written}
use Rattle.hickory_proto_wire.proofs.Whole.{octets_read}
use Rattle.hickory_resolver_tries.specs.declared.pool_question.PoolQuestion.{PoolQuestion}
use Rattle.hickory_resolver_tries.specs.declared.pool_question.SentOpt.{SentOpt}
use Rattle.hickory_resolver_tries.specs.declared.try_message.TryForm.{TryForm}
use Rattle.hickory_resolver_tries.specs.Belief.{asked_name, asked_codes}
use Rattle.hickory_resolver_tries.specs.Tries.{sends_opt, edns_of, edns_if, labels_sent, octets_sent, message_of_try, octets_of_try}
use Rattle.hickory_resolver_tries.proofs.Varied.{sent-name, label_fault-sent}

-- ---- the header

sum_is : (recursion authentic checking : Bool)
    → weighed recursion 256 + weighed authentic 32 + weighed checking 16
    ≡ 0 + weighed recursion 256 + 0 + 0 + weighed authentic 32 + weighed checking 16 + 0
sum_is true true true = refl
sum_is true true false = refl
sum_is true false true = refl
sum_is true false false = refl
sum_is false true true = refl
sum_is false true false = refl
sum_is false false true = refl
sum_is false false false = refl

count_is : (opt : Option SentOpt) (b : Bool) → weighed (is_some opt && b) 1 ≡ 0 + opt_count (edns_if (is_some opt && b) opt)
count_is None b = refl
count_is (Some o) true = refl
count_is (Some o) false = refl

pub header_is : (q : PoolQuestion) (form : TryForm) (sends : Bool) (flags : ℕ) (out : List ℕ)
    → sends ≡ sends_opt q form → flags ≡ weighed q.recursion_desired 256 + weighed q.authentic_data 32 + weighed q.checking_disabled 16
    → ((((((out ++ u16_octets form.id) ++ u16_octets flags) ++ u16_octets 1) ++ u16_octets 0) ++ u16_octets 0) ++ u16_octets (weighed sends 1))
    ≡ out ++ header_octets (message_of_try q form) 0
header_is q form sends flags out es ef =
    let count = ap (λ b. weighed b 1) es ∙ count_is q.opt _ in
    let sum = ef ∙ sum_is q.recursion_desired q.authentic_data q.checking_disabled in
    ap₂ (λ f n. ((((((out ++ u16_octets form.id) ++ u16_octets f) ++ u16_octets 1) ++ u16_octets 0) ++ u16_octets 0) ++ u16_octets n)) sum count
    ∙ simp append_assoc

-- ---- OPT

opt_with : (size : ℕ) (ok : Bool) (out : List ℕ)
    → ((((((out ++ 0 ∷ []) ++ u16_octets 41) ++ u16_octets size) ++ u16_octets 0) ++ u16_octets (weighed ok 32768)) ++ u16_octets 0)
    ≡ out ++ edns_octets (record { size = size; version = 0; flags = cond ok 32768 0; options = [] }) 0
opt_with size true out = simp append_assoc
opt_with size false out = simp append_assoc

pub opt_is : (o : SentOpt) (flags : ℕ) (out : List ℕ) → flags ≡ weighed o.dnssec_ok 32768
    → ((((((out ++ 0 ∷ []) ++ u16_octets 41) ++ u16_octets o.payload) ++ u16_octets 0) ++ u16_octets flags) ++ u16_octets 0)
    ≡ out ++ edns_octets (edns_of o) 0
opt_is o flags out e =
    ap (λ f. ((((((out ++ 0 ∷ []) ++ u16_octets 41) ++ u16_octets o.payload) ++ u16_octets 0) ++ u16_octets f) ++ u16_octets 0)) e
    ∙ opt_with o.payload o.dnssec_ok out

-- ---- the whole

pub try_is : (q : PoolQuestion) (form : TryForm) (name : List ℕ) → name ≡ asked_name q.query
    → list_any is_long_label q.query.name.labels ≡ false
    → ((([] ++ header_octets (message_of_try q form) 0) ++ octets_sent form.letters name) ++ asked_codes q.query)
    ++ opt_octets (edns_if (sends_opt q form) q.opt) 0
    ≡ octets_of_try q form
try_is q form name e short =
    let named = ap (octets_sent form.letters) e ∙ sent-name form.letters q.query.name.labels short in
    let header = header_octets (message_of_try q form) 0 in
    let opt = opt_octets (edns_if (sends_opt q form) q.opt) 0 in
    ap (λ (n : List ℕ). ((header ++ n) ++ asked_codes q.query) ++ opt) named
    ∙ append_assoc (header ++ name_octets [] (labels_sent form.letters q.query.name.labels)) (asked_codes q.query) opt
    ∙ append_assoc header (name_octets [] (labels_sent form.letters q.query.name.labels)) (asked_codes q.query ++ opt)
    ∙ ap (λ (t : List ℕ). header ++ t) (sym (append_assoc (name_octets [] (labels_sent form.letters q.query.name.labels)) (asked_codes q.query) opt))

-- ---- it is read

-- the message with another mark of its name, and another OPT
abbrev with_parts : PoolQuestion → TryForm → Bool → Option EdnsValue → WireMessage
with_parts q form fqdn edns =
    let m = message_of_try q form in
    record m {
      edns = edns;
      message = record m.message {
        queries = record {
          name = record { labels = labels_sent form.letters q.query.name.labels; fqdn = fqdn };
          query_type = q.query.query_type;
          query_class = q.query.query_class;
        } ∷ [];
      };
    }

right_with : (q : PoolQuestion) (form : TryForm) (sends : Bool) (opt : Option SentOpt)
    → message_fault (with_parts q form true (edns_if sends opt)) ≡ None
right_with q form sends None = refl
right_with q form true (Some o) = refl
right_with q form false (Some o) = refl

in_range : (sends : Bool) (opt : Option SentOpt) → AreInRange (edns_if sends opt)
in_range sends None = tt
in_range false (Some o) = tt
in_range true (Some o) = (lit< tt, flag o.dnssec_ok)
  where
    flag : (b : Bool) → cond b 32768 0 < 65536
    flag true = lit< tt
    flag false = lit< tt

made : (q : PoolQuestion) (form : TryForm) → label_fault q.query.name.labels ≡ None
    → first_fault query_flaw (message_of_try q form).message.queries ≡ None
made q form e =
    let sent = label_fault-sent form.letters q.query.name.labels ∙ e in
    ap (λ fault. first_fault (λ (u : Unit {0}). flaw_unless (is_none fault)) (tt ∷ [])) sent

-- one question, and OPT or no record
few_names : (edns : Option EdnsValue) → 127 * (1 + 3 * (0 + 0 + (0 + opt_count edns))) ≤ 16384
few_names None = omega arith
few_names (Some e) = omega arith

pub try_read : (q : PoolQuestion) (form : TryForm) → q.query.name.fqdn ≡ true → label_fault q.query.name.labels ≡ None
    → message_of (octets_of_try q form) ≡ Ok (cut (message_of_try q form) 0)
try_read q form absolute valid =
    few_written (message_of_try q form) 0 (few_names (edns_if (sends_opt q form) q.opt))
    ∙ octets_read (message_of_try q form) 0
    (ap (λ f. message_fault (with_parts q form f (edns_if (sends_opt q form) q.opt))) absolute ∙ right_with q form (sends_opt q form) q.opt)
    (made q form valid) refl (in_range (sends_opt q form) q.opt)
