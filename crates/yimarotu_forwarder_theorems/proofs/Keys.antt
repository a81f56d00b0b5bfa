-- Keys that are equal are the same, what is put under one, and what one says.
use Rattle.std.proofs.Common.{◌≡◌, ◌∙◌, Bool, true, false, List, ℕ, length, refl, ap, subst}
use Rattle.std.specs.Prelude.{Option, None, Some, nat_le, if◌then◌else◌}
use Rattle.std.proofs.lemmas.Slice.Eq.{bytes_eq-Decides}
use Rattle.hickory_proto_wire.specs.Messages.{bit}
use Rattle.client_requests.specs.Keys.{key_eq, key_equiv, key_of, key_with}
use Rattle.client_requests.specs.Requests.{RequestValue, question_of}
use Rattle.client_requests.specs.declared.choices.TheConstants.{LONGEST_QUESTION}
use Rattle.stored_replies.specs.Told.{asks_dnssec}
use Rattle.yimarotu_forwarder.specs.Fetches.{FetchValue, fetch_in}
use Rattle.yimarotu_forwarder.specs.NextQuestions.{asked_octets, next_key}
use Rattle.yimarotu_forwarder.specs.Prefetching.{key_dnssec}
use Rattle.yimarotu_forwarder_theorems.proofs.Cores.{Fetching, Puts, waiting_for}

pub same-key : (key other : List ℕ) → key_eq key other ≡ true → key ≡ other
same-key key other h = (bytes_eq-Decides key other).0 h

pub turned : (key other : List ℕ) → key_eq key other ≡ key_eq other key
turned key other = key_equiv.symm key other

pub own-key : (key : List ℕ) → key_eq key key ≡ true
own-key key = key_equiv.refl key

-- where as many wait for what is put as before, as many wait for each
pub put-waits : (k key : List ℕ) (held : Option FetchValue) (c d : Fetching) → Puts k held c d
    → waiting_for held ≡ waiting_for (fetch_in k c) → waiting_for (fetch_in key d) ≡ waiting_for (fetch_in key c)
put-waits k key held c d puts same = ap waiting_for (puts key) ∙ by (key_eq k key) refl
  where
    by : (b : Bool) → key_eq k key ≡ b
        → waiting_for (if b then held else fetch_in key c) ≡ waiting_for (fetch_in key c)
    by true e = same ∙ ap (λ (x : List ℕ). waiting_for (fetch_in x c)) (same-key k key e)
    by false e = refl

-- ---- DO

key-says : (dnssec unchecked : Bool) (question : List ℕ) → key_dnssec (key_with question dnssec unchecked) ≡ dnssec
key-says true true question = refl
key-says true false question = refl
key-says false true question = refl
key-says false false question = refl

-- the key of a request
pub own-dnssec : (r : RequestValue) → key_dnssec (key_of r) ≡ asks_dnssec r.query.edns
own-dnssec r = key-says (asks_dnssec r.query.edns) (bit 16 r.query.flags) (question_of r)

-- the key of the question that a fetch has to ask
pub next-dnssec : (f : FetchValue) (key : List ℕ) → next_key f ≡ Some key → key_dnssec key ≡ f.lookup.dnssec
next-dnssec f key is = by (nat_le (length (asked_octets f.lookup.next)) LONGEST_QUESTION) is
  where
    by : (b : Bool)
        → (if b then Some (key_with (asked_octets f.lookup.next) f.lookup.dnssec f.checking_disabled) else None)
        ≡ Some key
        → key_dnssec key ≡ f.lookup.dnssec
    by true h =
        let same : key_with (asked_octets f.lookup.next) f.lookup.dnssec f.checking_disabled ≡ key = cc in
        subst (λ (k : List ℕ). key_dnssec k ≡ f.lookup.dnssec) same
        (key-says f.lookup.dnssec f.checking_disabled (asked_octets f.lookup.next))
    by false h = absurd cc
