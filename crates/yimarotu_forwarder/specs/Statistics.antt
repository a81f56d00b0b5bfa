-- The counts, as a client on this machine is told them.
use Rattle.std.specs.Prelude.{ℕ, Bool, ◌==◌, ◌/◌, ◌^◌, List, [], ◌∷◌, ◌++◌, codes}
use Rattle.std.specs.Fmt.{decimal}
use Rattle.std.specs.Net.Addr.{ipv4_bits, ipv6_bits}
use Rattle.std.specs.declared.net.IpAddr.{IpAddr}
use Rattle.std.specs.declared.net.IpAddr.TheVariants.{V4, V6}
use Rattle.hickory_proto_core.specs.declared.query.Query.{Query}
use Rattle.whole_replies.specs.Kept.{KeptValue}
use Rattle.hickory_proto_core.specs.Records.{txt_data}
use Rattle.local_answers.specs.Replies.{answer, record_at}
use Rattle.yimarotu_forwarder.specs.declared.counting.ForwarderCounts.{ForwarderCounts}

-- 127.0.0.0/8 and ::1 (RFC 1122, section 3.2.1.3; RFC 4291, section 2.5.3)
abbrev pub is_loopback : IpAddr → Bool
is_loopback (V4 a) = ipv4_bits a / 2 ^ 24 == 127
is_loopback (V6 a) = ipv6_bits a == 1

-- a name, and a number in decimal digits
abbrev pub count_text : List ℕ → ℕ → List ℕ
count_text name count = name ++ decimal count

abbrev pub count_texts : ForwarderCounts → List (List ℕ)
count_texts c =
    count_text (codes "queries=") c.queries
    ∷ count_text (codes "from_cache=") c.from_cache
    ∷ count_text (codes "local=") c.local
    ∷ count_text (codes "failures_told=") c.failures_told
    ∷ count_text (codes "refused=") c.refused
    ∷ count_text (codes "dropped=") c.dropped
    ∷ count_text (codes "waited=") c.waited
    ∷ count_text (codes "prefetched=") c.prefetched
    ∷ []

-- one TXT record with these strings, for no time
abbrev pub texts_reply : Query → List (List ℕ) → KeptValue
texts_reply q texts = answer (record_at q 0 (txt_data texts) ∷ [])

-- a string for each count
abbrev pub counts_reply : Query → ForwarderCounts → KeptValue
counts_reply q c = texts_reply q (count_texts c)
