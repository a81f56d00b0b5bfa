-- What is allowed, as options of a command line say it: each sets one thing, and leaves the others.
use Rattle.std.specs.Prelude.{◌≡◌, ◌^◌, ◌==◌, ℕ, true, false, nat_lt, length, codes, List, [], ◌∷◌, ◌++◌, Option, None, Some, MatchBool, option_and_then, if◌then◌else◌}
use Rattle.std.specs.List.{after_first, before_first, position_or_len}
use Rattle.std.specs.declared.net.IpAddr.{IpAddr}
use Rattle.std.specs.declared.net.IpAddr.TheVariants.{V4, V6}
use Rattle.hickory_proto_core.specs.Codes.{decimal_below, is_text}
use Rattle.hickory_proto_core.specs.Name.{NameValue}
use Rattle.hickory_proto_core.specs.NameDecided.{text_name}
use Rattle.hickory_proto_core.specs.NameGiven.{IsReadAddress}
use Rattle.hickory_proto_core.specs.Records.{RecordValue}
use Rattle.std.specs.Result.{result_ok}
use Rattle.synthesis.specs.declared.dns64.Prefix.{Prefix}
use Rattle.trace_judge.specs.Options.{OptionsValue}
use Rattle.trace_lines.specs.declared.verdict.Strictness.{Strictness}

-- what the judge allows, which classes are findings, and the paths of the files of hosts
pub record SettingsValue : Type 0 where
  pub options : OptionsValue
  pub strictness : Strictness
  pub hosts : List (List ℕ)

-- where no option says otherwise: a second for rounding, and nothing else
abbrev pub unset : SettingsValue
unset = record {
  options = record { slack = 1; local = []; own = []; dns64 = [] };
  strictness = record { cold = false; serve_stale = None };
  hosts = [];
}

-- ---- an option that stands alone

-- `--cold`
abbrev pub with_flag : List ℕ → SettingsValue → Option SettingsValue
with_flag option s =
    if is_text (codes "--cold") option then Some (record s { strictness = record s.strictness { cold = true } })
    else None

-- ---- what is set to a value

-- seconds, of 32 bits
abbrev pub with_slack : SettingsValue → Option ℕ → Option SettingsValue
with_slack s None = None
with_slack s (Some seconds) = Some (record s { options = record s.options { slack = seconds } })

abbrev pub with_serve_stale : SettingsValue → Option ℕ → Option SettingsValue
with_serve_stale s None = None
with_serve_stale s (Some seconds) =
    Some (record s { strictness = record s.strictness { serve_stale = Some seconds } })

-- one zone more
abbrev pub with_zone : SettingsValue → Option NameValue → Option SettingsValue
with_zone s None = None
with_zone s (Some zone) = Some (record s { options = record s.options { local = s.options.local ++ zone ∷ [] } })

-- one prefix more
abbrev pub with_prefix : SettingsValue → Option Prefix → Option SettingsValue
with_prefix s None = None
with_prefix s (Some prefix) =
    Some (record s { options = record s.options { dns64 = s.options.dns64 ++ prefix ∷ [] } })

-- one path more
abbrev pub with_path : SettingsValue → List ℕ → SettingsValue
with_path s path = record s { hosts = s.hosts ++ path ∷ [] }

-- the records of a file of hosts more
abbrev pub with_own : SettingsValue → List RecordValue → SettingsValue
with_own s records = record s { options = record s.options { own = s.options.own ++ records } }

-- how many octets of a prefix count, of its bits: 32, 40, 48, 56, 64 or 96 (RFC 6052, section 2.2)
abbrev pub octets_of_bits : ℕ → Option ℕ
octets_of_bits bits =
    if bits == 32 then Some 4 else (
    if bits == 40 then Some 5 else (
    if bits == 48 then Some 6 else (
    if bits == 56 then Some 7 else (
    if bits == 64 then Some 8 else (
    if bits == 96 then Some 12 else None)))))

abbrev pub prefix_with : Option IpAddr → Option ℕ → Option Prefix
prefix_with None octets = None
prefix_with (Some (V4 address)) octets = None
prefix_with (Some (V6 address)) None = None
prefix_with (Some (V6 address)) (Some octets) = Some (record { address = address; octets = octets })

-- what stands before the first `/`, and behind it, where there is one
abbrev pub cut_at_slash : List ℕ → Option (List ℕ × List ℕ)
cut_at_slash text =
    if nat_lt (position_or_len (λ b. b == 47) text) (length text)
    then Some (before_first (λ b. b == 47) text, after_first (λ b. b == 47) text) else None

abbrev pub IsPrefixBy : Option (List ℕ × List ℕ) → Option Prefix → Type 0
IsPrefixBy None prefix = prefix ≡ None
IsPrefixBy (Some parts) prefix =
    (address : Option IpAddr) × IsReadAddress parts.0 address
    × (prefix ≡ prefix_with address (option_and_then octets_of_bits (decimal_below (2 ^ 64) parts.1)))

-- an IPv6 address, `/`, and how many of its bits count
abbrev pub IsPrefixText : List ℕ → Option Prefix → Type 0
IsPrefixText text prefix = IsPrefixBy (cut_at_slash text) prefix

-- an option is set to a value, or is none, or cannot be set to it
abbrev pub IsSetTo : List ℕ → List ℕ → SettingsValue → Option SettingsValue → Type 0
IsSetTo option value s result =
    MatchBool (is_text (codes "--slack") option) (result ≡ with_slack s (decimal_below (2 ^ 32) value))
    (MatchBool (is_text (codes "--serve-stale") option) (result ≡ with_serve_stale s (decimal_below (2 ^ 32) value))
    (MatchBool (is_text (codes "--local") option) (result ≡ with_zone s (result_ok (text_name value)))
    (MatchBool (is_text (codes "--dns64") option)
    ((prefix : Option Prefix) × IsPrefixText value prefix × (with_prefix s prefix ≡ result))
    (MatchBool (is_text (codes "--hosts") option) (result ≡ Some (with_path s value)) (result ≡ None)))))
