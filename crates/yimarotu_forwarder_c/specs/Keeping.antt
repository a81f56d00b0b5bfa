-- What a forwarder keeps is let go.
use Rattle.std.specs.Prelude.{◌≡◌, ◌⊎◌, ℕ, Bool, List, Result, Ok, Err, MatchResult}
use Rattle.std.specs.Str.{IsUtf8}
use Rattle.hickory_proto_core.specs.Name.{NameValue}
use Rattle.hickory_proto_core.specs.NameDecided.{text_name}
use Rattle.hickory_proto_core.specs.names.name_error.NameError.{NameError}
use Rattle.hickory_proto_core.specs.names.name_error.NameError.TheVariants as name_error
use Rattle.yimarotu_forwarder.specs.Flushing.{flushed}
use Rattle.yimarotu_forwarder.specs.Forwarders.{cleared}
use Rattle.yimarotu_driven_forwarder.specs.Driven.{DrivenValue, over_forwarder}
use Rattle.yimarotu_forwarder_c.specs.Statuses.{number_of}
use Rattle.yimarotu_forwarder_c.specs.declared.status.Status.{Status}
use Rattle.yimarotu_forwarder_c.specs.declared.status.Status.TheVariants as status

-- nothing changes, and the call ends so
abbrev pub Stays : Status → DrivenValue → ℕ → DrivenValue → Type 0
Stays s before ended after = (ended ≡ number_of s) × (after ≡ before)

abbrev pub FlushesName : NameValue → Bool → DrivenValue → ℕ → DrivenValue → Type 0
FlushesName name below before ended after =
    (ended ≡ number_of status.Ok) × (after ≡ over_forwarder (flushed name below) before)

abbrev pub text_status : NameError → Status
text_status name_error.OutOfMemory = status.NoMemory
text_status other = status.Text

-- the name that a text spells, or why it spells none; or no memory is left for it
abbrev pub IsNameRead : List ℕ → Result NameValue NameError → Type 0
IsNameRead text read = (read ≡ text_name text) ⊎ (read ≡ Err name_error.OutOfMemory)

abbrev pub FlushesText : List ℕ → Bool → DrivenValue → ℕ → DrivenValue → Type 0
FlushesText text below before ended after =
    (read : Result NameValue NameError) × IsNameRead text read
    × MatchResult read (λ name. FlushesName name below before ended after)
    (λ error. Stays (text_status error) before ended after)

-- what is no UTF-8 is no name
abbrev pub Flushes : List ℕ → Bool → DrivenValue → ℕ → DrivenValue → Type 0
Flushes text below before ended after =
    (IsUtf8 text × FlushesText text below before ended after)
    ⊎ (¬ (IsUtf8 text) × Stays status.Text before ended after)

abbrev pub ClearsAll : DrivenValue → ℕ → DrivenValue → Type 0
ClearsAll before ended after = (ended ≡ number_of status.Ok) × (after ≡ over_forwarder cleared before)
