-- Replies that are kept, one after another.
use Rattle.std.specs.Prelude.{◌≡◌, ℕ, false, true, List, [], ◌∷◌, length, Option, MatchOption}
use Rattle.yimarotu_forwarder.specs.Listing.{ListedValue, first_listed, listed_behind}
use Rattle.yimarotu_driven_forwarder.specs.Driven.{DrivenValue}
use Rattle.yimarotu_forwarder_c.specs.Calls.{OnOpenIn}
use Rattle.yimarotu_forwarder_c.specs.Rooms.{IsPut}
use Rattle.yimarotu_forwarder_c.specs.Statuses.{number_of}
use Rattle.yimarotu_forwarder_c.specs.declared.listing.YimarotuKept.{YimarotuKept}
use Rattle.yimarotu_forwarder_c.specs.declared.status.Status.{Status}
use Rattle.yimarotu_forwarder_c.specs.declared.status.Status.TheVariants as status

-- the reply behind that of a key, and the first behind no octets
abbrev pub kept_behind : List ℕ → DrivenValue → Option ListedValue
kept_behind [] d = first_listed d.forwarder
kept_behind (octet ∷ octets) d = listed_behind (octet ∷ octets) d.forwarder

abbrev pub none_kept : Status → YimarotuKept
none_kept s = record { status = number_of s; is_there = false; code = 0; seconds = 0; weight = 0; length = 0 }

abbrev pub kept_end : Status → ListedValue → YimarotuKept
kept_end s kept = record {
  status = number_of s;
  is_there = true;
  code = kept.code;
  seconds = kept.seconds;
  weight = kept.weight;
  length = length kept.key;
}

-- its key is put in the room
abbrev pub IsKeptTold : List ℕ → YimarotuKept → List ℕ → ListedValue → Type 0
IsKeptTold before ended after kept = (s : Status) × IsPut kept.key before after s × (ended ≡ kept_end s kept)

abbrev pub IsListed : Option ListedValue → List ℕ → YimarotuKept → List ℕ → Type 0
IsListed found before ended after =
    MatchOption found ((ended ≡ none_kept status.Ok) × (after ≡ before)) (IsKeptTold before ended after)

-- and the forwarder stays
abbrev pub Lists : List ℕ → DrivenValue → List ℕ → YimarotuKept → DrivenValue → List ℕ → Type 0
Lists key d before ended left after = IsListed (kept_behind key d) before ended after × (left ≡ d)

abbrev pub IsKeptPut : List ℕ → Option DrivenValue → List ℕ → YimarotuKept → Option DrivenValue → List ℕ → Type 0
IsKeptPut key = OnOpenIn (Lists key) (none_kept status.Closed)
