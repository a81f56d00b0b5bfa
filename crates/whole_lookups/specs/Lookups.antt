-- The look-up of a whole reply. Where aliases lead on and nothing answers where they end, the name that they led to is
-- asked for, and the reply to that is put behind (RFC 1034, section 3.6.2; RFC 6604).
use Rattle.std.specs.Prelude.{ℕ, ◌+◌, Bool, nat_lt, Option, None, Some, if◌then◌else◌}
use Rattle.std.specs.Option.{option_map_or}
use Rattle.hickory_proto_core.specs.declared.query.Query.{Query}
use Rattle.hickory_proto_wire.specs.declared.wire_message.WireMessage.{WireMessage}
use Rattle.whole_replies.specs.Kept.{KeptValue, joined, kept_of, next_question}
use Rattle.whole_lookups.specs.declared.choices.TheConstants.{MOST_QUESTIONS}
use Rattle.whole_lookups.specs.declared.heard.Heard.{Heard}
use Rattle.whole_lookups.specs.declared.heard.Heard.TheVariants.{Asks, Whole, Fails}

-- What the client asked, the question that is asked now, whether DNSSEC records are asked for, what is kept of the
-- replies so far, and how many questions were asked, this one with them.
pub record LookupValue : Type 0 where
  pub asked : Query
  pub next : Query
  pub dnssec : Bool
  pub kept : Option KeptValue
  pub count : ℕ

abbrev pub begun : Query → Bool → LookupValue
begun query dnssec = record { asked = query; next = query; dnssec = dnssec; kept = None; count = 1 }

-- ---- what is kept

-- the last reply behind those that came
abbrev pub whole_with : KeptValue → LookupValue → KeptValue
whole_with last l = option_map_or (λ first. joined first last) l.kept last

-- what was kept is handed out
abbrev pub taken : LookupValue → LookupValue
taken l = record l { kept = None }

-- ---- a reply

-- one more question may be asked
abbrev pub may_go_on : LookupValue → Bool
may_go_on l = nat_lt l.count MOST_QUESTIONS

abbrev pub gone_on : KeptValue → Query → LookupValue → LookupValue
gone_on k next l = record {
  asked = l.asked;
  next = next;
  dnssec = l.dnssec;
  kept = Some (whole_with k l);
  count = l.count + 1;
}

-- What is kept of a reply, where that is kept, and the question that it leads to, where it leads on.
abbrev pub outcome_of : Option KeptValue → Option Query → LookupValue → Heard
outcome_of None next l = Fails
outcome_of (Some k) None l = Whole (whole_with k l)
outcome_of (Some k) (Some next) l = if may_go_on l then Asks else Fails

abbrev pub after_of : Option KeptValue → Option Query → LookupValue → LookupValue
after_of None next l = l
after_of (Some k) None l = taken l
after_of (Some k) (Some next) l = if may_go_on l then gone_on k next l else l

-- what a believed reply to the question that is asked now makes of the look-up
abbrev pub heard : WireMessage → LookupValue → Heard
heard m l = outcome_of (kept_of l.next l.dnssec m) (next_question l.next m.message) l

abbrev pub after : WireMessage → LookupValue → LookupValue
after m l = after_of (kept_of l.next l.dnssec m) (next_question l.next m.message) l
