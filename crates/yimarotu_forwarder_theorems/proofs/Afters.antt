-- What a reply leaves of a look-up as it is.
use Rattle.std.proofs.Common.{◌≡◌, Bool, true, false, refl}
use Rattle.std.specs.Prelude.{Option, None, Some, if◌then◌else◌}
use Rattle.hickory_proto_core.specs.declared.query.Query.{Query}
use Rattle.hickory_proto_wire.specs.declared.wire_message.WireMessage.{WireMessage}
use Rattle.whole_lookups.specs.Lookups.{LookupValue, after, after_of, gone_on, may_go_on}
use Rattle.whole_replies.specs.Kept.{KeptValue, kept_of, next_question}

-- a part of it that neither a reply that ends it changes, nor one that leads on
pub after-keeps : {A : Type 0} (part : LookupValue → A) (m : WireMessage) (l : LookupValue)
    → ((k : KeptValue) → part (after_of (Some k) None l) ≡ part l)
    → ((k : KeptValue) (q : Query) → part (gone_on k q l) ≡ part l) → part (after m l) ≡ part l
after-keeps {A} part m l ends leads = by (kept_of l.next l.dnssec m) (next_question l.next m.message)
  where
    going : (k : KeptValue) (q : Query) (b : Bool) → part (if b then gone_on k q l else l) ≡ part l
    going k q true = leads k q
    going k q false = refl

    by : (k : Option KeptValue) (q : Option Query) → part (after_of k q l) ≡ part l
    by None q = refl
    by (Some k) None = ends k
    by (Some k) (Some q) = going k q (may_go_on l)
