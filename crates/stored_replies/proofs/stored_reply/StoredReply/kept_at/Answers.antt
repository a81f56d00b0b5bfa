use Rattle.std.proofs.Common.{◌≡◌, ◌∙◌, ◌-◌, ℕ, List, ap, sym}
use Rattle.std.specs.Prelude.{Option, Some}
use Rattle.std.specs.Option.{option_map}
use Rattle.whole_replies.specs.Kept.{KeptValue, aged}
use Rattle.stored_replies.specs.Stored.{read_at}
use Rattle.stored_replies.proofs.Reread.{kept_read, reread}
use Rattle.stored_replies.proofs.stored_reply.StoredReply.kept_at.Goals as goal

pub returns-in-Some : goal.returns-in-Some
returns-in-Some c =
    let own = c.self.inside in
    let older : Option KeptValue → Option KeptValue = option_map (aged (c.args.now - own.moment)) in
    let read : c.in_ok-kept.field-0 ≡ kept_read own.octets.items own.seconds =
    c.in_ok-kept.ensures ∙ ap (λ (o : List ℕ). kept_read o own.seconds) c.deref.ensures.value in
    ap Some (c.age.ensures ∙ ap (λ (n : ℕ). aged n c.in-Some.kept) c.saturating_sub.ensures)
    ∙ ap older (sym c.in-Some.is)
    ∙ reread own.octets.items own.seconds own.moment c.args.now c.args.self.now c.self.view_is
    c.self.invariant.written c.in_ok-kept.field-0 read

pub returns-in-None : goal.returns-in-None
returns-in-None c =
    let own = c.self.inside in
    let older : Option KeptValue → Option KeptValue = option_map (aged (c.args.now - own.moment)) in
    let read : c.in_ok-kept.field-0 ≡ kept_read own.octets.items own.seconds =
    c.in_ok-kept.ensures ∙ ap (λ (o : List ℕ). kept_read o own.seconds) c.deref.ensures.value in
    ap older (sym c.in-None.is)
    ∙ reread own.octets.items own.seconds own.moment c.args.now c.args.self.now c.self.view_is
    c.self.invariant.written c.in_ok-kept.field-0 read
