use Rattle.std.proofs.Common.{List, ℕ, ◌++◌, ap, sym, ◌∙◌}
use Rattle.std.proofs.lemmas.List.{append-nil}
use Rattle.hickory_proto_core.specs.Name.{label_bytes}
use Rattle.hickory_resolver_tries.specs.Stream.{messages_of}
use Rattle.hickory_resolver_tries.proofs.Streams.{none_taken, one_taken, messages_step}
use Rattle.hickory_resolver_tries.proofs.message_stream.take_all.Goals as goal

pub returns-in_default-clause-messages : goal.returns-in_default-clause-messages
returns-in_default-clause-messages c =
    let taken = rw c.in_default.is at c.in_ok-message.ensures.taken in
    let none = none_taken (c.messages.stream ++ c.messages.piece.now) c.next.new.self c.in_ok-message.behind.now taken in
    let out = label_bytes c.messages.out.items in
    sym (append-nil out) ∙ ap (λ (m : List (List ℕ)). out ++ m) (sym none.0) ∙ c.messages.invariant.0

pub returns-in_default-clause-rest : goal.returns-in_default-clause-rest
returns-in_default-clause-rest c =
    let taken = rw c.in_default.is at c.in_ok-message.ensures.taken in
    let none = none_taken (c.messages.stream ++ c.messages.piece.now) c.next.new.self c.in_ok-message.behind.now taken in
    none.1 ∙ c.messages.invariant.1

pub messages-preserved : goal.messages-preserved
messages-preserved c =
    let taken = rw c.in-Some.is at c.in_ok-message.ensures.taken in
    let one = one_taken (c.messages.stream ++ c.messages.piece.now) c.next.new.self c.in_ok-message.behind.now c.in-Some.message.items taken in (
      messages_step c.messages.out.items c.push.new.self.items c.in-Some.message
          (messages_of (c.messages.stream ++ c.messages.piece.now)) (messages_of (c.next.new.self ++ c.in_ok-message.behind.now)) _
          c.in_ok-push.ensures.items one.0 c.messages.invariant.0,
      sym one.1 ∙ c.messages.invariant.1,
    )
