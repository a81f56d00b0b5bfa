use Rattle.std.proofs.Common.{string_bytes}
use Rattle.std.proofs.lemmas.Result.{on_ok_weaker}
use Rattle.conversation.specs.State.{begun_of, requests_of}
use Rattle.conversation.proofs.Told.{kept_asking}
use Rattle.conversation.proofs.requests.wait.Goals as goal

pub returns-in-Ok-clause-kept : goal.returns-in-Ok-clause-kept
returns-in-Ok-clause-kept c = on_ok_weaker c.keep.result
    (kept_asking c.args.mark.now (string_bytes c.in-Ok.key) (begun_of c.args.begun) (begun_of c.ask_next.new.begun)
    c.args.waiting (requests_of c.args.requests.now.entries) (requests_of c.keep.new.requests.entries)
    c.in-Ok.ensures.key c.in-Ok.ensures.noted) c.keep.ensures.kept
