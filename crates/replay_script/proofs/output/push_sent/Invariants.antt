use Rattle.std.proofs.Common.{◌≡◌, ◌++◌, take, map, string_bytes}
use Rattle.replay_script.specs.Output.{sent_text}
use Rattle.replay_script.proofs.output.push_sent.Given as goal

abbrev pub invariant-loop-exchange : goal.invariant-loop-exchange
invariant-loop-exchange l = string_bytes l.text
    ≡ string_bytes l.initial.text ++ sent_text (map (λ x. x.query) (take l.exchange-index l.exchanges))
