use Rattle.std.proofs.Common.{Ok, ap, inl, map, string_bytes}
use Rattle.replay_script.specs.Configuration.{ConfigurationValue}
use Rattle.conversation.proofs.FileLines.{whole_fault}
use Rattle.conversation.proofs.file_settings.set_file.Goals as goal

pub returns-in-Ok : goal.returns-in-Ok
returns-in-Ok c = inl (Ok c.set_lines.new.configuration, c.in-Ok.ensures, ap (λ (x : ConfigurationValue). Ok x) c.with_edns.ensures)

pub returns-in-Err : goal.returns-in-Err
returns-in-Err c = whole_fault (record { lines = map string_bytes c.args.lines.now; edns = c.args.edns }) c.args.before c.in-Err.fault c.in-Err.ensures
