-- Where no pair is left, no server is.
use Rattle.std.proofs.Common.{◌∙◌, ◌++◌, ap, map, sym}
use Rattle.std.proofs.lemmas.List.{append-nil}
use Rattle.std.proofs.lemmas.Slice.Zip.{either_empty_from_Zip}
use Rattle.std.specs.Iterator.Adapters.{zip_first, zip_second}
use Rattle.std.specs.Slice.Iter.{iter_rest}
use Rattle.resolv_conf.proofs.ServerLists.{zip-empty}
use Rattle.session_settings.specs.ServerLine.{scoped}
use Rattle.session_settings.proofs.server_line.push_servers.Goals as goal

pub returns : goal.returns
returns c =
    let left = c.loop-config.config-iterator in
    let none = zip-empty (iter_rest (zip_first left)) (iter_rest (zip_second left)) (either_empty_from_Zip left c.next.new.self c.next.result c.in-None.is c.next.ensures.steps) in
    sym (append-nil c.loop-config.servers.items) ∙ ap (λ pairs. c.loop-config.servers.items ++ map scoped pairs) (sym none) ∙ c.loop-config.invariant
