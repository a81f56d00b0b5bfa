use Rattle.std.proofs.Common.{◌≡◌, ◌∙◌, IfOk, Option, sym, subst}
use Rattle.resolv_conf.specs.declared.server.Server.{Server}
use Rattle.resolv_conf.proofs.ServerWords.{server_of-cut, server_of-plain}
use Rattle.resolv_conf.proofs.server.read_server.Goals as goal

pub returns-in-Some-clause-server : goal.returns-in-Some-clause-server
returns-in-Some-clause-server c =
    let P : Option Server → Type 0 = λ s. IfOk c.scoped_server.result (λ server. server ≡ s) in
    subst P (sym (server_of-cut c.args.word.now c.in-Some.text.now c.in-Some.scope.now c.in-Some.ensures)) c.scoped_server.ensures

pub returns-in-None-clause-server : goal.returns-in-None-clause-server
returns-in-None-clause-server c =
    c.plain_server.ensures ∙ sym (server_of-plain c.args.word.now c.in-None.ensures)
