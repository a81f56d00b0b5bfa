use Rattle.std.proofs.Common.{◌≡◌, OnOk, sym, subst}
use Rattle.resolv_conf.specs.Said.{Said, with_said}
use Rattle.resolv_conf.specs.declared.keyword.Keyword.TheVariants.{NameServer, Domain, Search, Options, Other, Nothing}
use Rattle.resolv_conf.proofs.SaidLemmas.{line_said-as, with_said-nothing}
use Rattle.resolv_conf.proofs.reading.Reading.read_line.Goals as goal

pub returns-in-NameServer : goal.returns-in-NameServer
returns-in-NameServer c =
    let P : Said → Type 0 = λ said. OnOk c.read_server.result (c.read_server.new.self ≡ with_said c.args.self.now said) in
    subst P (line_said-as c.args.last c.args.number c.args.line.now c.split_word.result.1.now NameServer c.in-NameServer.ensures c.split_word.ensures.rest) c.read_server.ensures

pub returns-in-Domain : goal.returns-in-Domain
returns-in-Domain c =
    let P : Said → Type 0 = λ said. OnOk c.read_domain.result (c.read_domain.new.self ≡ with_said c.args.self.now said) in
    subst P (line_said-as c.args.last c.args.number c.args.line.now c.split_word.result.1.now Domain c.in-Domain.ensures c.split_word.ensures.rest) c.read_domain.ensures

pub returns-in-Search : goal.returns-in-Search
returns-in-Search c =
    let P : Said → Type 0 = λ said. OnOk c.read_search.result (c.read_search.new.self ≡ with_said c.args.self.now said) in
    subst P (line_said-as c.args.last c.args.number c.args.line.now c.split_word.result.1.now Search c.in-Search.ensures c.split_word.ensures.rest) c.read_search.ensures

pub returns-in-Options : goal.returns-in-Options
returns-in-Options c =
    let P : Said → Type 0 = λ said. OnOk c.read_options.result (c.read_options.new.self ≡ with_said c.args.self.now said) in
    subst P (line_said-as c.args.last c.args.number c.args.line.now c.split_word.result.1.now Options c.in-Options.ensures c.split_word.ensures.rest) c.read_options.ensures

pub returns-in-Other : goal.returns-in-Other
returns-in-Other c =
    let P : Said → Type 0 = λ said. OnOk c.pass_over.result (c.pass_over.new.self ≡ with_said c.args.self.now said) in
    subst P (line_said-as c.args.last c.args.number c.args.line.now c.split_word.result.1.now Other c.in-Other.ensures c.split_word.ensures.rest) c.pass_over.ensures

pub returns-in-Nothing : goal.returns-in-Nothing
returns-in-Nothing c =
    let P : Said → Type 0 = λ said. c.args.self.now ≡ with_said c.args.self.now said in
    subst P (line_said-as c.args.last c.args.number c.args.line.now c.split_word.result.1.now Nothing c.in-Nothing.ensures c.split_word.ensures.rest)
    (sym (with_said-nothing c.args.self.now))
