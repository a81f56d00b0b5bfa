use Rattle.std.proofs.Common.{◌≡◌, ◌∙◌, ◌++◌, ◌∷◌, [], ap, false, subst, sym, true}
use Rattle.std.proofs.lemmas.Result.{IfOk-weaker}
use Rattle.trace_judge.specs.Index.{AddsOwner, GapsSee, GapsValue, SeesAs, chain_by, chains_in, is_unknown}
use Rattle.trace_judge.specs.Receptions.{reception_at}
use Rattle.trace_judge.proofs.Owning.{gaps_nsec3, gaps_other}
use Rattle.trace_judge.proofs.gaps.Gaps.add.Goals as goal

pub returns-then-is_unknown-2 : goal.returns-then-is_unknown-2
returns-then-is_unknown-2 c = λ from before held.
    let r = c.args.found.now in let new = reception_at c.args.moment r in
    let was : GapsValue = record { nsec = c.self.inside.nsec; nsec3 = c.self.inside.nsec3; chains = c.self.inside.chains } in
    let nsec3 = c.add-then-is_unknown-2.new.self in let chains = c.keep_chain.new.chains in
    let sees : GapsSee from was before = subst (λ g. GapsSee from g before) (sym c.self.view_is) held in
    let is : is_unknown 50 r.rdata ≡ true
    = sym (ap (λ v. is_unknown 50 v.rdata) c.found.view_is) ∙ sym c.is_unknown-2.ensures ∙ c.if-is_unknown-2.true in
    let adds : AddsOwner new was.nsec3 nsec3
    = subst (λ n. AddsOwner n was.nsec3 nsec3) c.in_ok-copied-2.ensures c.in_ok-add.ensures in
    IfOk-weaker c.keep_chain.result (λ _. SeesAs from chains (chains_in before ++ chain_by c.args.moment r r.rdata))
    (λ _. GapsSee from (record was { nsec3 = nsec3; chains = chains }) (before ++ new ∷ []))
    (λ _ kept. gaps_nsec3 from was nsec3 chains before new is adds kept sees)
    (c.keep_chain.ensures from (chains_in before) sees.chains_are)

pub returns : goal.returns
returns c = λ from before held.
    let r = c.args.found.now in
    let nsec : is_unknown 47 r.rdata ≡ false
    = sym (ap (λ v. is_unknown 47 v.rdata) c.found.view_is) ∙ sym c.is_unknown.ensures ∙ c.if-is_unknown.false in
    let nsec3 : is_unknown 50 r.rdata ≡ false
    = sym (ap (λ v. is_unknown 50 v.rdata) c.found.view_is) ∙ sym c.is_unknown-2.ensures ∙ c.if-is_unknown-2.false in
    gaps_other from c.args.self.now before (reception_at c.args.moment r) nsec nsec3 held
