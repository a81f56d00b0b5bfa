-- `into_parts` moves two fields, and what they own goes with them.
use Rattle.std.proofs.Common.{◌≡◌, List, [], ◌∷◌, ◌++◌, refl, sym, subst}
use mir.Val.{Val}
use base.Logic.{SProp, ent, emp, id⊢}
use base.Fml.{ftrue, fsep}
use prog.Wp.{WpFn}
use types.Kit.{‵, raw, ◌⊛◌, ◌$◌, ◌∵◌, !, qed, by, move, keep, rewrite, use0, use1, split, fsplit, fjoin, suffices}
use types.Part.{whole, sub, agg}
use types.Run.{stop, fld, no_more, and_then, of_opd, returns, enter}
use types.ByLocal.{alloc_all, pass_all, free_all, look_at, get, get_in, sets}
use contract.Monad.{fact, fact_i}
use contract.Running.{tables}
use denote.Exit.{yes}
use denote.Signature.{type_at}
use denote.Steps.{nothing, heard}
use denote.Triple.Walked.{Stays, stay_dropped, walk_of, Goes-dropped}
use Rattle.std.specs.Prelude.{Option, Some, IsSome}
use Rattle.yimarotu_forwarder_c.specs.Insides.{Kept}
use Rattle.yimarotu_forwarder_c.specs.contracts.inside.Inside as inside
use Rattle.std.proofs.BoxSteps.Form.{D, B, word, box_typed}
use Rattle.std.proofs.BoxSteps.Steps.{box_out, box_in}
use Rattle.std.proofs.raw_atomic.Walks.{proved_at, leaves}
use Rattle.yimarotu_forwarder_c.proofs.Boxed.{E, InsideHere as From, some_of}
use Rattle.yimarotu_forwarder_c.specs.contracts.inside.Inside.into_parts as f
use Rattle.yimarotu_forwarder_c.specs.contracts.inside.Inside.into_parts.Key.{name as #self}
use Rattle.yimarotu_forwarder_c.proofs.inside.Inside.into_parts.Statement.{statement}
use Rattle.yimarotu_forwarder_c.proofs.inside.Inside.into_parts.Code as code

pub into_parts_spec : {M : Type 1} → statement M
into_parts_spec 𝓤 𝓛 𝓜 𝓡 wired =
    let H = 𝓛.H in let 𝓣 = tables 𝓤 H 𝓜 𝓡 𝓡.env in let En = f.ended in let c = f.clauses 𝓛 𝓜.mem 𝓡.returns in let fn = code.function in
    let hs : Stays En.signature.params En.kept = (stay_dropped From yes, tt) in
    proved_at 𝓛 En hs c 𝓜 𝓡 (Goes-dropped 𝓛 0 From yes (λ κs x f. refl), tt) #self fn (code.unfolded 𝓤 H 𝓜 𝓡 wired) (λ z are.
    let Post : Val → SProp 𝓤 = (walk_of 𝓛 En hs c).post z in let Run : List Val → SProp 𝓤 = λ ws. WpFn 𝓤 H 𝓣.C 𝓣.Λ fn ws Post in
    let d = z.0.3.0 in let Row = inside.the_row in
    qed 𝓛 ((‵ ftrue ⊛ ‵ (fsep (Row.own_val d z.0.4.0) ftrue)) ∷ raw (fact 𝓤 (IsSome d.value)) ∷ []) ∵ move ! (1 ∷ []) $ heard ! (IsSome d.value) (λ there.
    let x = some_of d.value there in let v : D E = record { ptr = d.at; alloc = d.alloc; value = x.0 } in
    let To = type_at En.signature.result tt in let made : To.Denot = record { at = d.at; alloc = d.alloc; value = x.0 } in
    split ! $ move ! (1 ∷ []) $ fsplit ! $
    rewrite ! 0 (λ (o : Option Kept). ‵ (Row.own_val (record { at = d.at; alloc = d.alloc; value = o }) z.0.4.0)) x.1 refl $ use1 𝓛 (‵ ((B E).own_val v z.0.4.0)) (id⊢ 𝓤 _) $
    box_out E ! v z.0.4.0 (λ b o h e ws fits. box_in E ! v b o v.value e refl $ use1 𝓛 (‵ (To.own_val made (word E h b o ∷ []))) (id⊢ 𝓤 _) $
    let w : Val = word E h b o in let typed = box_typed E h b o fits in
    suffices ! (Run (w ∷ [])) (subst (λ (us : List Val). ent 𝓤 (Run (w ∷ [])) (Run us)) (sym (λ i. ws i ++ [])) (id⊢ 𝓤 (Run (w ∷ [])))) $
    enter ! 𝓣.C 𝓣.Λ fn (w ∷ []) Post $ alloc_all ! (λ l. pass_all ! refl (typed, tt) $
    sets ! (of_opd ! (get_in ! (fld ! refl (stop !)) (sub ! 0 refl (whole !)))) refl (tt, tt) $ sets ! (of_opd ! (get_in ! (fld ! refl (stop !)) (sub ! 1 refl (whole !)))) refl fits $
    sets ! (of_opd ! (get ! refl)) refl (tt, tt) $ sets ! (agg ! (and_then ! (get ! refl) (and_then ! (get ! refl) (no_more !)))) refl typed $
    use0 𝓛 (raw (fact 𝓤 (Some x.0 ≡ d.value))) (fact_i 𝓤 (Some x.0 ≡ d.value) (emp 𝓤) (sym x.1)) $ nothing ! $ nothing ! $ fjoin ! $
    returns ! (look_at ! 0 refl) $ free_all ! refl $ keep ! (4 ∷ 0 ∷ 2 ∷ 1 ∷ []) $ by ! (leaves 𝓛 En hs c z w made (tt, tt) (tt, tt))))))
