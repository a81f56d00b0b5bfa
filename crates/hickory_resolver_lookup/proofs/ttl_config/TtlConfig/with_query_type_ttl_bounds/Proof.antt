-- The walk: `change` is called with the whole reference, and `handed_back` with what it gives. What rests with the struct after
-- the first call is then lent to the caller.
use Rattle.std.proofs.Common.{◌≡◌, [], ◌∷◌, Ok, Err, refl, sym, subst}
use Rattle.std.proofs.raw_atomic.Walks.{proved}
use seplogic.Ra.Ura.{Ura}
use base.Fml.{ftrue, flft, fres}
use base.Logic.{id⊢, ent}
use types.Logic.{Logic, sem}
use denote.Follow.{follows, follows_by, such_by}
use Rattle.std.proofs.mem.Facts.{says_three}
use mir.Syntax.{named}
use contract.Monad.{fact}
use contract.Running.{tables}
use types.Kit.{‵, raw, ◌⊛◌, some, later, ◌$◌, ◌∵◌, !, qed, done, move, drop, split, join, use1, use2, pick, await, fjoin, fpick, rewrite, suffices, frame}
use types.Run.{enter, addr, stop, and_then, no_more, returns}
use types.ByLocal.{alloc_all, pass_all, free_all, look_at, get, through, sets, lands_as}
use denote.Exit.{yes, no}
use denote.Ref.{MutBor, MutRef, mut_vals, mut_Tells}
use denote.RattleType.{RattleType}
use denote.Signature.{plain, named_lft}
use contract.Lifetimes.{Lfts}
use denote.Param.Laws.{Laws, of_field, row_shared}
use denote.Param.Shared.{mut_ref_shared}
use denote.Struct.Field.{mut_ref_field}
use denote.Struct.Laws.{mut_ref_laws}
use denote.Steps.{nothing, heard, peeks}
use denote.Laws.{shows}
use denote.Enum.Laws as enum
use denote.Enum.Loose.{loose_lawful}
use denote.Triple.Call.{calls_at}
use denote.Triple.Clauses.{Lasts, lasts}
use denote.Triple.Spec.{triple_of}
use denote.Triple.Table.{framed}
use denote.Triple.Walked.{Stays, walk_of, stay_dropped, Goes-dropped, Goes-spent_ref, ends_at}
use Rattle.hickory_proto_core.specs.contracts.RecordType.{the_type as type_of_records, the_row as RecordTypes}
use Rattle.hickory_proto_core.proofs.RecordType.TheLaws as type-laws
use Rattle.hickory_resolver_lookup.specs.contracts.ttl_bounds.TtlBounds.{the_row as Bounds}
use Rattle.hickory_resolver_lookup.proofs.ttl_bounds.TtlBounds.TheLaws as bounds-laws
use Rattle.hickory_resolver_lookup.specs.contracts.ttl_config.TtlConfig.{the_row as Config}
use Rattle.hickory_resolver_lookup.proofs.ttl_config.TtlConfig.TheLaws as config-laws
use Rattle.std.specs.Prelude.{Result, IfOk, IsOkUnless}
use Rattle.std.specs.Result.{result_map_both}
use Rattle.std.specs.contracts.result.Result.{the_row as ResultRow}
use Rattle.std.proofs.result.Result.TheLaws as result-laws
use Rattle.hickory_proto_core.specs.Codes.{type_code}
use Rattle.hickory_proto_core.specs.declared.NetError.{NetError}
use Rattle.hickory_proto_core.specs.contracts.NetError.{the_row as Errors}
use Rattle.hickory_proto_core.proofs.NetError.TheLaws as error-laws
use Rattle.hickory_resolver_model.specs.Bounds.{ConfigValue, SetsBounds}
use Rattle.hickory_resolver_lookup.specs.ConfigLends.{RestsConfig, LendsConfig}
use Rattle.hickory_resolver_lookup.specs.declared.ttl_config.Changed.{Changed}
use Rattle.hickory_resolver_lookup.specs.contracts.ttl_config.Changed.{the_row as ChangedRow}
use Rattle.hickory_resolver_lookup.proofs.ttl_config.Changed.TheLaws as changed-laws
use Rattle.hickory_resolver_lookup.specs.contracts.ttl_config.TtlConfig.with_query_type_ttl_bounds as f
use Rattle.hickory_resolver_lookup.specs.contracts.ttl_config.TtlConfig.change as g
use Rattle.hickory_resolver_lookup.specs.contracts.ttl_config.handed_back as h
use Rattle.hickory_resolver_lookup.proofs.ttl_config.TtlConfig.with_query_type_ttl_bounds.Statement.{statement}
use Rattle.hickory_resolver_lookup.proofs.ttl_config.TtlConfig.with_query_type_ttl_bounds.Code as code
use Rattle.hickory_resolver_lookup.proofs.ttl_config.TtlConfig.change.Met.{met as change-met}
use Rattle.hickory_resolver_lookup.proofs.ttl_config.handed_back.Met.{met as handed_back-met}

-- a configuration that is kept in a struct, one that is not, and a result with either
abbrev Kept : Lfts 1 → RattleType
Kept κs = ChangedRow (named_lft 1 0 tt κs)

abbrev Refusable : RattleType → RattleType
Refusable R = ResultRow R Errors

abbrev Lent : Lfts 1 → RattleType
Lent κs = MutRef (named 0) κs.0 Config

kept-laws : (κs : Lfts 1) → Laws (Refusable (Kept κs))
kept-laws κs = result-laws.the_row_laws (Kept κs) Errors (changed-laws.the_row_laws (named_lft 1 0 tt κs)) error-laws.the_row_laws

lent-laws : (κs : Lfts 1) → Laws (Refusable (Lent κs))
lent-laws κs =
    let ℓ = named_lft 1 0 tt κs in
    result-laws.the_row_laws (Lent κs) Errors (of_field (mut_ref_field ℓ Config tt) (mut_ref_laws ℓ Config tt) refl (mut_ref_shared ℓ Config tt (row_shared Config config-laws.the_row_laws))) error-laws.the_row_laws

-- what is handed back of what was kept
abbrev handed : Result Changed NetError → Result (MutBor ConfigValue) NetError
handed r = result_map_both (λ kept. kept.config) (λ e. e) r

still_ok : (P : MutBor ConfigValue → Type 0) (r : Result Changed NetError) → IfOk r (λ kept. P kept.config) → IfOk (handed r) P
still_ok P (Ok kept) p = p
still_ok P (Err e) p = p

still_err : (e : NetError) (r : Result Changed NetError) → IsOkUnless r e → IsOkUnless (handed r) e
still_err e (Ok kept) p = p
still_err e (Err e') p = p

-- what rests with the struct is lent to the caller
lends : {M : Type 1} {𝓤 : Ura M} (𝓛 : Logic 𝓤) (config : MutBor ConfigValue) (r : Result Changed NetError) → ent 𝓤 (sem 𝓛 (RestsConfig config r)) (sem 𝓛 (LendsConfig config (handed r)))
unfolding such_by follows_by
lends 𝓛 config (Ok kept) =
    qed 𝓛 (‵ (RestsConfig {E = NetError} config (Ok kept)) ∷ []) ∵ fpick ! (λ s. rewrite ! 0 (λ (F : ConfigValue → ConfigValue). ‵ (follows Config Config config.ghost_name kept.config.ghost_name F)) (λ i last. s.1 last i) refl $ done !)
lends 𝓛 config (Err e) =
    qed 𝓛 (‵ (RestsConfig config (Err e)) ∷ []) ∵ fpick ! (λ s. rewrite ! 0 (λ (v : ConfigValue). ‵ (fres config.ghost_name (Config.coded.code v))) s.2 refl $ done !)

abbrev stayed : Stays f.ended.signature.params f.ended.kept
stayed = (stay_dropped _ no, (stay_dropped _ yes, (stay_dropped _ yes, tt)))

pub with_query_type_ttl_bounds_spec : {M : Type 1} → statement M
with_query_type_ttl_bounds_spec 𝓤 𝓛 𝓜 𝓡 wired =
    let c = f.clauses 𝓛 𝓜.mem 𝓡.returns in let W = walk_of 𝓛 f.ended stayed c in
    proved 𝓛 f.ended stayed c 𝓜 𝓡
    (Goes-spent_ref 𝓛 1 (0 ∷ []) tt (plain (λ _. Config)), (Goes-dropped 𝓛 1 (plain (λ _. RecordTypes)) yes (λ κs x w. refl), (Goes-dropped 𝓛 1 (plain (λ _. Bounds)) yes (λ κs x w. refl), tt)))
    f.Key.name code.function (code.unfolded 𝓤 𝓛.H 𝓜 𝓡 wired)
    (λ κs. (mut_vals, (enum.vals type_of_records type-laws.the_laws, ((λ x. (bounds-laws.the_told).val x ∷ []), tt))))
    (λ κs. (mut_Tells (named 0) κs.0 Config, (enum.tells type_of_records type-laws.the_laws, ((bounds-laws.the_told).tells, tt))))
    (λ κs qs bounds a _ are.
    let ts = enum.vals type_of_records type-laws.the_laws a.1.0 in
    let bs = (bounds-laws.the_told).val a.1.1.0 ∷ [] in
    let y : W.Ghost = ((κs, qs, bounds, a, (mut_vals a.0, (ts, (bs, tt)))), tt) in
    let G = triple_of 𝓛 g.signature (g.spec 𝓛 𝓜.mem 𝓡.returns) in
    let z : G.Ghost = ((κs, qs, bounds, a, (mut_vals a.0, (ts, (bs, tt)))), tt) in
    qed 𝓛 (raw (G.pre z) ∷ []) ∵ enter ! _ _ _ _ _ $
    alloc_all ! (λ l. pass_all ! refl ((tt, tt), (((loose_lawful type_of_records type-laws.the_loose tt 𝓛).typed a.1.0 _ are.1.0).0, ((((bounds-laws.the_row_laws).lawful 𝓛).typed a.1.1.0 _ are.1.1.0).0, tt))) $
    sets ! (addr ! (through ! refl (stop !))) refl (tt, tt) $
    calls_at ! (framed 𝓤 𝓛.H 𝓜 (tables 𝓤 𝓛.H 𝓜 𝓡 𝓡.env)) G (change-met 𝓤 𝓛 𝓜 𝓡 (code.calls-hickory_resolver_lookup::ttl_config::TtlConfig::change 𝓡.env wired)) z
    (and_then ! (get ! refl) (and_then ! (get ! refl) (and_then ! (get ! refl) (no_more !)))) (λ v.
    use1 𝓛 (later (some (λ (r : Result Changed NetError). ((‵ (flft κs.0 qs.0) ⊛ ‵ ftrue) ⊛ ‵ ((Refusable (Kept κs)).own_val r (v ∷ []))) ⊛ some (λ (ws : Lasts g.ended κs a). ‵ (lasts g.ended κs a ws)
    ⊛ ‵ (RestsConfig a.0 r) ⊛ raw (fact 𝓤 (IfOk r (λ kept. kept.config.ghost_name ≡ a.0.ghost_name))) ⊛ raw (fact 𝓤 (IfOk r (λ kept. SetsBounds a.0.now kept.config.now (type_code a.1.0) a.1.1.0))) ⊛ raw (fact 𝓤 (IsOkUnless r NetError.OutOfMemory)))))) (id⊢ 𝓤 _) $
    await ! tt $ pick ! (λ r. split ! $ split ! $ move ! (2 ∷ []) $ pick ! (λ ws. split ! $ drop ! $ split ! $ move ! (1 ∷ []) $ split ! $ heard ! _ (λ name. split ! $ heard ! _ (λ ok. heard ! _ (λ err.
    -- [what the configuration ends as; the token; the configuration, kept]
    move ! (2 ∷ []) $ peeks ! (Refusable (Kept κs)) _ (shows 𝓛 (Refusable (Kept κs))) r (v ∷ []) (λ is.
    lands_as ! refl refl (((kept-laws κs).lawful 𝓛).typed r (v ∷ []) is).0 $
    let H = triple_of 𝓛 h.signature (h.spec 𝓛 𝓜.mem 𝓡.returns) in
    let w : H.Ghost = ((κs, qs, bounds, (r, tt), (v ∷ [], tt)), tt) in
    nothing ! $ move ! (1 ∷ 0 ∷ []) $ join ! $ move ! (2 ∷ 0 ∷ []) $ join ! $ nothing ! $ move ! (1 ∷ 0 ∷ []) $ use2 𝓛 (raw (H.pre w)) (id⊢ 𝓤 _) $
    calls_at ! (framed 𝓤 𝓛.H 𝓜 (tables 𝓤 𝓛.H 𝓜 𝓡 𝓡.env)) H (handed_back-met 𝓤 𝓛 𝓜 𝓡 (code.calls-hickory_resolver_lookup::ttl_config::handed_back 𝓡.env wired)) w
    (and_then ! (get ! refl) (no_more !)) (λ u.
    use1 𝓛 (later (some (λ (x : Result (MutBor ConfigValue) NetError). ((‵ (flft κs.0 qs.0) ⊛ ‵ ftrue) ⊛ ‵ ((Refusable (Lent κs)).own_val x (u ∷ []))) ⊛ some (λ (ws : Lasts h.ended κs (r, tt)). ‵ (lasts h.ended κs (r, tt) ws)
    ⊛ raw (fact 𝓤 (x ≡ handed r)))))) (id⊢ 𝓤 _) $
    await ! tt $ pick ! (λ x. split ! $ split ! $ move ! (2 ∷ []) $ pick ! (λ ws. split ! $ drop ! $ heard ! _ (λ same.
    -- [the token; the configuration; what it ends as]
    move ! (1 ∷ []) $ peeks ! (Refusable (Lent κs)) _ (shows 𝓛 (Refusable (Lent κs))) x (u ∷ []) (λ is.
    lands_as ! refl refl (((lent-laws κs).lawful 𝓛).typed x (u ∷ []) is).0 $
    returns ! (look_at ! 0 refl) $ free_all ! refl $
    move ! (2 ∷ []) $ use1 𝓛 (‵ (LendsConfig a.0 (handed r))) (lends 𝓛 a.0 r) $ rewrite ! 0 (λ (o : Result (MutBor ConfigValue) NetError). ‵ (LendsConfig a.0 o)) (sym same) refl $
    -- [what the configuration ends as; the configuration; the token]
    move ! (1 ∷ 2 ∷ []) $ suffices ! _ (ends_at 𝓛 f.ended stayed c y u x (tt, (tt, (tt, tt))) (tt, (tt, (tt, tt)))) $
    nothing ! $ nothing ! $ fjoin ! $ nothing ! $ fjoin ! $ nothing ! $ fjoin ! $ join ! $ move ! (1 ∷ 0 ∷ []) $ join ! $ frame ! $
    says_three ! (
      subst (λ (o : Result (MutBor ConfigValue) NetError). IfOk o (λ config. config.ghost_name ≡ a.0.ghost_name)) (sym same) (still_ok (λ config. config.ghost_name ≡ a.0.ghost_name) r name),
      subst (λ (o : Result (MutBor ConfigValue) NetError). IfOk o (λ config. SetsBounds a.0.now config.now (type_code a.1.0) a.1.1.0)) (sym same) (still_ok (λ config. SetsBounds a.0.now config.now (type_code a.1.0) a.1.1.0) r ok),
      subst (λ (o : Result (MutBor ConfigValue) NetError). IsOkUnless o NetError.OutOfMemory) (sym same) (still_err NetError.OutOfMemory r err),
    ) $ done !))))))))))))))
