-- One string after another.
use Rattle.std.proofs.Common.{◌≡◌, [], ◌∷◌, ◌++◌, codes}
use Rattle.hickory_proto_core.specs.Name.{label_bytes}
use Rattle.yimarotu_forwarder.specs.Statistics.{count_text}
use Rattle.yimarotu_forwarder.proofs.Pushed.{done_last, pushed}
use Rattle.yimarotu_forwarder.proofs.statistics.push_counts.Goals as goal

pub returns : goal.returns
returns c =
    let old = label_bytes c.args.texts.now.items in
    let n = c.args.counts.now in
    let t1 = count_text (codes "queries=") n.queries in
    let t2 = count_text (codes "from_cache=") n.from_cache in
    let t3 = count_text (codes "local=") n.local in
    let t4 = count_text (codes "failures_told=") n.failures_told in
    let t5 = count_text (codes "refused=") n.refused in
    let t6 = count_text (codes "dropped=") n.dropped in
    let t7 = count_text (codes "waited=") n.waited in
    let t8 = count_text (codes "prefetched=") n.prefetched in
    let m1 = label_bytes c.push_count.new.texts.items in
    let m2 = label_bytes c.push_count-2.new.texts.items in
    let m3 = label_bytes c.push_count-3.new.texts.items in
    let m4 = label_bytes c.push_count-4.new.texts.items in
    let m5 = label_bytes c.push_count-5.new.texts.items in
    let m6 = label_bytes c.push_count-6.new.texts.items in
    let m7 = label_bytes c.push_count-7.new.texts.items in
    let m8 = label_bytes c.push_count-8.new.texts.items in
    let two : m2 ≡ old ++ t1 ∷ t2 ∷ [] =
    pushed old (t1 ∷ []) m1 m2 t2 c.in_ok-push_count.ensures c.in_ok-push_count-2.ensures in
    let three : m3 ≡ old ++ t1 ∷ t2 ∷ t3 ∷ [] =
    pushed old (t1 ∷ t2 ∷ []) m2 m3 t3 two c.in_ok-push_count-3.ensures in
    let four : m4 ≡ old ++ t1 ∷ t2 ∷ t3 ∷ t4 ∷ [] =
    pushed old (t1 ∷ t2 ∷ t3 ∷ []) m3 m4 t4 three c.in_ok-push_count-4.ensures in
    let five : m5 ≡ old ++ t1 ∷ t2 ∷ t3 ∷ t4 ∷ t5 ∷ [] =
    pushed old (t1 ∷ t2 ∷ t3 ∷ t4 ∷ []) m4 m5 t5 four c.in_ok-push_count-5.ensures in
    let six : m6 ≡ old ++ t1 ∷ t2 ∷ t3 ∷ t4 ∷ t5 ∷ t6 ∷ [] =
    pushed old (t1 ∷ t2 ∷ t3 ∷ t4 ∷ t5 ∷ []) m5 m6 t6 five c.in_ok-push_count-6.ensures in
    let seven : m7 ≡ old ++ t1 ∷ t2 ∷ t3 ∷ t4 ∷ t5 ∷ t6 ∷ t7 ∷ [] =
    pushed old (t1 ∷ t2 ∷ t3 ∷ t4 ∷ t5 ∷ t6 ∷ []) m6 m7 t7 six c.in_ok-push_count-7.ensures in
    done_last old (t1 ∷ t2 ∷ t3 ∷ t4 ∷ t5 ∷ t6 ∷ t7 ∷ []) m7 m8 t8 c.push_count-8.result seven c.push_count-8.ensures
