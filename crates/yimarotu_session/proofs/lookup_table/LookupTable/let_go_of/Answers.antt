-- Each value is written.
use Rattle.std.proofs.Common.{List, ap, rules, ℕ}
use Rattle.std.proofs.lemmas.Map.Made.{map_same_pairs}
use Rattle.yimarotu_session.proofs.Attempted.{is_among}
use Rattle.yimarotu_session.proofs.lookup_table.LookupTable.let_go_of.Goals as goal
use Rattle.yimarotu_session.specs.Ahead.{untold}
use Rattle.yimarotu_session.specs.LookupTables.{table_of}
use Rattle.yimarotu_session.specs.declared.ahead.Ahead.{Ahead}

-- src/lookup_table.rt
pub returns : goal.returns
returns c =
    ap (λ (l : List (ℕ × Ahead)). record (table_of c.args.self.now) { ahead = l })
    (map_same_pairs _ (untold (is_among c.args.attempted.now)) _ (λ k v b w f' t. search rules) _ _ c.retain.ensures.filtered)
