-- How the labels of a name are kept: its own, or shared with its copies.
use Rattle.std.specs.Prelude.{ℕ, List}
use Rattle.std.specs.Arc.{arc_value}
use Rattle.hickory_proto_names.specs.declared.label_list.Kept.{Kept}
use Rattle.hickory_proto_names.specs.declared.label_list.Kept.TheVariants.{Own, Shared}
use Rattle.hickory_proto_names.specs.Name.{label_bytes}

-- the bytes of each label
abbrev pub kept_labels : Kept → List (List ℕ)
kept_labels (Own labels) = label_bytes labels.items
kept_labels (Shared labels) = arc_value labels
