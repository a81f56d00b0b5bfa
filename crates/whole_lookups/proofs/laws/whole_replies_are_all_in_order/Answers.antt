use Rattle.whole_lookups.proofs.InOrder.{whole_replies_are_all_in_order}
use Rattle.whole_lookups.proofs.laws.whole_replies_are_all_in_order.Goals as goal

pub returns : goal.returns
returns c = whole_replies_are_all_in_order
