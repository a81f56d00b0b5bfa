use Rattle.client_queries.specs.Refusals.{question_octets}
use Rattle.stored_replies.proofs.Cut.{all_written}
use Rattle.stored_replies.proofs.Telling.{spelled_alike}
use Rattle.stored_replies.proofs.laws.replies_are_written_messages.Goals as goal

pub returns-clause-whole : goal.returns-clause-whole
returns-clause-whole c = λ m limit octets written enough. all_written m limit octets written enough

pub returns-clause-alike : goal.returns-clause-alike
returns-clause-alike c = λ octets q s trust now same.
    spelled_alike s q trust now (question_octets octets q.question_end) same
