use Rattle.conversation_journal.proofs.Journal.{journal_is_a_script}
use Rattle.conversation_journal.proofs.hearing.the_journal_is_a_script.Goals as goal

pub returns : goal.returns
returns c = journal_is_a_script
