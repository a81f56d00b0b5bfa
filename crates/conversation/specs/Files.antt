-- Files that are said line by line before the first request.
use Rattle.std.specs.Prelude.{ℕ, List, [], ◌++◌}
use Rattle.conversation.specs.declared.files.FileKind.{FileKind}
use Rattle.conversation.specs.declared.files.FileKind.TheVariants.{Hosts, ResolvConf}

-- the file of hosts, and the file resolv.conf
pub record FilesValue : Type 0 where
  pub hosts : List ℕ
  pub resolv : List ℕ

-- more at the end of a file
abbrev pub with_text : FileKind → List ℕ → FilesValue → FilesValue
with_text Hosts text files = record files { hosts = files.hosts ++ text }
with_text ResolvConf text files = record files { resolv = files.resolv ++ text }

-- a file of hosts alone
abbrev pub only_hosts : List ℕ → FilesValue
only_hosts hosts = record { hosts = hosts; resolv = [] }
