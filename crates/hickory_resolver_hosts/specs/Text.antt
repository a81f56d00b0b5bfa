-- The lines of a text, and its words.
use Rattle.std.specs.Prelude.{ℕ, not, ◌==◌, List, filter}
use Rattle.std.specs.Char.{is_whitespace}
use Rattle.hickory_proto_core.specs.ResponseKind.{is_empty}
use Rattle.hickory_resolver_model.specs.Hosts.{cut_at}

-- the lines, each but the last ended by LF
abbrev pub lines_of : List ℕ → List (List ℕ)
lines_of bytes = cut_at (λ b. b == 10) bytes

-- what stands between white space
abbrev pub words : List ℕ → List (List ℕ)
words cs = filter (λ word. not (is_empty word)) (cut_at is_whitespace cs)
