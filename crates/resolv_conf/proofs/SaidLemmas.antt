-- What is said, one thing after another.
use Rattle.std.proofs.Common.{◌≡◌, ◌∙◌, ◌+◌, ◌≤◌, ℕ, List, length, Option, None, Some, refl, ap, append_assoc, arith, ◌==◌}
use Rattle.std.proofs.lemmas.List.{append-nil, length-map}
use Rattle.std.proofs.lemmas.List.Splits.{length-slice_split}
use Rattle.std.proofs.lemmas.List.Sums.{count_by-le-length, fold-append}
use Rattle.std.specs.Option.{option_or}
use Rattle.resolv_conf.specs.Keyword.{keyword_of}
use Rattle.resolv_conf.specs.Names.{last_domains_line}
use Rattle.resolv_conf.specs.ResolvConf.{default_domain_said, default_server_said, file_said}
use Rattle.resolv_conf.specs.Said.{ReadingValue, Said, keyword_said, line_said, lines_said, nothing_said, reading_begun, then_said, with_said}
use Rattle.resolv_conf.specs.Text.{behind_word, lines_of, words}
use Rattle.resolv_conf.specs.declared.keyword.Keyword.{Keyword}

pub with_said-nothing : (r : ReadingValue) → with_said r nothing_said ≡ r
with_said-nothing r = simp append-nil

pub with_said-then : (r : ReadingValue) (a b : Said) → with_said r (then_said a b) ≡ with_said (with_said r a) b
with_said-then r a b = simp (append_assoc, fold-append)

-- there is a line more than there are line feeds, at most
pub lines_le : (octets : List ℕ) → length (lines_of octets) ≤ length octets + 1
unfolding lines_of
lines_le octets =
    simp length-map (omega (arith, length-slice_split (λ b. b == 10) octets, count_by-le-length (λ b. b == 10) octets))

pub lines_left_le : (octets : List ℕ) (left : List (List ℕ)) → left ≡ lines_of octets → 0 + length left ≤ length octets + 1
lines_left_le octets left e = let whole = ap length e in let all = lines_le octets in omega arith

pub or_nothing : (a : Option ℕ) → option_or a None ≡ a
or_nothing None = refl
or_nothing (Some x) = refl

-- what a line says, by its keyword and its words
pub line_said-as : (last : Option ℕ) (n : ℕ) (line values : List ℕ) (k : Keyword)
    → k ≡ keyword_of line → values ≡ behind_word line → keyword_said last n k (words values) ≡ line_said last n line
unfolding line_said
line_said-as last n line values k named behind =
    ap (λ x. keyword_said last n x (words values)) named
    ∙ ap (λ v. keyword_said last n (keyword_of line) (words v)) behind

-- a file is read step by step
pub file_said-steps : (octets hostname : List ℕ) (last : Option ℕ) (begun lines servers whole : ReadingValue)
    → last ≡ last_domains_line 1 (lines_of octets) → begun ≡ reading_begun
    → lines ≡ with_said begun (lines_said last 1 (lines_of octets))
    → servers ≡ with_said lines (default_server_said (lines_of octets))
    → whole ≡ with_said servers (default_domain_said last hostname)
    → whole ≡ file_said octets hostname
unfolding file_said
file_said-steps octets hostname last begun lines servers whole last_is begun_is lines_are servers_are whole_is =
    whole_is
    ∙ ap (λ x. with_said x (default_domain_said last hostname)) servers_are
    ∙ ap (λ x. with_said (with_said x (default_server_said (lines_of octets))) (default_domain_said last hostname)) lines_are
    ∙ ap (λ x. with_said (with_said (with_said x (lines_said last 1 (lines_of octets))) (default_server_said (lines_of octets))) (default_domain_said last hostname)) begun_is
    ∙ ap (λ x. with_said (with_said (with_said reading_begun (lines_said x 1 (lines_of octets))) (default_server_said (lines_of octets))) (default_domain_said x hostname)) last_is
