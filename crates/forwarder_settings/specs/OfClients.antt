-- What settings say of clients: who may ask, and how much is done for them. No reply that is kept comes of that.
use Rattle.std.specs.Prelude.{ℕ, Bool, true, false, not, ◌||◌, ◌&&◌, List, [], ◌∷◌, codes, filter}
use Rattle.std.specs.Str.{bytes_eq}
use Rattle.std.specs.Str.Lines.{lines}
use Rattle.std.specs.Cmp.Lexicographic.{pointwise}
use Rattle.hickory_proto_core.specs.Codes.{is_text}
use Rattle.replay_script.specs.Fields.{is_skipped}
use Rattle.forwarder_settings.specs.Blocked.{fields_of}

abbrev pub is_option_of_clients : List ℕ → Bool
is_option_of_clients key =
    is_text (codes "drops_strangers") key || is_text (codes "prefetches") key || is_text (codes "serves_stale") key
    || is_text (codes "clients") key || is_text (codes "clients_of_address") key
    || is_text (codes "clients_of_question") key

-- KEY VALUE
abbrev pub sets_clients : List (List ℕ) → Bool
sets_clients [] = false
sets_clients (key ∷ values) = is_option_of_clients key

-- `allow` PREFIX, or `option` with such a key
abbrev pub are_of_clients : List (List ℕ) → Bool
are_of_clients [] = false
are_of_clients (word ∷ values) =
    is_text (codes "allow") word || (is_text (codes "option") word && sets_clients values)

-- a line that says nothing else
abbrev pub is_of_clients : List ℕ → Bool
is_of_clients line = is_skipped line || are_of_clients (fields_of line)

-- the lines that say something else
abbrev pub other_lines : List ℕ → List (List ℕ)
other_lines settings = filter (λ line. not (is_of_clients line)) (lines settings)

-- All else is said in the same lines.
abbrev pub differ_at_most_in_clients : List ℕ → List ℕ → Bool
differ_at_most_in_clients one other = pointwise bytes_eq (other_lines one) (other_lines other)
