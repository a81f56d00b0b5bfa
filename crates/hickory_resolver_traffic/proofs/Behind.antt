-- What is behind the first message of a stream of which some octets are read.
use Rattle.std.proofs.Common.{◌≡◌, ℕ, ◌+◌, List, [], drop, take, ap, sym, ◌∙◌}
use Rattle.std.specs.Prelude.{Option, Some}
use Rattle.std.specs.Option.{option_map_or}
use Rattle.std.proofs.lemmas.List.{drop-drop}
use Rattle.hickory_resolver_tries.specs.Stream.{first_of}

-- of these octets so many are read, and so many more are those of the message
pub behind_first : (octets unread stream : List ℕ) (read len : ℕ) (first : List ℕ × List ℕ)
    → drop read octets ≡ stream → unread ≡ stream
    → first_of unread ≡ Some (take len (drop 2 unread), drop len (drop 2 unread))
    → first_of stream ≡ Some first
    → drop (read + (2 + len)) octets ≡ first.1
behind_first octets unread stream read len first viewed is found first_is =
    let behind : Option (List ℕ × List ℕ) → List ℕ = λ o. option_map_or (λ f. f.1) o [] in
    sym (drop-drop (2 + len) read octets) ∙ sym (drop-drop len 2 (drop read octets))
    ∙ ap (λ (u : List ℕ). drop len (drop 2 u)) (viewed ∙ sym is)
    ∙ ap behind (sym found ∙ ap first_of is ∙ first_is)
