-- Parts that are written to a room one behind the other.
use Rattle.std.proofs.Common.{◌≡◌, ℕ, ◌+◌, List, ◌++◌, length, drop, refl, sym, ◌∙◌, ap, ap₂, append_assoc, length-append, zero-add}
use Rattle.std.proofs.lemmas.List.{take_at, drop_at, drop-drop}
use Rattle.failure_replies.specs.Rooms.{over}

-- behind what was written before
over_next : (done room new : List ℕ) (at : ℕ) → length done ≡ at
    → over (done ++ drop at room) at new ≡ (done ++ new) ++ drop (at + length new) room
over_next done room new at here =
    let back : drop (at + length new) (done ++ drop at room) ≡ drop (at + length new) room =
    sym (drop-drop (length new) at (done ++ drop at room))
    ∙ ap (drop (length new)) (drop_at done (drop at room) at here) ∙ drop-drop (length new) at room in
    ap₂ (λ (x : List ℕ) (y : List ℕ). x ++ (new ++ y)) (take_at done (drop at room) at here) back
    ∙ sym (append_assoc done new (drop (at + length new) room))

-- after each of three
pub three_parts : (room head question opt first second third : List ℕ) → first ≡ over room 0 head
    → second ≡ over first (length head) question → third ≡ over second (length head + length question) opt
    → third ≡ (head ++ question ++ opt) ++ drop (length (head ++ question ++ opt)) room
three_parts room head question opt first second third one two three =
    let both : length (head ++ question) ≡ length head + length question = length-append head question in
    let all : length head + length question + length opt ≡ length (head ++ question ++ opt) =
    sym (length-append (head ++ question) opt ∙ ap (λ (n : ℕ). n + length opt) both) in
    let start : over room 0 head ≡ head ++ drop (length head) room =
    ap (λ (n : ℕ). head ++ drop n room) (zero-add (length head)) in
    three
    ∙ ap (λ (r : List ℕ). over r (length head + length question) opt)
    (two ∙ ap (λ (r : List ℕ). over r (length head) question) (one ∙ start) ∙ over_next head room question (length head) refl)
    ∙ over_next (head ++ question) room opt (length head + length question) both
    ∙ ap (λ (n : ℕ). (head ++ question ++ opt) ++ drop n room) all
