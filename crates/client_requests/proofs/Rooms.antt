-- What is read at the front of a room is what was put there.
use Rattle.std.proofs.Common.{◌≡◌, ℕ, ◌+◌, ◌≤◌, Bool, cond, List, length, take, drop, Option, Some, None, unwrap_or, ap, arith, ◌∙◌}
use Rattle.std.proofs.Math.Seq.{take-append_seam}
use Rattle.std.proofs.lemmas.Bool.{le-leb}
use Rattle.std.specs.Option.{option_map}
use Rattle.failure_replies.specs.Rooms.{within}
use Rattle.failure_replies.specs.Rooms as rooms
use Rattle.stored_replies.specs.Told.{put_in}
use Rattle.client_requests.specs.declared.choices.TheConstants.{LONGEST_MESSAGE, LONGEST_QUESTION}

pub put_front : (room octets : List ℕ) → take (length octets) (put_in room (Some octets)) ≡ octets
put_front room octets = take-append_seam octets (drop (length octets) room)

pub shown : (room old : List ℕ) (octets : Option (List ℕ)) (n : ℕ) → Some n ≡ option_map length octets
    → take n (put_in room octets) ≡ unwrap_or octets old
shown room old None n is = absurd cc
shown room old (Some octets) n is =
    let all : n ≡ length octets = cc in
    ap (λ m. take m (put_in room (Some octets))) all ∙ put_front room octets

-- what is short is put whole into a room for the longest message
pub fits_in : (room octets : List ℕ) (question : ℕ) → length room ≡ LONGEST_MESSAGE → question ≤ LONGEST_QUESTION
    → length octets ≤ 12 + question + 17 → within (length room) octets ≡ Some octets
fits_in room octets question long few short =
    ap (λ (b : Bool). cond b (Some octets) None)
    (le-leb (length octets) (length room) (omega (arith, long, few, short)))

pub fits_so : (room octets : List ℕ) (question : ℕ) → length room ≡ LONGEST_MESSAGE → question ≤ LONGEST_QUESTION
    → length octets ≤ 12 + question + 17
    → rooms.put_in room (within (length room) octets) ≡ put_in room (Some octets)
fits_so room octets question long few short = ap (rooms.put_in room) (fits_in room octets question long few short)
