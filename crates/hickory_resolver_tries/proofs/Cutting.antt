-- How the first message of a stream lies across what is held and the piece behind it.
use Rattle.std.proofs.Common.{◌≡◌, ℕ, suc, ◌+◌, ◌*◌, ◌≤◌, ◌<◌, List, [], ◌∷◌, ◌++◌, length, get_or, take, drop, ap, ap₂, refl, ◌∙◌, arith, Some, None, true, cond, length-append}
use Rattle.std.specs.Prelude.{slice_get}
use Rattle.std.proofs.Math.Seq.{take-append-add, drop-append-add}
use Rattle.std.proofs.lemmas.Bool.{ltb-true, le-ltb, lt-ltb}
use Rattle.hickory_resolver_tries.specs.Stream.{is_partial, first_of}

-- two octets, and as many behind them as they say, or fewer
pub whole : (a b : ℕ) (ps : List ℕ) → a * 256 + b ≤ length ps
    → first_of (a ∷ b ∷ ps) ≡ Some (take (a * 256 + b) ps, drop (a * 256 + b) ps)
whole a b ps h =
    ap (λ t. cond t None (Some (take (a * 256 + b) ps, drop (a * 256 + b) ps)))
    (le-ltb (length ps) (a * 256 + b) h)

pub short : (a b : ℕ) (ps : List ℕ) → length ps < a * 256 + b → first_of (a ∷ b ∷ ps) ≡ None
short a b ps h =
    ap (λ t. cond t None (Some (take (a * 256 + b) ps, drop (a * 256 + b) ps)))
    (lt-ltb (length ps) (a * 256 + b) h)

-- no length has come
pub no_first : (stream : List ℕ) → slice_get stream 0 ≡ None → first_of stream ≡ None
no_first [] h = refl
no_first (a ∷ s) h = absurd cc

pub no_second : (stream : List ℕ) → slice_get stream 1 ≡ None → first_of stream ≡ None
no_second [] h = refl
no_second (a ∷ []) h = refl
no_second (a ∷ b ∷ s) h = absurd cc

-- what is held ends before its message does
pub ends_before : (held piece : List ℕ) (high low : ℕ) → is_partial held ≡ true
    → slice_get (held ++ piece) 0 ≡ Some high → slice_get (held ++ piece) 1 ≡ Some low
    → length held < high * 256 + low + 2
ends_before [] piece high low p h l = omega arith
ends_before (x ∷ []) piece high low p h l = omega arith
ends_before (x ∷ y ∷ hs) piece high low p h l =
    let eh : x ≡ high = cc in
    let el : y ≡ low = cc in
    let lt = ltb-true (length hs) (x * 256 + y) p in
    omega arith

-- the message ends in the piece
pub ends_there : (held piece : List ℕ) (high low n : ℕ)
    → slice_get (held ++ piece) 0 ≡ Some high → slice_get (held ++ piece) 1 ≡ Some low
    → length held + n ≡ high * 256 + low + 2 → n ≤ length piece
    → first_of (held ++ piece) ≡ Some (drop 2 (held ++ take n piece), drop n piece)
ends_there [] [] high low n h l e le = absurd cc
ends_there [] (a ∷ []) high low n h l e le = absurd cc
ends_there [] (a ∷ b ∷ ps) high low n h l e le =
    let eh : a ≡ high = cc in
    let el : b ≡ low = cc in
    let en : n ≡ suc (suc (a * 256 + b)) = omega arith in
    let room : a * 256 + b ≤ length ps = omega arith in
    rw en (whole a b ps room)
ends_there (x ∷ []) [] high low n h l e le = absurd cc
ends_there (x ∷ []) (b ∷ ps) high low n h l e le =
    let eh : x ≡ high = cc in
    let el : b ≡ low = cc in
    let en : n ≡ suc (x * 256 + b) = omega arith in
    let room : x * 256 + b ≤ length ps = omega arith in
    rw en (whole x b ps room)
ends_there (x ∷ y ∷ hs) piece high low n h l e le =
    let eh : x ≡ high = cc in
    let el : y ≡ low = cc in
    let ek : x * 256 + y ≡ length hs + n = omega arith in
    let room : x * 256 + y ≤ length (hs ++ piece) = omega (arith, length-append hs piece) in
    whole x y (hs ++ piece) room
    ∙ ap₂ (λ t d. Some (t, d)) (ap (λ j. take j (hs ++ piece)) ek ∙ take-append-add hs piece n)
    (ap (λ j. drop j (hs ++ piece)) ek ∙ drop-append-add hs piece n)

-- the message does not end in the piece
pub ends_behind : (held piece : List ℕ) (high low n : ℕ)
    → slice_get (held ++ piece) 0 ≡ Some high → slice_get (held ++ piece) 1 ≡ Some low
    → length held + n ≡ high * 256 + low + 2 → length piece < n → first_of (held ++ piece) ≡ None
ends_behind [] [] high low n h l e lt = refl
ends_behind [] (a ∷ []) high low n h l e lt = refl
ends_behind [] (a ∷ b ∷ ps) high low n h l e lt =
    let eh : a ≡ high = cc in
    let el : b ≡ low = cc in
    let few : length ps < a * 256 + b = omega arith in
    short a b ps few
ends_behind (x ∷ []) [] high low n h l e lt = refl
ends_behind (x ∷ []) (b ∷ ps) high low n h l e lt =
    let eh : x ≡ high = cc in
    let el : b ≡ low = cc in
    let few : length ps < x * 256 + b = omega arith in
    short x b ps few
ends_behind (x ∷ y ∷ hs) piece high low n h l e lt =
    let eh : x ≡ high = cc in
    let el : y ≡ low = cc in
    let few : length (hs ++ piece) < x * 256 + y = omega (arith, length-append hs piece) in
    short x y (hs ++ piece) few

-- less than a whole message of octets
pub partial_length : (s : List ℕ) → ((i : ℕ) → get_or s i 0 < 256) → is_partial s ≡ true → length s ≤ 65536
partial_length [] b h = omega arith
partial_length (x ∷ []) b h = omega arith
partial_length (x ∷ y ∷ s) b h =
    let lt = ltb-true (length s) (x * 256 + y) h in
    let high : x < 256 = b 0 in
    let low : y < 256 = b 1 in
    omega arith
