-- Requests in flight: the map of the code, and what a line does to one of them.
use Rattle.std.proofs.Common.{◌≡◌, ◌∙◌, ℕ, Bool, true, false, cond, List, [], ◌∷◌, map, Option, None, Some, OnOk, Result, Ok, Err, string_bytes, String, refl, sym, ap, subst}
use Rattle.std.proofs.lemmas.Map.Text.{hash_map_updates_text}
use Rattle.std.proofs.lemmas.Slice.Eq.{bytes_eq-Decides}
use Rattle.std.specs.Global.{Global}
use Rattle.std.specs.declared.alloc.AllocError.{AllocError}
use Rattle.std.specs.HashMap as hash
use Rattle.std.specs.HashMap.{HashMap}
use Rattle.std.specs.Map.{lookup}
use Rattle.std.specs.Option.{is_some, option_map}
use Rattle.std.specs.Str.{bytes_eq}
use Rattle.std.specs.String.{string_eq}
use Rattle.conversation.specs.State.{InFlightValue, Puts, Requests, in_flight_of, request_at, requests_of}
use Rattle.conversation.specs.Telling.{IsChanged, PutsSome}
use Rattle.conversation.specs.declared.in_flight.InFlight.{InFlight}

-- ---- the map of the code

cond_through : {X Y : Type 0} (g : X → Y) (b : Bool) (x : X) (o : Option X) (p : Option Y) → p ≡ option_map g o → cond b (Some (g x)) p ≡ option_map g (cond b (Some x) o)
cond_through g true x o p e = refl
cond_through g false x o p e = e

lookup_through : {K L X Y : Type 0} (f : K → L) (g : X → Y) (test : L → Bool) (es : List (K × X)) → lookup test (map (λ e. (f e.0, g e.1)) es) ≡ option_map g (lookup (λ k. test (f k)) es)
lookup_through f g test [] = refl
lookup_through f g test (e ∷ es) = cond_through g (test (f e.0)) e.1 (lookup (λ k. test (f k)) es) _ (lookup_through f g test es)

pub request_found : (mark : List ℕ) (es : List (String Global × InFlight)) → request_at mark (requests_of es) ≡ option_map in_flight_of (lookup (λ k. bytes_eq mark (string_bytes k)) es)
request_found mark es = lookup_through string_bytes in_flight_of (λ m. bytes_eq mark m) es

map_cond : {X Y : Type 0} (g : X → Y) (b : Bool) (w v : Option X) → option_map g (cond b w v) ≡ cond b (option_map g w) (option_map g v)
map_cond g true w v = refl
map_cond g false w v = refl

-- a change of the map at a mark
pub puts_updated : {S : Type 0} (mark : List ℕ) (m n : HashMap (String Global) InFlight S) (w : Option InFlight) → hash.UpdatesBy string_eq (λ k. bytes_eq mark (string_bytes k)) m n w → Puts mark (option_map in_flight_of w) (requests_of m.entries) (requests_of n.entries)
puts_updated mark m n w updates = λ other.
    request_found other n.entries ∙ ap (option_map in_flight_of) (hash_map_updates_text mark m n w updates other)
    ∙ map_cond in_flight_of (bytes_eq mark other) w (hash.get_by_text m other)
    ∙ ap (λ o. cond (bytes_eq mark other) (option_map in_flight_of w) o) (sym (request_found other m.entries))

map_through : {X Y Z : Type 0} (f : X → Y) (g : Y → Z) (o : Option X) → option_map (λ x. g (f x)) o ≡ option_map g (option_map f o)
map_through f g None = refl
map_through f g (Some x) = refl

pub reply_found : (mark : List ℕ) (es : List (String Global × InFlight)) (found : Option InFlight) → found ≡ lookup (λ k. bytes_eq mark (string_bytes k)) es
    → option_map (λ r. is_some r.reply) found ≡ option_map (λ r. is_some r.reply) (request_at mark (requests_of es))
reply_found mark es found is =
    let has : InFlightValue → Bool = λ r. is_some r.reply in
    ap (λ (o : Option InFlight). option_map (λ r. is_some r.reply) o) is
    ∙ map_through in_flight_of has (lookup (λ k. bytes_eq mark (string_bytes k)) es) ∙ ap (option_map has) (sym (request_found mark es))

-- what was taken out
pub found_taken : (mark : List ℕ) (es : List (String Global × InFlight)) (taken : Option InFlight) → taken ≡ lookup (λ k. bytes_eq mark (string_bytes k)) es → option_map in_flight_of taken ≡ request_at mark (requests_of es)
found_taken mark es taken value = ap (option_map in_flight_of) value ∙ sym (request_found mark es)

-- what is found is changed in place
pub changed_here : {S : Type 0} (mark : List ℕ) (m n : HashMap (String Global) InFlight S) (x w : InFlight) (change : InFlightValue → InFlightValue) (result : Result (Unit {0}) AllocError)
    → Some x ≡ lookup (λ k. bytes_eq mark (string_bytes k)) m.entries → hash.UpdatesBy string_eq (λ k. bytes_eq mark (string_bytes k)) m n (Some w)
    → OnOk result (in_flight_of w ≡ change (in_flight_of x)) → IsChanged mark change result (requests_of m.entries) (requests_of n.entries)
changed_here mark m n x w change (Ok done) found updates is =
    (in_flight_of x, request_found mark m.entries ∙ ap (option_map in_flight_of) (sym found), subst (λ r. Puts mark (Some r) (requests_of m.entries) (requests_of n.entries)) is (puts_updated mark m n (Some w) updates))
changed_here mark m n x w change (Err e) found updates is = (Some (in_flight_of w), puts_updated mark m n (Some w) updates)

is_some_map : {X Y : Type 0} (f : X → Y) (o : Option X) → is_some (option_map f o) ≡ is_some o
is_some_map f None = refl
is_some_map f (Some x) = refl

pub some_through : (es : List (String Global × InFlight)) (mark : List ℕ) → is_some (option_map in_flight_of (lookup (λ k. bytes_eq mark (string_bytes k)) es)) ≡ is_some (lookup (λ k. bytes_eq mark (string_bytes k)) es)
some_through es mark = is_some_map in_flight_of (lookup (λ k. bytes_eq mark (string_bytes k)) es)

pub is_held : (mark : List ℕ) (es : List (String Global × InFlight)) (found : Bool) → found ≡ is_some (lookup (λ k. bytes_eq mark (string_bytes k)) es) → is_some (request_at mark (requests_of es)) ≡ found
is_held mark es found is = ap is_some (request_found mark es) ∙ some_through es mark ∙ sym is

-- ---- what stands under marks

mark_is : (mark other : List ℕ) → bytes_eq mark other ≡ true → mark ≡ other
mark_is mark other e = (bytes_eq-Decides mark other).0 e

-- nothing changed
pub puts_same : (mark : List ℕ) (requests : Requests) → Puts mark (request_at mark requests) requests requests
puts_same mark requests = λ other. by other (bytes_eq mark other) refl
  where
    by : (other : List ℕ) (b : Bool) → bytes_eq mark other ≡ b → request_at other requests ≡ cond b (request_at mark requests) (request_at other requests)
    by other true e = ap (λ m. request_at m requests) (sym (mark_is mark other e))
    by other false e = refl

cond_twice : {X : Type 0} (b : Bool) (w v o : X) → cond b w (cond b v o) ≡ cond b w o
cond_twice true w v o = refl
cond_twice false w v o = refl

-- twice at one mark
pub puts_again : (mark : List ℕ) (first second : Option InFlightValue) (before mid after : Requests) → Puts mark first before mid → Puts mark second mid after → Puts mark second before after
puts_again mark first second before mid after one two = λ other.
    two other ∙ ap (λ o. cond (bytes_eq mark other) second o) (one other)
    ∙ cond_twice (bytes_eq mark other) second first (request_at other before)

pub some_again : (mark : List ℕ) (first : Option InFlightValue) (before mid after : Requests) → Puts mark first before mid → PutsSome mark mid after → PutsSome mark before after
some_again mark first before mid after one (held, two) = (held, puts_again mark first held before mid after one two)

pub some_stays : (mark : List ℕ) (requests : Requests) → PutsSome mark requests requests
some_stays mark requests = (request_at mark requests, puts_same mark requests)

-- none is found, and the map is as it was
pub stays_at_none : {S : Type 0} (mark : List ℕ) (m n : HashMap (String Global) InFlight S) → n ≡ m → PutsSome mark (requests_of m.entries) (requests_of n.entries)
stays_at_none {S} mark m n is = subst (λ (x : HashMap (String Global) InFlight S). PutsSome mark (requests_of m.entries) (requests_of x.entries)) (sym is) (some_stays mark (requests_of m.entries))
