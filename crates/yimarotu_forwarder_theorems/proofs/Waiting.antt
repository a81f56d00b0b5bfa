-- Who waits for each question.
use Rattle.std.proofs.Common.{◌≡◌, ◌∙◌, ℕ, Bool, true, false, not, List, [], ◌∷◌, ◌++◌, refl, sym, ap}
use Rattle.std.specs.Prelude.{Option, None, Some, if◌then◌else◌}
use Rattle.std.specs.Option.{option_map}
use Rattle.std.proofs.lemmas.List.{append-nil, append_assoc}
use Rattle.std.proofs.lemmas.List.Elements.{filter-append}
use Rattle.std.proofs.lemmas.Map.Made.{lookup-map_values}
use Rattle.client_requests.specs.Keys.{key_eq, key_of}
use Rattle.client_requests.specs.Requests.{RequestValue}
use Rattle.client_requests.specs.declared.fetch_end.FetchEnd.{FetchEnd}
use Rattle.yimarotu_forwarder.specs.Fetches.{FetchValue, fetch_in, is_of_client, without_client}
use Rattle.yimarotu_forwarder.specs.Forwarders.{ReplyingValue}
use Rattle.yimarotu_forwarder.specs.Late.{late_replying, with_nobody}
use Rattle.yimarotu_forwarder.specs.Leaving.{fetch_without, replying_without}
use Rattle.yimarotu_forwarder.specs.Telling.{replying_of}
use Rattle.yimarotu_forwarder_theorems.specs.Replies.{under, untold_under}
use Rattle.yimarotu_forwarder_theorems.proofs.Cores.{Core, Fetching, Joins, Leaves, Puts, Source, Still, Stills, as_before, begins_alone, cache_changes, chain_ends, failures_change, is_flushed, is_heard, is_let_go, is_over, is_told_late, left_by, more, no_chain_ends, waiting_for}
use Rattle.yimarotu_forwarder_theorems.proofs.Keys.{own-key, put-waits, same-key, turned}

abbrev pub waiting : List ℕ → Core → List RequestValue
waiting key c = untold_under key c.replying ++ waiting_for (fetch_in key c.fetches)

-- ---- nobody comes, and nobody is replied to

-- those who wait for a look-up that is over are to be told
over-waits : (k key : List ℕ) (end : FetchEnd) (f g : FetchValue) (c d : Fetching) → fetch_in k c ≡ Some f
    → g.waiting ≡ f.waiting → Puts k None c d
    → untold_under key (Some (replying_of k end g)) ++ waiting_for (fetch_in key d) ≡ waiting_for (fetch_in key c)
over-waits k key end f g c d found same puts =
    ap (λ (held : Option FetchValue). (if key_eq key k then g.waiting else []) ++ waiting_for held) (puts key)
    ∙ ap (λ (b : Bool). (if b then g.waiting else []) ++ waiting_for (if key_eq k key then None else fetch_in key c))
    (turned key k)
    ∙ by (key_eq k key) refl
  where
    by : (b : Bool) → key_eq k key ≡ b
        → (if b then g.waiting else []) ++ waiting_for (if b then None else fetch_in key c)
        ≡ waiting_for (fetch_in key c)
    by true e =
        append-nil g.waiting ∙ same ∙ sym (ap waiting_for found)
        ∙ ap (λ (x : List ℕ). waiting_for (fetch_in x c)) (same-key k key e)
    by false e = refl

-- and so are those who wait for one that is late, for which nobody waits then
late-waits : (k key : List ℕ) (f : FetchValue) (c d : Fetching) → fetch_in k c ≡ Some f → Puts k (Some (with_nobody f)) c d
    → untold_under key (Some (late_replying k f)) ++ waiting_for (fetch_in key d) ≡ waiting_for (fetch_in key c)
late-waits k key f c d found puts =
    ap (λ (held : Option FetchValue). (if key_eq key k then f.waiting else []) ++ waiting_for held) (puts key)
    ∙ ap (λ (b : Bool). (if b then f.waiting else [])
    ++ waiting_for (if key_eq k key then Some (with_nobody f) else fetch_in key c)) (turned key k)
    ∙ by (key_eq k key) refl
  where
    by : (b : Bool) → key_eq k key ≡ b
        → (if b then f.waiting else []) ++ waiting_for (if b then Some (with_nobody f) else fetch_in key c)
        ≡ waiting_for (fetch_in key c)
    by true e =
        append-nil f.waiting ∙ sym (ap waiting_for found)
        ∙ ap (λ (x : List ℕ). waiting_for (fetch_in x c)) (same-key k key e)
    by false e = refl

none-untold : (key : List ℕ) (r : ReplyingValue) → r.waiting ≡ [] → untold_under key (Some r) ≡ []
none-untold key r none = by (key_eq key r.key)
  where
    by : (b : Bool) → (if b then r.waiting else []) ≡ []
    by true = none
    by false = refl

still-waits : {said : Source → Type 0} (key : List ℕ) (c d : Core) → Still said c d → waiting key d ≡ waiting key c
still-waits key c d (cache_changes c' d' event such e) = ap (waiting key) e
still-waits key c d (failures_change c' d' event e) = ap (waiting key) e
still-waits key c d (is_heard c' d' k f g found same led puts e) =
    ap (waiting key) e
    ∙ ap (λ (ws : List RequestValue). untold_under key c.replying ++ ws)
    (put-waits k key (Some g) c.fetches d.fetches puts (same.waiting ∙ sym (ap waiting_for found)))
still-waits key c d (is_over c' d' k end f g none found same is puts e) =
    ap (waiting key) e ∙ over-waits k key end f g c.fetches d.fetches found same.waiting puts
    ∙ sym (ap (λ (r : Option ReplyingValue). untold_under key r ++ waiting_for (fetch_in key c.fetches)) none)
still-waits key c d (is_told_late c' d' k f none found puts e) =
    ap (waiting key) e ∙ late-waits k key f c.fetches d.fetches found puts
    ∙ sym (ap (λ (r : Option ReplyingValue). untold_under key r ++ waiting_for (fetch_in key c.fetches)) none)
still-waits key c d (is_let_go c' d' r was none e) =
    ap (waiting key) e
    ∙ sym (ap (λ (ws : List RequestValue). ws ++ waiting_for (fetch_in key c.fetches))
    (ap (untold_under key) was ∙ none-untold key r none))
still-waits key c d (chain_ends c' d' end is e) = ap (waiting key) e
still-waits key c d (no_chain_ends c' d' e) = ap (waiting key) e
still-waits key c d (is_flushed c' d' labels below e) = ap (waiting key) e
still-waits key c d (begins_alone c' d' k f none waits begins puts e) =
    ap (waiting key) e
    ∙ ap (λ (ws : List RequestValue). untold_under key c.replying ++ ws)
    (put-waits k key (Some f) c.fetches d.fetches puts (waits ∙ sym (ap waiting_for none)))

pub stills-wait : {said : Source → Type 0}
    (key : List ℕ) (c d : Core) → Stills said c d → waiting key d ≡ waiting key c
stills-wait key c d (as_before c' d' e) = ap (waiting key) e
stills-wait key c d (more c' m d' first rest) = stills-wait key m d rest ∙ still-waits key c m first

-- ---- one comes to wait

one-under : (key : List ℕ) (w : RequestValue) (b : Bool) → key_eq key (key_of w) ≡ b
    → under key (w ∷ []) ≡ (if b then w ∷ [] else [])
one-under key w b e = ap (λ (x : Bool). if x then w ∷ [] else []) e

pub join-waits : (key : List ℕ) (w : RequestValue) (c d : Core) → Joins w c d
    → waiting key d ≡ waiting key c ++ under key (w ∷ [])
join-waits key w c d j =
    ap (waiting key) j.others_are
    ∙ ap (λ (held : Option FetchValue). untold_under key c.replying ++ waiting_for held) (j.puts key)
    ∙ by (key_eq j.key key) refl
  where
    by : (b : Bool) → key_eq j.key key ≡ b
        → untold_under key c.replying ++ waiting_for (if b then Some j.fetch else fetch_in key c.fetches)
        ≡ (untold_under key c.replying ++ waiting_for (fetch_in key c.fetches)) ++ under key (w ∷ [])
    by true e =
        let same : j.key ≡ key = same-key j.key key e in
        let own : key_eq key (key_of w) ≡ true = ap (key_eq key) (j.own ∙ same) ∙ own-key key in
        ap (λ (ws : List RequestValue). untold_under key c.replying ++ ws)
        (j.waiting ∙ ap (λ (x : List ℕ). waiting_for (fetch_in x c.fetches) ++ w ∷ []) same)
        ∙ sym (append_assoc (untold_under key c.replying) (waiting_for (fetch_in key c.fetches)) (w ∷ []))
        ∙ ap (λ (ws : List RequestValue). (untold_under key c.replying ++ waiting_for (fetch_in key c.fetches)) ++ ws)
        (sym (one-under key w true own))
    by false e =
        let other : key_eq key (key_of w) ≡ false = ap (key_eq key) j.own ∙ turned key j.key ∙ e in
        sym (ap (λ (ws : List RequestValue).
        (untold_under key c.replying ++ waiting_for (fetch_in key c.fetches)) ++ ws)
        (one-under key w false other)
        ∙ append-nil (untold_under key c.replying ++ waiting_for (fetch_in key c.fetches)))

-- ---- one is replied to

-- he waited under his own key
pub leave-waits : (key : List ℕ) (w : RequestValue) (c d : Core) (l : Leaves w c d) → key_of w ≡ l.replying.key
    → under key (w ∷ []) ++ waiting key d ≡ waiting key c
leave-waits key w c d l own =
    ap (λ (ws : List RequestValue). under key (w ∷ []) ++ ws) (ap (waiting key) l.others_are)
    ∙ ap (λ (ws : List RequestValue).
    ws ++ ((if key_eq key l.replying.key then l.others else []) ++ waiting_for (fetch_in key c.fetches)))
    (one-under key w (key_eq key l.replying.key) (ap (key_eq key) own))
    ∙ by (key_eq key l.replying.key)
    ∙ sym (ap (λ (r : Option ReplyingValue). untold_under key r ++ waiting_for (fetch_in key c.fetches)) l.was)
  where
    by : (b : Bool)
        → (if b then w ∷ [] else []) ++ ((if b then l.others else []) ++ waiting_for (fetch_in key c.fetches))
        ≡ (if b then l.replying.waiting else []) ++ waiting_for (fetch_in key c.fetches)
    by true = ap (λ (ws : List RequestValue). ws ++ waiting_for (fetch_in key c.fetches)) (sym l.first)
    by false = refl

-- ---- one is gone

fetch-left : (client : ℕ) (held : Option FetchValue)
    → waiting_for (option_map (fetch_without client) held) ≡ without_client client (waiting_for held)
fetch-left client None = refl
fetch-left client (Some f) = refl

told-left : (key : List ℕ) (client : ℕ) (replying : Option ReplyingValue)
    → untold_under key (option_map (replying_without client) replying)
    ≡ without_client client (untold_under key replying)
told-left key client None = refl
told-left key client (Some r) = by (key_eq key r.key)
  where
    by : (b : Bool)
        → (if b then without_client client r.waiting else []) ≡ without_client client (if b then r.waiting else [])
    by true = refl
    by false = refl

pub gone-waits : (key : List ℕ) (client : ℕ) (c : Core)
    → waiting key (left_by client c) ≡ without_client client (waiting key c)
gone-waits key client c =
    ap (λ (ws : List RequestValue). ws ++ waiting_for (fetch_in key (left_by client c).fetches))
    (told-left key client c.replying)
    ∙ ap (λ (ws : List RequestValue). without_client client (untold_under key c.replying) ++ ws)
    (ap waiting_for (lookup-map_values (fetch_without client) (key_eq key) c.fetches)
    ∙ fetch-left client (fetch_in key c.fetches))
    ∙ sym (filter-append (λ (w : RequestValue). not (is_of_client client w)) (untold_under key c.replying)
    (waiting_for (fetch_in key c.fetches)))
