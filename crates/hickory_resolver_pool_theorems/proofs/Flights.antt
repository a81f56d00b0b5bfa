-- A question in flight: its tries were sent, and the reply that it keeps is of octets that came and were believed.
use Rattle.std.proofs.Common.{◌≡◌, ◌≤◌, ◌<◌, ◌+◌, ℕ, Bool, true, false, cond, List, [], ◌∷◌, refl, ap, sym, subst, ◌∙◌, inl, inr, ◌⊎◌, eqb, eqb-true, eq-eqb, arith, true≢false, ◌&&◌}
use Rattle.std.specs.Prelude.{Option, None, Some, IfSome}
use Rattle.std.specs.Option.{option_map_or, option_or, option_and_then}
use Rattle.hickory_resolver_servers.specs.Server.{ServerState}
use Rattle.hickory_resolver_tries.specs.Belief.{belief_of}
use Rattle.hickory_resolver_tries.specs.Outcome.{outcome_of}
use Rattle.hickory_resolver_tries.specs.Tries.{octets_of_try}
use Rattle.hickory_resolver_tries.specs.declared.belief.Belief.{Belief}
use Rattle.hickory_resolver_tries.specs.declared.belief.Belief.TheVariants as belief
use Rattle.hickory_resolver_tries.specs.declared.outcome.ReplyOutcome.{ReplyOutcome}
use Rattle.hickory_resolver_tries.specs.declared.outcome.ReplyOutcome.TheVariants as reply
use Rattle.hickory_resolver_tries.specs.declared.pool_question.PoolQuestion.{PoolQuestion}
use Rattle.hickory_resolver_transactions.specs.Transaction.{TransactionState, try_at, reply_of, came}
use Rattle.hickory_resolver_transactions.specs.declared.candidate.Try.{Try}
use Rattle.hickory_resolver_transactions.specs.declared.outcome.Outcome.{Outcome}
use Rattle.hickory_resolver_transactions.specs.declared.outcome.Outcome.TheVariants as told
use Rattle.hickory_resolver_transactions.specs.declared.settings.Settings.{Settings}
use Rattle.hickory_resolver_flights.specs.Flights.{FlightState, KeptValue, flight_of, changed, kept_of, names, replied, heard_as, heard_by, heard}
use Rattle.hickory_resolver_pool.specs.Over.{told_as}
use Rattle.hickory_resolver_pool_theorems.specs.Runs.{Happening}
use Rattle.hickory_resolver_pool_theorems.specs.Wire.{WasSent, CameOn}
use Rattle.hickory_resolver_pool_theorems.specs.MadeUp.{IsBelievedReply, told_of_reply}
use Rattle.hickory_resolver_pool_theorems.proofs.Tries.{AreSent, sent-try, sent-heard, sent-as, none-sent, try-is}
use Rattle.hickory_resolver_pool_theorems.proofs.Best.{Tells, tells-came, tells-opt, tells-letters}
use Rattle.hickory_resolver_pool_theorems.proofs.MayTell.{best_of, best, told_by}
use Rattle.hickory_resolver_transactions.specs.Laws.{reply_came, opt_refused, letters_differ}
use Rattle.hickory_resolver_pool_theorems.specs.Causes.{IsMade}
use Rattle.hickory_resolver_pool_theorems.proofs.Causes.{made-first, made-next}
use Rattle.hickory_resolver_pool_theorems.proofs.Wires as wires

-- this reply is kept
pub record IsKept (past : List Happening) (n : ℕ) (q : PoolQuestion) (o : Outcome) (number : ℕ) (kept : Option KeptValue)
    : Type 0 where
  pub reply : KeptValue
  pub kept_is : kept ≡ Some reply
  pub number_is : reply.number ≡ number
  pub believed : IsBelievedReply past n q (told_as o) reply

-- where it would tell a reply, that one is kept
abbrev pub KeepsBest : List Happening → ℕ → PoolQuestion → Option KeptValue → Outcome → Type 0
KeepsBest past n q kept (told.Reply number) = IsKept past n q (told.Reply number) number kept
KeepsBest past n q kept (told.Cut number) = IsKept past n q (told.Cut number) number kept
KeepsBest past n q kept (told.Code number) = IsKept past n q (told.Code number) number kept
KeepsBest past n q kept told.Unreachable = Unit {0}
KeepsBest past n q kept told.Timeout = Unit {0}

abbrev pub IsOld : ℕ → KeptValue → Type 0
IsOld replies k = k.number < replies

pub record IsHeld (P : Try → Type 0) (past : List Happening) (n : ℕ) (f : FlightState) : Type 0 where
  pub tries : AreSent P f.transaction
  pub keeps : IfSome (best f.transaction) (KeepsBest past n f.question f.kept)
  pub old : IfSome f.kept (IsOld f.replies)
  pub made : IsMade f.transaction

-- it was sent for a transaction with this question
abbrev pub Was : List Happening → ℕ → PoolQuestion → Try → Type 0
Was past n q t = WasSent past n t.channel t.form.id (octets_of_try q t.form)

-- ---- before the first step

pub held-first : (P : Try → Type 0) (past : List Happening) (n : ℕ) (settings : Settings) (servers : List ServerState)
    (q : PoolQuestion) → 1 ≤ settings.rounds → IsHeld P past n (flight_of settings servers q)
held-first P past n settings servers q some = record {
  tries = none-sent P settings servers;
  keeps = tt;
  old = tt;
  made = made-first settings servers some;
}

-- ---- the same, later

keeps-more : (a : Happening) (past : List Happening) (n : ℕ) (q : PoolQuestion) (kept : Option KeptValue) (o : Outcome)
    → KeepsBest past n q kept o → KeepsBest (a ∷ past) n q kept o
keeps-more a past n q kept (told.Reply number) k = record {
  reply = k.reply;
  kept_is = k.kept_is;
  number_is = k.number_is;
  believed = wires.reply-more a past n q (told_as (told.Reply number)) k.reply k.believed;
}
keeps-more a past n q kept (told.Cut number) k = record {
  reply = k.reply;
  kept_is = k.kept_is;
  number_is = k.number_is;
  believed = wires.reply-more a past n q (told_as (told.Cut number)) k.reply k.believed;
}
keeps-more a past n q kept (told.Code number) k = record {
  reply = k.reply;
  kept_is = k.kept_is;
  number_is = k.number_is;
  believed = wires.reply-more a past n q (told_as (told.Code number)) k.reply k.believed;
}
keeps-more a past n q kept told.Unreachable k = tt
keeps-more a past n q kept told.Timeout k = tt

pub if-some : {A : Type 0} (P Q : A → Type 0) (o : Option A) → ((a : A) → P a → Q a) → IfSome o P → IfSome o Q
if-some P Q None f h = tt
if-some P Q (Some a) f h = f a h

pub held-more : (P Q : Try → Type 0) (a : Happening) (past : List Happening) (n : ℕ) (f : FlightState)
    → ((t : Try) → P t → Q t) → IsHeld P past n f → IsHeld Q (a ∷ past) n f
held-more P Q a past n f gives h = record {
  tries = sent-as P Q gives f.transaction h.tries;
  keeps = if-some (KeepsBest past n f.question f.kept) (KeepsBest (a ∷ past) n f.question f.kept) (best f.transaction)
      (keeps-more a past n f.question f.kept) h.keeps;
  old = h.old;
  made = h.made;
}

pub held-as : (P Q : Try → Type 0) (past : List Happening) (n : ℕ) (f : FlightState) → ((t : Try) → P t → Q t)
    → IsHeld P past n f → IsHeld Q past n f
held-as P Q past n f gives h = record {
  tries = sent-as P Q gives f.transaction h.tries;
  keeps = h.keeps;
  old = h.old;
  made = h.made;
}

-- ---- a change of the transaction that tells no reply

pub held-changed : (P : Try → Type 0) (past : List Happening) (n : ℕ) (f : FlightState)
    (change : TransactionState → TransactionState) → IsHeld P past n f
    → (AreSent P f.transaction → AreSent P (change f.transaction))
    → (Tells (KeepsBest past n f.question f.kept) tt tt f.transaction
    → Tells (KeepsBest past n f.question f.kept) tt tt (change f.transaction))
    → (IsMade f.transaction → IsMade (change f.transaction))
    → IsHeld P past n (changed change f)
held-changed P past n f change h sent tells made = record {
  tries = sent h.tries;
  keeps = tells h.keeps;
  old = h.old;
  made = made h.made;
}

-- ---- a reply comes

number-told : (outcome : ReplyOutcome) (number : ℕ) → reply_of (told_by outcome number) ≡ Some number
number-told reply.Answer number = refl
number-told reply.Negative number = refl
number-told reply.Truncated number = refl
number-told reply.WithoutOpt number = refl
number-told reply.BadRest number = refl
number-told (reply.Code code) number = refl
number-told reply.Lame number = refl

told-told : (outcome : ReplyOutcome) (number : ℕ) → told_as (told_by outcome number) ≡ told_of_reply outcome
told-told reply.Answer number = refl
told-told reply.Negative number = refl
told-told reply.Truncated number = refl
told-told reply.WithoutOpt number = refl
told-told reply.BadRest number = refl
told-told (reply.Code code) number = refl
told-told reply.Lame number = refl

-- the numbers of a channel and of a message
both-are : (a b : Bool) → (a && b) ≡ true → (a ≡ true) × (b ≡ true)
both-are true b h = (refl, h)
both-are false b h = absurd (true≢false (sym h))

module _ (past : List Happening) (n : ℕ) (f : FlightState) where
  abbrev W : Try → Type 0
  W = Was past n f.question

  module _ (h : IsHeld W past n f) (channel id : ℕ) (octets : List ℕ) (came_on : CameOn past channel octets) where
    module _ (t : Try) (waits : try_at channel id f.transaction ≡ Some t)
        (believed : belief_of f.question t.form octets ≡ belief.Believed) where
      abbrev outcome : ReplyOutcome
      outcome = outcome_of f.question t.form octets

      abbrev after : TransactionState
      after = came channel id outcome f.replies f.transaction

      abbrev kept : KeptValue
      kept = kept_of octets f

      on-channel : t.channel ≡ channel
      on-channel = eqb-true t.channel channel (both-are (eqb t.channel channel) (eqb t.form.id id) (try-is channel id f.transaction t waits)).0

      reply-is : (o : Outcome) → o ≡ told_by outcome f.replies → IsBelievedReply past n f.question (told_as o) kept
      reply-is o is = record {
        later = [];
        earlier = past;
        tried = t;
        happened = refl;
        sent = sent-try W f.transaction h.tries channel id t waits;
        came = subst (λ (c : ℕ). CameOn past c octets) (sym on-channel) came_on;
        believed = believed;
        spelled = refl;
        told_is = ap (λ (x : Outcome). told_as x) is ∙ told-told outcome f.replies;
      }

      abbrev IsOr : Outcome → Type 0
      IsOr o = KeepsBest past n f.question f.kept o ⊎ (o ≡ told_by outcome f.replies)

      best-or : Tells IsOr (inl tt) (inl tt) after
      best-or =
          tells-came IsOr (inl tt) (inl tt) f.transaction
          (if-some (KeepsBest past n f.question f.kept) IsOr (best f.transaction) (λ o k. inl k) h.keeps)
          channel id outcome f.replies (inr refl)

      -- the number of an old reply is not that of the new one
      other-number : (m : ℕ) (k : KeptValue) → f.kept ≡ Some k → k.number ≡ m → eqb m f.replies ≡ false
      other-number m k kept_is number_is = by (eqb m f.replies) refl
        where
          old : k.number < f.replies
          old = subst (λ (o : Option KeptValue). IfSome o (IsOld f.replies)) kept_is h.old

          by : (b : Bool) → eqb m f.replies ≡ b → b ≡ false
          by false e = refl
          by true e = let same = eqb-true m f.replies e in absurd (omega (arith, old, number_is, same))

      abbrev KeptIf : Bool → Option KeptValue
      KeptIf named = cond named (Some kept) f.kept

      is-old : (o : Outcome) (m : ℕ) → IsKept past n f.question o m f.kept
          → IsKept past n f.question o m (KeptIf (eqb m f.replies))
      is-old o m k =
          subst (λ (b : Bool). IsKept past n f.question o m (KeptIf b))
          (sym (other-number m k.reply k.kept_is k.number_is)) k

      is-new : (o : Outcome) (m : ℕ) → reply_of o ≡ Some m → o ≡ told_by outcome f.replies
          → IsKept past n f.question o m (KeptIf (eqb m f.replies))
      is-new o m number is = by (eqb m f.replies) refl
        where
          same : m ≡ f.replies
          same = let e : Some m ≡ Some f.replies =
              sym number ∙ ap (λ (x : Outcome). reply_of x) is ∙ number-told outcome f.replies in cc

          by : (b : Bool) → eqb m f.replies ≡ b → IsKept past n f.question o m (KeptIf b)
          by true e = record { reply = kept; kept_is = refl; number_is = sym same; believed = reply-is o is }
          by false e = absurd (true≢false (sym (ap (λ (x : ℕ). eqb x f.replies) same ∙ eq-eqb f.replies f.replies refl) ∙ e))

      settle : (o : Outcome) (m : ℕ) → reply_of o ≡ Some m
          → IsKept past n f.question o m f.kept ⊎ (o ≡ told_by outcome f.replies)
          → IsKept past n f.question o m (KeptIf (eqb m f.replies))
      settle o m number (inl k) = is-old o m k
      settle o m number (inr is) = is-new o m number is

      keeps-one : (o : Outcome) → IsOr o
          → KeepsBest past n f.question (KeptIf (option_map_or (λ m. eqb m f.replies) (reply_of o) false)) o
      keeps-one (told.Reply m) k = settle (told.Reply m) m refl k
      keeps-one (told.Cut m) k = settle (told.Cut m) m refl k
      keeps-one (told.Code m) k = settle (told.Code m) m refl k
      keeps-one told.Unreachable k = tt
      keeps-one told.Timeout k = tt

      keeps-best : (ended : Option ℕ) (noted : Option Outcome) → IfSome (best_of ended noted) IsOr
          → IfSome (best_of ended noted) (KeepsBest past n f.question
          (KeptIf (option_map_or (λ m. eqb m f.replies) (option_or ended (option_and_then reply_of noted)) false)))
      keeps-best (Some m) noted k = keeps-one (told.Reply m) k
      keeps-best None None k = tt
      keeps-best None (Some o) k = keeps-one o k

      old-kept : (b : Bool) → IfSome (KeptIf b) (IsOld (f.replies + 1))
      old-kept true = omega arith
      old-kept false =
          if-some (IsOld f.replies) (IsOld (f.replies + 1)) f.kept (λ k old. omega (arith, old)) h.old

      held-replied : AreSent W after → IsHeld W past n (replied channel id t octets f)
      held-replied sent = record {
        tries = sent;
        keeps = keeps-best after.ended after.noted best-or;
        old = old-kept (names f.replies after);
        made = made-next f.transaction (reply_came channel id outcome f.replies) h.made;
      }

    held-heard_as : (b : Belief) (t : Try) → try_at channel id f.transaction ≡ Some t
        → belief_of f.question t.form octets ≡ b → AreSent W (heard_as b channel id t octets f).transaction
        → IsHeld W past n (heard_as b channel id t octets f)
    held-heard_as belief.Believed t waits is sent = held-replied t waits is sent
    held-heard_as belief.OtherLetters t waits is sent = record {
      tries = sent;
      keeps = tells-letters (KeepsBest past n f.question f.kept) tt tt f.transaction h.keeps channel id;
      old = h.old;
      made = made-next f.transaction (letters_differ channel id) h.made;
    }
    held-heard_as belief.OptRefused t waits is sent = record {
      tries = sent;
      keeps = tells-opt (KeepsBest past n f.question f.kept) tt tt f.transaction h.keeps channel id;
      old = h.old;
      made = made-next f.transaction (opt_refused channel id) h.made;
    }
    held-heard_as belief.NotBelieved t waits is sent = h

    pub held-heard : IsHeld W past n (heard channel id octets f)
    held-heard = by (try_at channel id f.transaction) refl (sent-heard W channel id octets f h.tries)
      where
        by : (found : Option Try) → try_at channel id f.transaction ≡ found
            → AreSent W (option_map_or (heard_by channel id octets f) found f).transaction
            → IsHeld W past n (option_map_or (heard_by channel id octets f) found f)
        by None e sent = h
        by (Some t) e sent = held-heard_as (belief_of f.question t.form octets) t e refl sent
