-- What the first word of a line says of what the line says.
use Rattle.std.proofs.Common.{◌≡◌, ◌∙◌, ℕ, Bool, true, false, List, [], ◌∷◌, codes, Option, None, Some, Result, Ok, Err, MatchBool, MatchOption, MatchResult, refl, sym, ap, subst}
use Rattle.std.specs.Cmp.Lexicographic.{same_text}
use Rattle.hickory_proto_core.specs.Codes.{is_text}
use Rattle.hickory_resolver_lookup.specs.Requests.{request_of}
use Rattle.hickory_resolver_lookup.specs.declared.request.Request.{Request}
use Rattle.hickory_resolver_model.specs.Run.{RequestValue, Lookup}
use Rattle.replay_script.specs.Line.{IsDirected, IsSaid, IsRead, IsRequestLine, IsRecordLine, directive_named}
use Rattle.replay_script.specs.ReplyLine.{reply_of}
use Rattle.replay_script.specs.RequestLine.{request_asked, IsRequest}
use Rattle.replay_script.specs.Words.{◌>>=◌}
use Rattle.replay_script.specs.Faults.{LineFaultValue, wrong_field}
use Rattle.replay_script.specs.declared.fault.ScriptFault.TheVariants as fault
use Rattle.replay_script.specs.declared.line.Line.{Line}
use Rattle.replay_script.specs.declared.line.Line.TheVariants as line
use Rattle.replay_script.specs.declared.record_line.Section.{Section}
use Rattle.replay_script.specs.declared.setting.Setting.{Setting}
use Rattle.std.proofs.Handle.{handle}
use Rattle.std.proofs.StringFromBytes.{spelled}
use Rattle.std.proofs.lemmas.Bool.{and_parts}
use Rattle.std.specs.Global.{Global}
use Rattle.std.specs.declared.net.IpAddr.{IpAddr}
use Rattle.hickory_proto_core.specs.Arpa.{arpa_name, whole_net}
use Rattle.hickory_proto_core.specs.NameGiven.{IsReadAddress}
use Rattle.hickory_proto_core.specs.NameText.{name_text}
use Rattle.hickory_proto_core.specs.codes.record_type.RecordType.TheVariants as type
use Rattle.hickory_resolver_lookup.specs.declared.request.Request.TheVariants as asked
use Rattle.replay_script.specs.Words.{number_field}
use Rattle.replay_script.proofs.Allowed.{allowed_text}
use Rattle.conversation_journal.proofs.JournalReverse.{IsNameField, reverse-field}
use Rattle.std.specs.Result.{result_ok}
use Rattle.hickory_resolver_model.specs.Run.{moment_of}
use Rattle.conversation_journal.specs.Journal.{moment_at}
use Rattle.conversation.specs.Faults.{RefusalValue, refusal_of}
use Rattle.conversation.specs.Lines.{IsAsked, IsPointer, IsReverse, IsScriptRequest, is_reverse, pointer_of, request_in, said_of}
use Rattle.conversation_journal.proofs.JournalTexts.{AreFields, line_of, line-read}
use Rattle.conversation_journal.proofs.JournalRequests.{IsMoment, IsWritable, asked-again, asked-fields, asked_fields, number-below, typed-PTR, writable}

-- the word that a text is
pub word-is : (word text : List ℕ) → is_text word text ≡ true → text ≡ word
word-is word text h = same_text text word (sym h)

-- what comes of a value is of its kind
made_by : {A : Type 0} (make : A → Line) (r : Result A LineFaultValue) (said : Line) → ((x : A) → make x ≡ said → ⊥) → Ok said ≡ (r >>= (λ x. Ok (make x))) → ⊥
made_by make (Ok x) said other is = let same : said ≡ make x = cc in other x (sym same)
made_by make (Err f) said other is = let e = is in cc

module _ (r : Request) where
  no_reply : (rest : List (List ℕ)) (has_reply : Bool) → IsSaid has_reply (codes "reply" ∷ rest) (Ok (line.Request r)) → ⊥
  no_reply rest has_reply is = made_by (λ head. line.Reply head) (reply_of rest) (line.Request r) (λ x e. let h = e in cc) is

  no_failure : (rest : List (List ℕ)) (has_reply : Bool) → IsSaid has_reply (codes "fail" ∷ rest) (Ok (line.Request r)) → ⊥
  no_failure rest has_reply (found, failed, is) = made_by (λ x. line.Fail x) found (line.Request r) (λ x e. let h = e in cc) is

  no_record : (section : Section) (rest : List (List ℕ)) (has_reply : Bool) → IsRecordLine has_reply section rest (Ok (line.Request r)) → ⊥
  no_record section rest true (found, recorded, is) = made_by (λ x. line.Record section x) found (line.Request r) (λ x e. let h = e in cc) is
  no_record section rest false is = let e = is in cc

  no_setting : (r' : Result Setting LineFaultValue) → Ok (line.Request r) ≡ (r' >>= (λ setting. Ok (line.Configuration setting))) → ⊥
  no_setting r' is = made_by (λ x. line.Configuration x) r' (line.Request r) (λ x e. let h = e in cc) is

  as_word : (D : List ℕ) (word : List ℕ) (rest : List (List ℕ)) (has_reply : Bool) → (IsSaid has_reply (D ∷ rest) (Ok (line.Request r)) → ⊥) → (is_text D word ≡ false → ⊥) → IsSaid has_reply (word ∷ rest) (Ok (line.Request r)) → ⊥
  as_word D word rest has_reply none on is = by (is_text D word) refl
    where
      by : (t : Bool) → is_text D word ≡ t → ⊥
      by true e = none (subst (λ w. IsSaid has_reply (w ∷ rest) (Ok (line.Request r))) (word-is D word e) is)
      by false e = on e

  no_other : (word : List ℕ) (rest : List (List ℕ)) (has_reply : Bool) → is_text (codes "at") word ≡ false → IsSaid has_reply (word ∷ rest) (Ok (line.Request r)) → ⊥
  no_other word rest has_reply h0 is =
      as_word (codes "reply") word rest has_reply (no_reply rest has_reply) (λ h1.
      as_word (codes "fail") word rest has_reply (no_failure rest has_reply) (λ h2.
      as_word (codes "answer") word rest has_reply (λ e. no_record _ rest has_reply e) (λ h3.
      as_word (codes "authority") word rest has_reply (λ e. no_record _ rest has_reply e) (λ h4.
      as_word (codes "additional") word rest has_reply (λ e. no_record _ rest has_reply e) (λ h5.
      as_word (codes "option") word rest has_reply (λ e. no_setting _ e) (λ h6.
      as_word (codes "domain") word rest has_reply (λ e. no_setting _ e) (λ h7.
      as_word (codes "search") word rest has_reply (λ e. no_setting _ e) (λ h8.
      as_word (codes "upstream") word rest has_reply (λ e. no_setting _ e) (λ h9.
      let none : directive_named word ≡ None = rw (h0, h1, h2, h3, h4, h5, h6, h7, h8, h9) refl in
      unknown none) is) is) is) is) is) is) is) is) is
    where
      unknown : directive_named word ≡ None → ⊥
      unknown none =
          let whole : Result Line LineFaultValue = Ok (line.Request r) in
          let refused : whole ≡ Err (wrong_field fault.UnknownDirective word) = subst (λ d. MatchOption d (whole ≡ Err (wrong_field fault.UnknownDirective word)) (λ x. IsDirected has_reply x rest whole)) none is in
          let e = refused in cc

  pub asks : (word : List ℕ) (rest : List (List ℕ)) (has_reply : Bool) → IsSaid has_reply (word ∷ rest) (Ok (line.Request r)) → (word ≡ codes "at") × (request_asked rest ≡ Ok (request_of r))
  asks word rest has_reply is = by (is_text (codes "at") word) refl
    where
      found : (f : Result Request LineFaultValue) → IsRequest (request_asked rest) f → Ok (line.Request r) ≡ (f >>= (λ request. Ok (line.Request request))) → request_asked rest ≡ Ok (request_of r)
      found (Ok x) own e = let same : x ≡ r = cc in own ∙ ap (λ y. Ok (request_of y)) same
      found (Err f) own e = absurd (let h = e in cc)

      by : (t : Bool) → is_text (codes "at") word ≡ t → (word ≡ codes "at") × (request_asked rest ≡ Ok (request_of r))
      by true e =
          let P : List ℕ → Type 0 = λ w. IsSaid has_reply (w ∷ rest) (Ok (line.Request r)) in
          let at : IsRequestLine rest (Ok (line.Request r)) = subst P (word-is (codes "at") word e) is in
          (word-is (codes "at") word e, found at.0 at.1 at.2)
      by false e = absurd (no_other word rest has_reply e is)

-- a request that can be written is read again from its line
pub request-read : (has_reply : Bool) (q : RequestValue) (r : Request) → request_of r ≡ q → IsWritable q → IsRead has_reply (line_of (codes "at") (asked_fields q)) (Ok (line.Request r))
request-read has_reply q r same own =
    line-read has_reply (codes "at") (asked_fields q) (line.Request r) (record { filled = refl; plain = refl; allowed = refl }) (asked-fields q own) (Ok r, asked-again q own ∙ ap (λ x. Ok x) (sym same), refl)

-- ---- what a request asks

-- it is a request of a script, which can be written, of the moment that stands behind `at`
pub record IsAskedIn (given : List (List ℕ)) (q : RequestValue) : Type 0 where
  pub asked : Request
  pub asked_is : request_of asked ≡ q
  pub writable : IsWritable q
  pub moment_is : moment_at given ≡ Some (moment_of q)

moment_found : (w : List ℕ) (rest : List (List ℕ)) (now : ℕ) → w ≡ codes "at" → IsMoment rest now → moment_at (w ∷ rest) ≡ Some now
moment_found w [] now e none = absurd none
moment_found w (moment ∷ behind) now e is =
    let P : List ℕ → Type 0 = λ x. moment_at (x ∷ moment ∷ behind) ≡ Some now in
    subst P (sym e) (ap result_ok is)

scripted : (given : List (List ℕ)) (q : RequestValue) (r : Request) → AreFields given → IsSaid false given (Ok (line.Request r)) → q ≡ request_of r → IsAskedIn given q
scripted [] q r own is same = absurd (let e = is in cc)
scripted (w ∷ rest) q r own is same =
    let a = asks r w rest false is in
    let k = writable rest (request_of r) own.1 a.1 in
    subst (λ x. IsAskedIn (w ∷ rest) x) (sym same) (record { asked = r; asked_is = refl; writable = k.0; moment_is = moment_found w rest (moment_of (request_of r)) a.0 k.1 })

request_said : (given : List (List ℕ)) (q : RequestValue) (result : Result Line LineFaultValue) → AreFields given → IsSaid false given result → Ok q ≡ request_in given (said_of result) → IsAskedIn given q
request_said given q (Ok (line.Request r)) own is e = scripted given q r own is (let same : q ≡ request_of r = cc in same)
request_said given q (Ok line.Blank) own is e = absurd (let h = e in cc)
request_said given q (Ok (line.Reply head)) own is e = absurd (let h = e in cc)
request_said given q (Ok (line.Fail failure)) own is e = absurd (let h = e in cc)
request_said given q (Ok (line.Record section found)) own is e = absurd (let h = e in cc)
request_said given q (Ok (line.Configuration setting)) own is e = absurd (let h = e in cc)
request_said given q (Err f) own is e = absurd (let h = e in cc)

script_request : (given : List (List ℕ)) (q : RequestValue) → AreFields given → IsScriptRequest given (Ok q) → IsAskedIn given q
script_request given q own (said, (result, is, e), asks) = request_said given q result own is (asks ∙ ap (λ r. request_in given r) e)

abbrev asks_it : RequestValue → Result RequestValue RefusalValue
asks_it q = Ok q

-- a look-up of the name of an address
pointer_asked : (t : List ℕ) (now : ℕ) → IsNameField t → Request
pointer_asked t now own = let heap : Global = handle in asked.Lookup (spelled heap t ∣ allowed_text t own.field.allowed ∣₁ own.short) type.PTR now

pointed : (at moment verb : List ℕ) (behind : List (List ℕ)) (q : RequestValue) (now : ℕ) (address : List ℕ) (found : Option IpAddr) → at ≡ codes "at" → number_field 64 moment ≡ Ok now → IsReadAddress address found → Ok q ≡ pointer_of now address found → IsAskedIn (at ∷ moment ∷ verb ∷ behind) q
unfolding pointer_asked
pointed at moment verb behind q now address None word e is same = absurd (let h = same in cc)
pointed at moment verb behind q now address (Some a) word e is same =
    let t = name_text (arpa_name (whole_net a)) in
    let own = reverse-field address a is in
    let q_is : q ≡ Lookup t type.PTR now = cc in
    subst (λ x. IsAskedIn (at ∷ moment ∷ verb ∷ behind) x) (sym q_is) (record {
      asked = pointer_asked t now own;
      asked_is = refl;
      writable = (number-below moment now e, own.field, typed-PTR);
      moment_is = moment_found at (moment ∷ verb ∷ behind) now word e;
    })

reversed : (at moment verb : List ℕ) (behind : List (List ℕ)) (q : RequestValue) → is_text (codes "at") at ≡ true → IsReverse moment behind (Ok q) → IsAskedIn (at ∷ moment ∷ verb ∷ behind) q
reversed at moment verb behind q word is = by (number_field 64 moment) refl is
  where
    given : (now : ℕ) → number_field 64 moment ≡ Ok now → (xs : List (List ℕ)) → IsPointer now xs (Ok q) → IsAskedIn (at ∷ moment ∷ verb ∷ behind) q
    given now e [] refused = absurd (let h = refused in cc)
    given now e (address ∷ []) (found, read, same) = pointed at moment verb behind q now address found (word-is (codes "at") at word) e read same
    given now e (address ∷ x ∷ xs) refused = absurd (let h = refused in cc)

    by : (r : Result ℕ LineFaultValue) → number_field 64 moment ≡ r → MatchResult r (λ now. IsPointer now behind (Ok q)) (λ f. asks_it q ≡ Err (refusal_of f)) → IsAskedIn (at ∷ moment ∷ verb ∷ behind) q
    by (Ok now) e pointer = given now e behind pointer
    by (Err f) e refused = absurd (let h = refused in cc)

pub asked_in : (given : List (List ℕ)) (q : RequestValue) → AreFields given → IsAsked given (Ok q) → IsAskedIn given q
asked_in [] q own is = script_request [] q own is
asked_in (at ∷ []) q own is = script_request (at ∷ []) q own is
asked_in (at ∷ moment ∷ []) q own is = script_request (at ∷ moment ∷ []) q own is
asked_in (at ∷ moment ∷ verb ∷ behind) q own is = by (is_reverse (at ∷ moment ∷ verb ∷ behind)) refl is
  where
    by : (b : Bool) → is_reverse (at ∷ moment ∷ verb ∷ behind) ≡ b → MatchBool b (IsReverse moment behind (Ok q)) (IsScriptRequest (at ∷ moment ∷ verb ∷ behind) (Ok q)) → IsAskedIn (at ∷ moment ∷ verb ∷ behind) q
    by true e is = reversed at moment verb behind q (and_parts (is_text (codes "at") at) (is_text (codes "reverse") verb) e).0 is
    by false e is = script_request (at ∷ moment ∷ verb ∷ behind) q own is
