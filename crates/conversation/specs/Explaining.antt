-- How a request comes about: the lines that go out before its others, where it asks for them.
use Rattle.std.specs.Prelude.{◌≡◌, ℕ, Bool, true, false, List, [], ◌++◌, codes, Option, None, Some, if◌then◌else◌}
use Rattle.std.specs.Fmt.{decimal}
use Rattle.std.specs.List.{flat_map}
use Rattle.std.specs.Option.{option_map}
use Rattle.hickory_proto_core.specs.Texts.{question_text}
use Rattle.hickory_proto_core.specs.declared.query.Query.{Query}
use Rattle.hickory_resolver_model.specs.Cache.{CacheValue, current}
use Rattle.hickory_resolver_model.specs.Run.{RequestValue, Settings, moment_of}
use Rattle.hickory_resolver_theorems.specs.ResumingCalls.{WaitingCallValue}
use Rattle.hickory_resolver.specs.Explaining.{Explains}
use Rattle.hickory_resolver.specs.Contexts.{first_passed}
use Rattle.hickory_resolver.specs.declared.explaining.Answerer.{Answerer}
use Rattle.hickory_resolver.specs.declared.explaining.Answerer.TheVariants as by
use Rattle.hickory_resolver.specs.declared.explaining.Attempted.{Attempted}
use Rattle.conversation.specs.State.{BegunValue}

-- ---- MARK `explain attempt` NAME CLASS TYPE, and who answers as things stand when the request begins

-- the age of an entry and its deadline (seconds)
abbrev pub answerer_text : Answerer → List ℕ
answerer_text by.Hosts = codes "hosts"
answerer_text by.SpecialUse = codes "special"
answerer_text (by.Cache age until) = codes "cache " ++ decimal age ++ codes " until " ++ decimal until
answerer_text by.Upstream = codes "upstream"

abbrev pub attempted_text : List ℕ → Attempted → List ℕ
attempted_text mark a =
    mark ++ codes " explain attempt " ++ question_text a.question ++ codes " " ++ answerer_text a.answerer ++ codes "\n"

abbrev pub attempts_text : List ℕ → List Attempted → List ℕ
attempts_text mark attempted = flat_map (attempted_text mark) attempted

abbrev pub IsStartExplained : List ℕ → Bool → Settings → CacheValue → RequestValue → List ℕ → Type 0
IsStartExplained mark false s cache request text = text ≡ []
IsStartExplained mark true s cache request text =
    (attempted : List Attempted) × Explains s cache request attempted × (text ≡ attempts_text mark attempted)

-- ---- MARK `explain alias` NAME CLASS TYPE `to` NAME CLASS TYPE, before the question that aliases led to is sent

abbrev pub alias_line : List ℕ → Query → Option Query → List ℕ
alias_line mark question None = []
alias_line mark question (Some first) =
    mark ++ codes " explain alias " ++ question_text first ++ codes " to " ++ question_text question ++ codes "\n"

abbrev pub alias_text : List ℕ → Bool → WaitingCallValue → List ℕ
alias_text mark explains w =
    if explains then alias_line mark w.lookup.hop.query (first_passed w.lookup.passed) else []

-- ---- MARK `explain stored` NAME CLASS TYPE `until` MOMENT, when the request is over: for each question that was sent
-- for it, the deadline of what the cache has for it now

abbrev pub stored_line : List ℕ → Query → Option ℕ → List ℕ
stored_line mark question None = []
stored_line mark question (Some until) =
    mark ++ codes " explain stored " ++ question_text question ++ codes " until " ++ decimal until ++ codes "\n"

abbrev pub deadline : CacheValue → ℕ → Query → Option ℕ
deadline cache now question = option_map (λ e. e.valid_until) (current question now cache.entries)

abbrev pub stored_lines : List ℕ → CacheValue → ℕ → List Query → List ℕ
stored_lines mark cache now sent = flat_map (λ q. stored_line mark q (deadline cache now q)) sent

abbrev pub stored_text : List ℕ → BegunValue → CacheValue → List ℕ
stored_text mark begun cache =
    if begun.explains then stored_lines mark cache (moment_of begun.request) begun.sent else []
