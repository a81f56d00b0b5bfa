-- The journal of a conversation, as a script: what goes out of a conversation with one request at a time is what a
-- replay of its journal writes, over the hosts that stood.
use Rattle.std.specs.Prelude.{◌≡◌, ◌≤◌, ◌+◌, ◌||◌, ℕ, false, not, List, [], ◌∷◌, ◌++◌, length, map, drop, codes, string_bytes, Option, None, Some, Ok, MatchBool, if◌then◌else◌}
use Rattle.std.specs.Ffi.{without_last}
use Rattle.std.specs.List.{flat_map}
use Rattle.std.specs.Option.{is_some}
use Rattle.std.specs.Result.{result_ok}
use Rattle.std.specs.Str.{bytes_eq}
use Rattle.hickory_proto_core.specs.Codes.{is_text}
use Rattle.hickory_proto_core.specs.ResponseKind.{is_empty}
use Rattle.hickory_resolver_model.specs.Cache.{CacheValue}
use Rattle.hickory_resolver_model.specs.Run.{Settings}
use Rattle.replay.specs.ScriptRun.{IsReplayed}
use Rattle.replay_script.specs.Fields.{fields}
use Rattle.replay_script.specs.Words.{number_field}
use Rattle.conversation.specs.Answers.{Answer, IsOpened}
use Rattle.conversation.specs.Files.{only_hosts}
use Rattle.conversation.specs.Hearing.{Answers, RunsOut, Says, Stands, silent}
use Rattle.conversation.specs.Lines.{mark_of}
use Rattle.conversation.specs.Said.{said_by}
use Rattle.conversation.specs.State.{ConversationValue, InFlightValue, Setting, Serving, Phase, counted}
use Rattle.conversation.specs.declared.heard.Heard.{Heard}

-- ---- lines, one after another

-- Lines, one after another, up to the last of the conversation: what each is answered. A line for which there was no
-- memory has no answer.
abbrev pub AreHeard : ConversationValue → List (List ℕ) → List (Option Answer) → ConversationValue → Type 0
AreHeard before [] [] after = after ≡ before
AreHeard before (text ∷ texts) (Some answer ∷ answers) after =
    (mid : ConversationValue) × Answers (counted before) text answer
    × Stands (mark_of text) answer (counted before) mid
    × MatchBool answer.is_last ((answers ≡ []) × (after ≡ mid)) (AreHeard mid texts answers after)
AreHeard before (text ∷ texts) (None ∷ answers) after =
    (mid : ConversationValue) × RunsOut (mark_of text) (said_by text) (counted before) mid
    × AreHeard mid texts answers after
AreHeard before _ _ after = ⊥

-- these lines go out, of what lines are answered one after another
abbrev pub AllSay : List Answer → List Heard → Type 0
AllSay [] [] = Unit {0}
AllSay (answer ∷ answers) (heard ∷ heards) = Says answer heard × AllSay answers heards
AllSay answers heards = ⊥

-- ---- one request at a time

-- whose turn it is: no request is in flight, or that of a mark is; with the moment of the last request that was begun
pub data Turn : Type 0 where
  Idle : ℕ → Turn
  Busy : List ℕ → ℕ → Turn

-- the moment of `at` MOMENT, which may stand behind `explain`
abbrev pub moment_at : List (List ℕ) → Option ℕ
moment_at (at ∷ moment ∷ asked) = if is_text (codes "at") at then result_ok (number_field 64 moment) else None
moment_at given = None

abbrev pub moment_behind : List (List ℕ) → Option ℕ
moment_behind [] = None
moment_behind (text ∷ behind) = if is_text (codes "explain") text then moment_at behind else moment_at (text ∷ behind)

abbrev pub moment_asked : List (List ℕ) → Option ℕ
moment_asked [] = None
moment_asked (mark ∷ behind) = moment_behind behind

-- the moment of the request that a line began while none was in flight, where it began one: that waits now, or is over
abbrev pub moment_begun : List ℕ → Answer → Phase → Option ℕ
moment_begun text answer (Setting configuration files) = None
moment_begun text answer (Serving s cache) =
    if is_some answer.held || not (is_empty answer.journal) then moment_asked (fields text) else None

abbrev pub later : ℕ → Option ℕ → ℕ
later latest None = latest
later latest (Some moment) = moment

abbrev pub IsNoEarlier : ℕ → Option ℕ → Type 0
IsNoEarlier latest None = Unit {0}
IsNoEarlier latest (Some moment) = latest ≤ moment

-- after a line of this mark, by what is held of its request
abbrev pub turn_of : List ℕ → Option InFlightValue → ℕ → Turn
turn_of mark None latest = Idle latest
turn_of mark (Some r) latest = Busy mark latest

abbrev pub next_turn : Turn → List ℕ → Answer → Turn
next_turn (Idle latest) text answer =
    turn_of (mark_of text) answer.held (later latest (moment_begun text answer answer.phase))
next_turn (Busy mark latest) text answer =
    if bytes_eq mark (mark_of text) then turn_of mark answer.held latest else Busy mark latest

-- a request that is no longer held is over: the journal has it. It was not cancelled
abbrev pub IsOver : Answer → Option InFlightValue → Type 0
IsOver answer None = is_empty answer.journal ≡ false
IsOver answer (Some r) = Unit {0}

-- no request is begun
abbrev pub BeginsNone : Answer → Type 0
BeginsNone answer = (answer.held ≡ None) × (answer.journal ≡ [])

-- A line in its turn: while no request is in flight, one may begin, not earlier than the one before it; while one is,
-- it is not cancelled, and no other begins.
abbrev pub IsInTurn : Turn → List ℕ → Answer → Type 0
IsInTurn (Idle latest) text answer = IsNoEarlier latest (moment_begun text answer answer.phase)
IsInTurn (Busy mark latest) text answer =
    MatchBool (bytes_eq mark (mark_of text)) (IsOver answer answer.held) (BeginsNone answer)

-- lines, each in its turn, and no request is in flight behind the last that is answered
abbrev pub AreInTurn : Turn → List (List ℕ) → List Answer → Type 0
AreInTurn (Idle latest) texts [] = Unit {0}
AreInTurn (Busy mark latest) texts [] = ⊥
AreInTurn turn [] (answer ∷ answers) = ⊥
AreInTurn turn (text ∷ texts) (answer ∷ answers) =
    IsInTurn turn text answer × AreInTurn (next_turn turn text answer) texts answers

-- ---- what went out

-- the block of a request that is over, without its mark and the empty line behind it; no other line that holds no
-- request has lines in the journal and a text
abbrev pub block_of : List ℕ → Answer → List ℕ
block_of mark answer =
    if is_some answer.held || is_empty answer.journal then [] else without_last (drop (length mark + 1) answer.text)

-- the blocks, one after another
abbrev pub blocks_of : List (List ℕ) → List Answer → List ℕ
blocks_of texts [] = []
blocks_of [] (answer ∷ answers) = []
blocks_of (text ∷ texts) (answer ∷ answers) = block_of (mark_of text) answer ++ blocks_of texts answers

abbrev pub journal_of : List Answer → List ℕ
journal_of answers = flat_map (λ answer. answer.journal) answers

-- the lines of the hosts that stood at the first request, or at the end
abbrev pub hosts_after : List ℕ → Phase → List ℕ
hosts_after hosts (Setting configuration files) = files.hosts
hosts_after hosts (Serving s cache) = hosts

abbrev pub hosts_stood : List ℕ → List Answer → List ℕ
hosts_stood hosts [] = hosts
hosts_stood hosts (answer ∷ answers) = hosts_stood (hosts_after hosts answer.phase) answers

-- ---- the law

-- before the first request, without a file resolv.conf, of which the journal has nothing yet
abbrev pub without_file : Phase → Phase
without_file (Setting configuration files) = Setting configuration (only_hosts files.hosts)
without_file (Serving s cache) = Serving s cache

-- a request can be begun, or could have been: the bounds on times to live are not reversed, and the hosts can be read
abbrev pub CanServe : Phase → Type 0
CanServe phase = (opened : Settings × CacheValue) × IsOpened (without_file phase) 0 (Ok opened)

-- Lines that are heard one after another, from silence on, one request at a time, and each is answered: their blocks
-- are what a replay writes of their journal and the hosts.
abbrev pub IsScriptOfBlocks : List ℕ → List (List ℕ) → List Answer → ConversationValue → Type 0
IsScriptOfBlocks hosts texts answers after =
    AreHeard (silent hosts) texts (map (λ answer. Some answer) answers) after → AreInTurn (Idle 0) texts answers
    → CanServe after.phase
    → IsReplayed (journal_of answers) (hosts_stood hosts answers) (blocks_of texts answers)

-- Lines that were heard one after another, each of them answered, and what went out. From silence on, one request at a
-- time, their blocks are what a replay writes of what the journal got, and of the hosts.
abbrev pub IsScriptHeard : ConversationValue → List (List ℕ) → List Heard → ConversationValue → Type 0
IsScriptHeard before texts heards after =
    (answers : List Answer) × AllSay answers heards × AreHeard before texts (map (λ answer. Some answer) answers) after
    × ((hosts : List ℕ) → before ≡ silent hosts → AreInTurn (Idle 0) texts answers → CanServe after.phase
    → IsReplayed (flat_map (λ heard. string_bytes heard.journal) heards) (hosts_stood hosts answers)
    (blocks_of texts answers))
