-- The words behind `options`, and what they set (resolv.conf(5)).
use Rattle.std.specs.Prelude.{ℕ, ◌-◌, Bool, true, false, nat_eq, nat_lt, List, length, drop, min, max, Option, None, Some, codes, if◌then◌else◌}
use Rattle.std.specs.Char.{is_ascii_digit}
use Rattle.std.specs.List.{starts_with, take_while}
use Rattle.std.specs.Str.Parse.{digits_value}
use Rattle.resolv_conf.specs.declared.option_word.OptionWord.{OptionWord}
use Rattle.resolv_conf.specs.declared.option_word.OptionWord.TheVariants.{Ndots, Timeout, Attempts, Rotate, UseVc, Edns0, NoAaaa, TrustAd, SingleRequest, PassedOver}
use Rattle.resolv_conf.specs.declared.passed_over.Reason.TheVariants.{NotANumber, UnknownOption}
use Rattle.resolv_conf.specs.declared.settings.Settings.{Settings}

-- the number of the decimal digits that a text begins with, cut to a limit; none where it begins with no digit
unfoldable pub number_within : ℕ → List ℕ → Option ℕ
number_within limit text =
    let digits = take_while is_ascii_digit text in
    if nat_lt 0 (length digits) then Some (min limit (digits_value 10 digits)) else None

abbrev pub ndots_named : Option ℕ → OptionWord
ndots_named None = PassedOver NotANumber
ndots_named (Some dots) = Ndots dots

abbrev pub timeout_named : Option ℕ → OptionWord
timeout_named None = PassedOver NotANumber
timeout_named (Some seconds) = Timeout seconds

abbrev pub attempts_named : Option ℕ → OptionWord
attempts_named None = PassedOver NotANumber
attempts_named (Some rounds) = Attempts rounds

abbrev pub begins : List ℕ → List ℕ → Bool
begins word name = starts_with nat_eq word name

-- an option without a number: a word that begins with its name
unfoldable pub flag_named : List ℕ → OptionWord
flag_named word =
    if begins word (codes "rotate") then Rotate
    else (if begins word (codes "use-vc") then UseVc
    else (if begins word (codes "edns0") then Edns0
    else (if begins word (codes "no-aaaa") then NoAaaa
    else (if begins word (codes "trust-ad") then TrustAd
    else (if begins word (codes "single-request") then SingleRequest else PassedOver UnknownOption)))))

-- what a word says: `ndots:` up to 15, `timeout:` up to 30 seconds, `attempts:` up to 5 rounds, and what has no
-- number
unfoldable pub option_of : List ℕ → OptionWord
option_of word =
    if begins word (codes "ndots:") then ndots_named (number_within 15 (drop 6 word))
    else (if begins word (codes "timeout:") then timeout_named (number_within 30 (drop 8 word))
    else (if begins word (codes "attempts:") then attempts_named (number_within 5 (drop 9 word))
    else flag_named word))

-- what is set where no line says otherwise: one dot, 5 seconds, two rounds
abbrev pub default_settings : Settings
default_settings = record {
  ndots = 1;
  timeout = 5;
  attempts = 1;
  rotate = false;
  use_vc = false;
  edns0 = false;
  no_aaaa = false;
  trust_ad = false;
}

-- a word sets its option, and leaves the others. No wait is shorter than a second, and there is one round at least,
-- so that `attempts` of a resolver, which counts the rounds behind the first, is less by one
abbrev pub with_option : Settings → OptionWord → Settings
with_option settings (Ndots dots) = record settings { ndots = dots }
with_option settings (Timeout seconds) = record settings { timeout = max 1 seconds }
with_option settings (Attempts rounds) = record settings { attempts = rounds - 1 }
with_option settings Rotate = record settings { rotate = true }
with_option settings UseVc = record settings { use_vc = true }
with_option settings Edns0 = record settings { edns0 = true }
with_option settings NoAaaa = record settings { no_aaaa = true }
with_option settings TrustAd = record settings { trust_ad = true }
with_option settings SingleRequest = settings
with_option settings (PassedOver reason) = settings
