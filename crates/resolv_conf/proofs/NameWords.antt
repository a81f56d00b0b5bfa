-- Words that are domain names, and addresses.
use Rattle.std.proofs.Common.{◌≡◌, ◌≢◌, ◌∙◌, ◌⊎◌, ℕ, true, false, cond, List, [], ◌∷◌, Option, None, Some, Result, Ok, Err, inl, inr, refl, sym, ap}
use Rattle.std.proofs.lemmas.Bool.{and_parts, ltb-true}
use Rattle.std.proofs.lemmas.Str.Ascii.{IsAscii-cons, IsAscii-nil}
use Rattle.std.proofs.lemmas.Str.{IsUtf8-from_ascii}
use Rattle.std.specs.Char.{is_ascii}
use Rattle.std.specs.List.{list_all}
use Rattle.std.specs.Result.{result_ok}
use Rattle.std.specs.Str.{IsAscii, IsUtf8}
use Rattle.std.specs.declared.net.IpAddr.{IpAddr}
use Rattle.std.specs.Net.Grammar.{IsIpText, Parses}
use Rattle.hickory_proto_core.specs.Name.{NameValue}
use Rattle.hickory_proto_core.specs.NameDecided.{text_name}
use Rattle.hickory_proto_core.specs.names.name_error.NameError.{NameError}
use Rattle.hickory_proto_core.specs.names.name_error.NameError.TheVariants.{OutOfMemory}
use Rattle.resolv_conf.specs.AddressDecided.{address_of, address_of_is}
use Rattle.resolv_conf.specs.Names.{name_of}

all_ascii : (bs : List ℕ) → list_all is_ascii bs ≡ true → IsAscii bs
all_ascii [] h = IsAscii-nil
all_ascii (b ∷ bs) h =
    let both = and_parts (is_ascii b) (list_all is_ascii bs) h in
    IsAscii-cons b bs (ltb-true b 128 both.0) (all_ascii bs both.1)

-- octets of ASCII are a text
pub ascii_utf8 : (bs : List ℕ) → list_all is_ascii bs ≡ true → IsUtf8 bs
ascii_utf8 bs h = IsUtf8-from_ascii bs (all_ascii bs h)

-- a word past ASCII is no name
pub name_of-past : (word : List ℕ) → list_all is_ascii word ≡ false → name_of word ≡ None
unfolding name_of
name_of-past word h = ap (λ b. cond b (result_ok (text_name word)) None) h

name_of-text : (word text : List ℕ) → list_all is_ascii word ≡ true → text ≡ word → name_of word ≡ result_ok (text_name text)
unfolding name_of
name_of-text word text h e = ap (λ b. cond b (result_ok (text_name word)) None) h ∙ ap (λ t. result_ok (text_name t)) (sym e)

-- a word that is read as a name
pub name_of-named : (word text : List ℕ) (name : NameValue) → list_all is_ascii word ≡ true → text ≡ word
    → (◌≡◌ {A = Result NameValue NameError} (Ok name) (text_name text)) ⊎ (◌≡◌ {A = Result NameValue NameError} (Ok name) (Err OutOfMemory)) → Some name ≡ name_of word
name_of-named word text name h e (inl is) = ap result_ok is ∙ sym (name_of-text word text h e)
name_of-named word text name h e (inr out) = absurd (let o = out in cc)

-- a word that is none
pub name_of-none : (word text : List ℕ) (error : NameError) → list_all is_ascii word ≡ true → text ≡ word
    → (◌≡◌ {A = Result NameValue NameError} (Err error) (text_name text)) ⊎ (◌≡◌ {A = Result NameValue NameError} (Err error) (Err OutOfMemory)) → error ≢ OutOfMemory → None ≡ name_of word
name_of-none word text error h e (inl is) other = ap result_ok is ∙ sym (name_of-text word text h e)
name_of-none word text error h e (inr out) other = absurd (other (let o = out in cc))

nothing_read : (s : Option IpAddr) → ((a : IpAddr) → s ≡ Some a → ⊥) → None ≡ s
nothing_read None never = refl
nothing_read (Some b) never = absurd (never b refl)

-- what parsing gives is the address of the text
pub address_of-parsed : {E : Type 0} (text : List ℕ) (r : Result IpAddr E) → Parses IsIpText text r → result_ok r ≡ address_of text
address_of-parsed text (Ok a) spells = sym ((address_of_is text a).1 spells)
address_of-parsed text (Err e) none = nothing_read (address_of text) (λ a is. none a ((address_of_is text a).0 is))
