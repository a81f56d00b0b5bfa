-- What is drawn by chance: words of ChaCha20, one behind the other (RFC 8439, section 2.4), so that all of it follows
-- from the seed.
use Rattle.std.specs.Prelude.{ℕ, ◌%◌, ◌^◌, List}
use Rattle.rand_core.specs.Steps.{fill_via_u32}
use Rattle.rand_chacha.specs.ChaCha.{ChaCha, next_word}
use Rattle.hickory_resolver_channels.specs.declared.draws.Drawn.{Drawn}

-- twenty rounds are ten double ones
abbrev pub next_drawn : ChaCha → ℕ × ChaCha
next_drawn g = next_word 10 g

-- the number of a message: the lower half of a word
abbrev pub id_drawn : ChaCha → ℕ
id_drawn g = (next_drawn g).0 % 2 ^ 16

-- which letters are varied: eight words, of each the low octet first
abbrev pub letters_drawn : ChaCha → List ℕ × ChaCha
letters_drawn g = fill_via_u32 next_drawn 32 g

-- for one try: the number of its message, and then which letters are varied
abbrev pub try_drawn : ChaCha → Drawn
try_drawn g = record { id = id_drawn g; letters = (letters_drawn (next_drawn g).1).0 }

abbrev pub after_try : ChaCha → ChaCha
after_try g = (letters_drawn (next_drawn g).1).1
