-- What is drawn from the seed of a forwarder: words of ChaCha20, one behind the other (RFC 8439, section 2.4).
use Rattle.std.specs.Prelude.{ℕ, List}
use Rattle.rand_core.specs.Steps.{fill_via_u32}
use Rattle.rand_chacha.specs.ChaCha.{next_word, of_seed}

-- the seed of the pool: the first eight words, of each the low octet first
abbrev pub pool_seed : List ℕ → List ℕ
pool_seed seed = (fill_via_u32 (next_word 10) 32 (of_seed seed)).0
