-- The header of a message: six numbers of 16 bits (RFC 1035, section 4.1.1).
use Rattle.std.specs.Prelude.{ℕ, ◌+◌, ◌*◌, List, length, get_or, nat_lt, Option, None, Some, if◌then◌else◌}
use Rattle.hickory_resolver_tries.specs.declared.head.Head.{Head}

-- the number at a position, the high octet first
abbrev pub number_at : List ℕ → ℕ → ℕ
number_at bytes at = get_or bytes at 0 * 256 + get_or bytes (at + 1) 0

abbrev pub head_of : List ℕ → Option Head
head_of bytes =
    if nat_lt (length bytes) 12 then None else Some (record {
      id = number_at bytes 0;
      flags = number_at bytes 2;
      queries = number_at bytes 4;
      answers = number_at bytes 6;
      authorities = number_at bytes 8;
      additionals = number_at bytes 10;
    })
