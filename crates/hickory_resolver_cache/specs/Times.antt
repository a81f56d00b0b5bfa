-- When an entry was stored, and its deadline.
use Rattle.std.specs.Prelude.{ℕ}
use Rattle.hickory_resolver_model.specs.Cache.{Entry}

-- when it was stored, and the last moment at which it is current (seconds)
abbrev pub times_of : Entry → ℕ × ℕ
times_of e = (e.original_time, e.valid_until)
