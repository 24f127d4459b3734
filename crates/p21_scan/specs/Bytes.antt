-- Classes of bytes, as tests.
use Rattle.std.specs.Prelude.{ℕ, Bool, nat_le, ◌==◌, ◌&&◌, ◌||◌}
use Rattle.p21_spec_basics.specs.Digits.{is_digit}

abbrev pub is_upper : ℕ → Bool
is_upper byte = nat_le 65 byte && nat_le byte 90 || byte == 95

abbrev pub is_keyword_byte : ℕ → Bool
is_keyword_byte byte = is_upper byte || is_digit byte

abbrev pub is_blank : ℕ → Bool
is_blank byte = nat_le byte 32 || byte == 127
