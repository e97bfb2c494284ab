-- Rules: how long a line of text may be.
use Rattle.std.specs.Prelude.{ℕ}

-- a line that is put together for printing has room for 512 bytes
abbrev pub line_size : ℕ
line_size = 512
