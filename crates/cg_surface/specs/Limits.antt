-- The limit of what is written: docs/LANGUAGE.md, "Limits".
use Rattle.std.specs.Prelude.{ℕ}

-- no type, pattern or expression that is read has more depth
abbrev pub depth_limit : ℕ
depth_limit = 1024
