-- The version of the archive and its header, in one number.
use Rattle.std.specs.Prelude.{ℕ, ◌+◌, ◌*◌}

-- major * 10,000 + minor * 100 + patch: 0.7.0.
abbrev pub version : ℕ
version = 0 * 10000 + 7 * 100 + 0
