-- The version of the library.
-- Assumes nothing.
use Rattle.std.specs.Prelude.{ℕ, ◌+◌, ◌*◌}

-- a version as one number: three decimal digits for minor and for patch, major before them
abbrev pub numbered : ℕ → ℕ → ℕ → ℕ
numbered major minor patch = major * 1000000 + minor * 1000 + patch

-- this version, 0.7.1; the header, the wrapper and CHANGELOG.md have the same
abbrev pub version : ℕ
version = numbered 0 7 1
