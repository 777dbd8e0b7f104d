-- Every day has 1,440 minutes.
use Rattle.std.specs.Prelude.{ℕ}

abbrev pub day_minutes : ℕ
day_minutes = 1440
