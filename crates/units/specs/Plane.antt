-- Rules, sections 4 and 7: stops lie on a plane of 1,000 by 1,000 kilometres.
use Rattle.std.specs.Prelude.{ℕ}

-- 1,415 kilometres reach across the whole plane
abbrev pub most_km : ℕ
most_km = 1415
