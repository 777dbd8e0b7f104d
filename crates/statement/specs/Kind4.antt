-- docs/FORMAT.md, kind 4: a charge record that tells charges alone, as settling wrote it before what caps took off was told. Window's opening
-- minute 4, area 1, km 2, minutes 2, then m charges of 4: account holder, adults, children, bicycles.
use Rattle.std.specs.Prelude.{ℕ, ◌+◌, ◌*◌, List, [], ◌++◌, length}
use Rattle.wire.specs.Number.{bytes_of}
use Rattle.statement.specs.Record.{Part, charge_size, charge_bytes}

abbrev pub charges_kind : ℕ
charges_kind = 4

-- what its length field counts: kind, the body's first 9 bytes, and the charges
abbrev pub charges_long : ℕ → ℕ
charges_long charges = 11 + charge_size * charges

unfoldable pub charges_head : ℕ → ℕ → ℕ → ℕ → ℕ → List ℕ
charges_head long opening area km minutes =
    bytes_of 2 long ++ (bytes_of 2 charges_kind ++ (bytes_of 4 opening ++ (bytes_of 1 area ++ (bytes_of 2 km ++ bytes_of 2 minutes))))

-- the record of kind 4 of a part: no charge has a cut behind it
unfoldable pub charges_record_of : Part → List ℕ
charges_record_of part =
    charges_head (charges_long (length part.charges)) part.opening part.ride.area part.ride.km.0 part.ride.minutes.0
    ++ charge_bytes part.charges []
