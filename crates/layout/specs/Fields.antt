-- Rules, section 4: where the fields of an area record (kind 1 or 8), of a factor record (kind 5) and of a stop record (kind 2) stand.
use Rattle.std.specs.Prelude.{ℕ, ◌+◌, List}
use Rattle.wire.specs.Number.{get_le}
use Rattle.layout.specs.declared.Factor.{Factor}
use Rattle.layout.specs.declared.fields.AreaFields.{AreaFields}
use Rattle.layout.specs.declared.fields.LongFields.{LongFields}
use Rattle.layout.specs.declared.fields.StopFields.{StopFields}

-- level 1 byte; parent 1; base price 2; price per km 2; base validity in minutes 2; first-class surcharge % 1; child reduction % 1;
-- trip-cap sort 1; five 2-byte trip-cap fields; day cap 2; bicycle flat 2, which in kind 8 is the bicycle's cap per window; after a head of
-- 4 bytes
unfoldable pub area_fields : List ℕ → ℕ → AreaFields
area_fields b at =
    record {
      level = get_le 1 b (at + 4);
      parent = get_le 1 b (at + 5);
      base_price = get_le 2 b (at + 6);
      price_per_km = get_le 2 b (at + 8);
      validity = get_le 2 b (at + 10);
      surcharge = get_le 1 b (at + 12);
      reduction = get_le 1 b (at + 13);
      sort = get_le 1 b (at + 14);
      cap1 = get_le 2 b (at + 15);
      cap2 = get_le 2 b (at + 17);
      cap3 = get_le 2 b (at + 19);
      cap4 = get_le 2 b (at + 21);
      cap5 = get_le 2 b (at + 23);
      day_cap = get_le 2 b (at + 25);
      bicycle_flat = get_le 2 b (at + 27);
    }

-- and behind them in a record of kind 8: five child tickets of 2; bicycle price per trip 2; town mark 1
unfoldable pub long_fields : List ℕ → ℕ → LongFields
long_fields b at =
    record {
      child1 = get_le 2 b (at + 29);
      child2 = get_le 2 b (at + 31);
      child3 = get_le 2 b (at + 33);
      child4 = get_le 2 b (at + 35);
      child5 = get_le 2 b (at + 37);
      bicycle_price = get_le 2 b (at + 39);
      town = get_le 1 b (at + 41);
    }

-- factor 1, mark 1
unfoldable pub factor_fields : List ℕ → ℕ → Factor
factor_fields b at = record { factor = get_le 1 b (at + 4); mark = get_le 1 b (at + 5) }

-- area 1, x 4, y 4
unfoldable pub stop_fields : List ℕ → ℕ → StopFields
stop_fields b at = record { area = get_le 1 b (at + 4); x = get_le 4 b (at + 5); y = get_le 4 b (at + 9) }
