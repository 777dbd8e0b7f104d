-- What serves the contracts of area_run.rt, price_words.rt and cap_words.rt alone.
use Rattle.std.specs.Prelude.{◌≡◌, ℕ, ◌<◌, Bool, true, ◌&&◌, ◌⊎◌, List}
use Rattle.wire.specs.Frame.{frame_at}
use Rattle.wire.specs.declared.Frame.TheVariants.{Whole}
use Rattle.scan.specs.declared.area_run.Run.{Run}
use Rattle.layout.specs.declared.Entry.TheVariants.{Area}
use Rattle.layout.specs.Layout.{common_kind, aachen_kind, area_body_of}
use Rattle.layout.specs.Fields.{area_fields, long_fields}
use Rattle.layout.specs.Rules.{factors_due, prices_right, caps_right, money, tickets_right, long_right}
use Rattle.layout.specs.Scan.{entry_at, FaultlessUntil}

-- every record before a place is faultless, and all are areas
pub record AreasPassed (b : List ℕ) (run : Run) : Type 0 where
  pub passed : FaultlessUntil b run.at run.so_far
  pub due : run.due ≡ factors_due b run.so_far
  pub some : 0 < run.so_far.areas
  pub no_factor : run.so_far.factors ≡ 0
  pub no_stop : run.so_far.stops ≡ 0

-- every record before a place is faultless, and so is the area there
pub record AreaNext (b : List ℕ) (run : Run) (kind : ℕ) : Type 0 where
  pub passed : FaultlessUntil b run.at run.so_far
  pub due : run.due ≡ factors_due b run.so_far
  pub here : entry_at b run.at run.so_far ≡ Area kind

-- what a kind that was found, and is not 0, tells: a whole area record of its kind's length
pub record KindFound (b : List ℕ) (at kind : ℕ) : Type 0 where
  pub told : 0 < kind → ((kind ≡ common_kind) ⊎ (kind ≡ aachen_kind)) × (frame_at b at ≡ Whole kind (area_body_of kind))

-- what an area that was found tells: a faultless one
pub record AreaFound (b : List ℕ) (run : Run) (kind : ℕ) (r : Bool) : Type 0 where
  pub told : r ≡ true → entry_at b run.at run.so_far ≡ Area kind

-- what prices that were found tell: right ones
pub record PricesFound (b : List ℕ) (at : ℕ) (r : Bool) : Type 0 where
  pub told : r ≡ true → prices_right (area_fields b at) ≡ true

-- what caps that were found tell: right ones
pub record CapsFound (b : List ℕ) (at : ℕ) (r : Bool) : Type 0 where
  pub told : r ≡ true → caps_right (area_fields b at) ≡ true

-- what child tickets and a bicycle price that were found tell: right ones
pub record TicketsFound (b : List ℕ) (at : ℕ) (r : Bool) : Type 0 where
  pub told : r ≡ true → tickets_right (area_fields b at) (long_fields b at) && money (long_fields b at).bicycle_price ≡ true

-- what all that an area record of kind 8 has besides tells, where it was found: it is right
pub record LongFound (b : List ℕ) (at : ℕ) (r : Bool) : Type 0 where
  pub told : r ≡ true → long_right (area_fields b at) (long_fields b at) ≡ true
