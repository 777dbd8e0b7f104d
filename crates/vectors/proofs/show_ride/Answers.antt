-- `vectors::show_ride` is safe and ends: a ride under a faultless tariff can be priced.
use Rattle.vectors.proofs.Priced.{priceable}
use Rattle.vectors.proofs.show_ride.Goals as goal

pub price-adult-requires : goal.price-adult-requires
price-adult-requires g c = let (read, is) = c.requires in priceable _ _ _ _ read is c.area-here.ensures

pub price-child-requires : goal.price-child-requires
price-child-requires g c = let (read, is) = c.requires in priceable _ _ _ _ read is c.area-here.ensures
