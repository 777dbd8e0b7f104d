-- `texts::put_ride` meets its contract: the four numbers stand one behind another.
use Rattle.text.proofs.Puts.{put_join}
use Rattle.lines.proofs.texts.put_ride.Goals as goal

pub returns : goal.returns
returns g c =
    put_join (put_join (put_join c.put_small.ensures c.put_spaced.ensures) c.put_spaced-2.ensures)
    c.put_spaced-3.ensures
