-- `texts::put_long` meets its contract: the numbers stand one behind another, and the newline behind all.
use native.Mathlib.Omega.{arith}
use mathlib.Core.List.{◌++◌}
use Rattle.text.specs.Texts.{bytes, decimal}
use Rattle.lines.specs.Text.{entry_text, spaced}
use Rattle.text.proofs.Puts.{put_join, put_same}
use Rattle.lines.proofs.Puts.{entry_groups}
use Rattle.lines.proofs.texts.put_long.Goals as goal

pub returns : goal.returns
unfolding entry_text spaced bytes
returns g c =
    let entry = c.args.entry in
    put_same
    (put_join (put_join (put_join c.put_ride.ensures c.put_spaced.ensures) c.put_long_spaced.ensures) c.put_byte.ensures)
    (entry_groups (decimal c.args.number) (bytes " " ++ decimal entry.area) (bytes " " ++ decimal entry.km) (bytes " " ++ decimal entry.minutes)
    (bytes " " ++ decimal entry.opening) (bytes " " ++ decimal entry.cents) (bytes "\n"))
    (omega arith)
