-- `spaced::put_long_spaced` meets its contract: the number's digits stand behind the blank.
use Rattle.text.specs.Texts.{bytes}
use Rattle.text.proofs.Puts.{put_join}
use Rattle.lines.proofs.spaced.put_long_spaced.Goals as goal

pub returns : goal.returns
unfolding bytes
returns g c = put_join c.put_byte.ensures c.put_number.ensures
