-- `texts::put_header` meets its contract: the bytes put are the header's.
use Rattle.text.specs.Texts.{bytes}
use Rattle.lines.specs.Text.{header}
use Rattle.lines.proofs.texts.put_header.Goals as goal

pub returns : goal.returns
unfolding header bytes
returns g c = c.put_text.ensures
