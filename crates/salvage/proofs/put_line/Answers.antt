-- `put_line` meets its contract: both numbers with their marks, one behind the other, are the line.
use Rattle.text.specs.Texts.{bytes}
use Rattle.text.proofs.Puts.{put_join}
use Rattle.salvage.specs.Salvage.{line_of}
use Rattle.salvage.proofs.put_line.Goals as goal

pub returns : goal.returns
unfolding line_of bytes
returns c = put_join c.put_marked.ensures c.put_marked-2.ensures
