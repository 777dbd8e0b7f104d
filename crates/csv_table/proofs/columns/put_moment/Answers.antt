-- `columns::put_moment` meets its contract: the six texts stand one behind another.
use Rattle.text.specs.Texts.{bytes}
use Rattle.csv_table.specs.Text.{moment_text}
use Rattle.text.proofs.Puts.{put_join}
use Rattle.csv_table.proofs.columns.put_moment.Goals as goal

pub returns : goal.returns
unfolding moment_text bytes
returns g c =
    let year = c.put_year.ensures in
    let month = c.put_marked.ensures in
    let day = c.put_marked-2.ensures in
    let hour = c.put_marked-3.ensures in
    let minute = c.put_marked-4.ensures in
    put_join (put_join (put_join (put_join (put_join year month) day) hour) minute) c.put_byte.ensures
