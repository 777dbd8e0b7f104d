-- What a writer, which holds the lent statement, is once a number is put.
use Rattle.std.specs.Prelude.{ℕ, ◌+◌}
use denote.Ref.{at_last}
use Rattle.wire.specs.Number.{put_le}
use Rattle.wire.specs.declared.writer.Writer.{Writer}

-- the same lent slice, with the number in `width` bytes at the writer's place, and the place after them. `at_last x l` is the reference x, its
-- pointer and its ghost name with it, at the bytes l
abbrev pub stored : ℕ → Writer → ℕ → Writer
stored width w v = record { buf = at_last w.buf (put_le width w.buf.now w.at v); at = w.at + width }
