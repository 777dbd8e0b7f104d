-- Where the reading of a tariff stops. What stands before the first faulty record may be a faultless tariff alone: a file of editions goes on
-- behind it.
use Rattle.std.specs.Prelude.{ℕ, cond, ◌||◌, List, take, ◌==◌, nat_lt}
use Rattle.layout.specs.declared.Counts.{Counts}
use Rattle.layout.specs.declared.Reading.{Reading}
use Rattle.layout.specs.declared.Reading.TheVariants.{Fault, Faultless}
use Rattle.layout.specs.Scan.{read_tariff}
use Rattle.scan.specs.declared.Halt.{Halt}
use Rattle.scan.specs.declared.Halt.TheVariants.{End, Behind, Amid}

-- at a first faulty record, by what the reading of what stands before it comes to: a faultless tariff alone, with its counts, or none
unfoldable pub stopped_at : ℕ → ℕ → Reading → Halt
stopped_at number at (Faultless before) = Behind number at before
stopped_at number at (Fault other place) = Amid number at

-- by what the reading of the whole comes to: at the tariff's end, with its counts, or at its first faulty record
unfoldable pub halt_with : List ℕ → Reading → Halt
halt_with b (Faultless counts) = End counts
halt_with b (Fault number at) = stopped_at number at (read_tariff (take at b))

unfoldable pub halt_of : List ℕ → Halt
halt_of b = halt_with b (read_tariff b)

-- the code's own form, joined to it by the law `halt_fault` (proofs/Halts.antt): what stands before is no tariff while an area or a factor
-- record is due
unfoldable pub fault_at : ℕ → ℕ → Counts → ℕ → Halt
fault_at number at so_far due = cond (so_far.areas == 0 || nat_lt so_far.factors due) (Amid number at) (Behind number at so_far)
