-- What the functions promise their callers beside the definitions. A reader of the rules needs none of it.
use Rattle.std.specs.Prelude.{ℕ, ◌-◌, ◌^◌, ◌≤◌, ◌<◌, ◌≡◌, cond, leb, eqb}
use Rattle.units.specs.declared.Cap.{Cap}
use Rattle.units.specs.declared.Cap.TheVariants.{NoCap, UpTo}
use Rattle.caps.specs.declared.Caps.{Caps}
use Rattle.caps.specs.declared.Name.{Name}
use Rattle.caps.specs.declared.Rest.{Rest}
use Rattle.caps.specs.Limits.{left_of}
use Rattle.caps.specs.Named.{no_name}

-- a cap that leaves no more than the least so far takes the name
unfoldable pub rest_under : Rest → Cap → ℕ → ℕ → Rest
rest_under rest NoCap area class = rest
rest_under rest (UpTo most) area class =
    cond (leb most.0 rest.amount.0) (record { amount = most; name = record { area = area; class = class } }) rest

-- the same with what a cap leaves as a plain number, larger than any amount where there is no cap (Named.antt: under_plain)
abbrev pub limit_of : Cap → ℕ
limit_of NoCap = 8589934592
limit_of (UpTo most) = most.0

pub record LeftBy (cap : Cap) (sum r : ℕ) : Type 0 where
  pub value : r ≡ limit_of cap - sum
  pub sum_range : sum < 2 ^ 32

abbrev pub rest_with : Rest → ℕ → ℕ → ℕ → Rest
rest_with rest left area class =
    cond (leb left rest.amount.0) (record { amount = record { 0 = left }; name = record { area = area; class = class } }) rest

pub record RestWith (rest : Rest) (left area class : ℕ) (r : Rest) : Type 0 where
  pub value : r ≡ rest_with rest left area class
  pub less : r.amount.0 ≤ rest.amount.0
  pub rest_range : rest.amount.0 < 2 ^ 32

-- an area's all-classes cap, then in class 2 its second-class cap
unfoldable pub rest_here : Caps → ℕ → ℕ → ℕ → ℕ → Rest → Rest
rest_here caps area class second all rest =
    let low = rest_under rest (left_of caps.all all) area 1 in
    cond (eqb class 2) (rest_under low (left_of caps.second second) area 2) low

-- a price before any cap
abbrev pub uncapped_at : ℕ → Rest
uncapped_at price = record { amount = record { 0 = price }; name = no_name }

-- the name at the end. Of the rest that all of a ride's caps leave this is the cap's name (proofs/Named.antt: name_past)
abbrev pub name_of : ℕ → Rest → Name
name_of price rest = cond (eqb rest.amount.0 price) no_name rest.name
