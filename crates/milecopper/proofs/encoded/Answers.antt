-- `milecopper::encoded` meets its contract: a refusal's number has the bits above its place's 32.
use native.Mathlib.Omega.{arith}
use mathlib.Core.Path.{subst, ap, sym}
use Rattle.settle.specs.Clauses.{AnswerFits}
use Rattle.milecopper.specs.Clauses.{encoded_as}
use Rattle.milecopper.proofs.encoded.Goals as goal

pub overflow_add-result : goal.overflow_add-result
overflow_add-result c = let near = subst AnswerFits c.in-Refused.is c.requires in omega arith

pub returns-in-Refused : goal.returns-in-Refused
returns-in-Refused c = sym (ap encoded_as c.in-Refused.is)
