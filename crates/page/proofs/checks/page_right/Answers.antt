-- `page::checks::page_right` meets its contract: the tests one after another, the length first.
use native.Mathlib.Omega.{arith}
use borrow.Author.Tests.{eq-eqb, ne_eqb}
use Rattle.page.specs.Pages.{page_right}
use Rattle.page.proofs.checks.page_right.Goals as goal

pub returns-then-page-ne-PAGE_SIZE : goal.returns-then-page-ne-PAGE_SIZE
unfolding page_right
returns-then-page-ne-PAGE_SIZE c = rw (ne_eqb _ _ c.if-page-ne-PAGE_SIZE.true)

pub numbers_right-requires : goal.numbers_right-requires
numbers_right-requires c = record { size = c.if-page-ne-PAGE_SIZE.false; there = c.requires }

pub numbers_once-requires : goal.numbers_once-requires
numbers_once-requires c = record { size = c.if-page-ne-PAGE_SIZE.false; there = omega (arith, c.requires) }

pub returns : goal.returns
unfolding page_right
returns c = rw (c.number_right.ensures, c.numbers_right.ensures, c.numbers_once.ensures, eq-eqb _ _ c.if-page-ne-PAGE_SIZE.false)
