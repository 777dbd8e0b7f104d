-- docs/RULES.md, section 21: two associations share a page. Association 0 has the first six places, association 1 the others, each with its own
-- members. What is said of some places of a page (page/Pages, InWords) is here said of an association's; 21 comes before all of it but the file's.
use Rattle.std.specs.Prelude.{ℕ, ◌*◌, ◌≡◌, ◌⊎◌, List, Bool, cond, leb}
use Rattle.editions.specs.declared.Editions.{Editions}
use Rattle.editions.specs.declared.FileReading.TheVariants.{Fault, Faultless}
use Rattle.editions.specs.Reading.{read_file, ReadFile}
use Rattle.settle.specs.Outcome.{Outcome, refused}
use Rattle.page.specs.Pages.{places_at, Change, unchanged, added, closed}
use Rattle.accounts.specs.Members.{member_settled_under}
use Rattle.page.specs.InWords.{Agree, OnlyIn, AddingRefused, ClosingRefused}
use Rattle.accounts.specs.InWords.{SettlingRefused}

-- so many places, from this one on
abbrev pub own_places : ℕ
own_places = 6

abbrev pub first_place : ℕ → ℕ
first_place association = association * own_places

abbrev pub places_of : ℕ → List ℕ → List ℕ
places_of association page = places_at page (first_place association) own_places

-- 21: association not 0 or 1
abbrev pub no_association : ℕ
no_association = 21

abbrev pub is_association : ℕ → Bool
is_association association = leb association 1

-- ---- What comes of a call.

unfoldable pub added_for : ℕ → List ℕ → ℕ → Change
added_for association page member =
    cond (is_association association) (added (first_place association) own_places page member) (unchanged no_association)

unfoldable pub closed_for : ℕ → List ℕ → ℕ → Change
closed_for association page member =
    cond (is_association association) (closed (first_place association) own_places page member) (unchanged no_association)

-- 21, then 18 and 19, and then 4 to 12
unfoldable pub settled_for_under : List ℕ → Editions → ℕ → List ℕ → ℕ → List ℕ → ℕ → Outcome
settled_for_under file editions association page member trip room =
    cond (is_association association) (member_settled_under file editions (first_place association) own_places page member trip room)
    (refused no_association 0)

-- under any byte string as a file. 1 to 3 come first
unfoldable pub settled_for : List ℕ → ℕ → List ℕ → ℕ → List ℕ → ℕ → Outcome
settled_for file association page member trip room =
    elim (read_file file) [
      | Fault number at ↦ refused number at
      | Faultless editions ↦ settled_for_under file editions association page member trip room
    ]

-- ---- In words.

abbrev pub Association : ℕ → Type 0
Association association = (association ≡ 0) ⊎ (association ≡ 1)

-- two pages of one length agree in an association's places
abbrev pub AgreeFor : ℕ → List ℕ → List ℕ → Type 0
AgreeFor association = Agree (first_place association) own_places

-- no byte of a page has changed but those of an association's places: the other's are left byte for byte
abbrev pub OnlyOf : ℕ → List ℕ → List ℕ → Type 0
OnlyOf association = OnlyIn (first_place association) own_places

-- the refusals in their order. Adding and closing: 21, and then those of the association's places
pub data Behind (association : ℕ) (others : ℕ → Type 0) : ℕ → Type 0 where
  twenty_one : (Association association → ⊥) → Behind association others no_association
  other_refusal : (n : ℕ) → Association association → others n → Behind association others n

abbrev pub AddingRefusedFor : ℕ → List ℕ → ℕ → ℕ → Type 0
AddingRefusedFor association page member = Behind association (AddingRefused (first_place association) own_places page member)

abbrev pub ClosingRefusedFor : ℕ → List ℕ → ℕ → ℕ → Type 0
ClosingRefusedFor association page member = Behind association (ClosingRefused (first_place association) own_places page member)

-- settling: 1 to 3, the file's; 21; and then those of the association's places
pub data SettlingRefusedFor (file : List ℕ) (association : ℕ) (page : List ℕ) (member : ℕ) (trip : List ℕ) (room : ℕ) : ℕ → ℕ → Type 0 where
  for_faulty : (number at : ℕ) → read_file file ≡ Fault number at → SettlingRefusedFor file association page member trip room number at
  for_twenty_one :
      (editions : Editions) → ReadFile file editions → (Association association → ⊥)
      → SettlingRefusedFor file association page member trip room no_association 0
  for_others :
      (editions : Editions) → ReadFile file editions → Association association → (number at : ℕ)
      → SettlingRefused file (first_place association) own_places page member trip room number at
      → SettlingRefusedFor file association page member trip room number at
