-- A writer that is passed by value, in a walk by hand: its place in a signature, what is had of it at exit, and its machine value.
-- The laws of what is had take `Logic`. The rest assumes nothing.
use mathlib.Core.Path.{◌≡◌, refl, sym, ap, subst}
use Prim.Native.Nat.{ℕ}
use mathlib.Core.List.{List, [], ◌∷◌}
use lib.Dec.{T as Holds}
use lib.ListN.{length}
use seplogic.Ra.Ura.{Ura}
use mir.Syntax.{Sym, Lifetime, named, w64}
use mir.Val.{Val, WT, has_ty, vint, vstruct, vcons, vnil}
use types.Logic.{Logic}
use denote.Laws.{Is}
use denote.Builtin.{u8, usize}
use denote.Exit.{Kept, yes, no}
use denote.Ref.{NamedLft}
use denote.Slice.{slice_val}
use denote.Steps.{only}
use denote.Struct.Laws as LL
use denote.Signature.{Slot, plain, mut_slice, mut_slice_of, named_lft}
use denote.Signature.Struct.{struct_at}
use denote.Triple.Walked.{
  Stay,
  Fields,
  stay_none,
  stay_slice,
  stay_dropped,
  stay_struct_at,
  stay_declared,
  Goes,
  FieldsGo,
  Goes-none,
  Goes-slice,
  Goes-spent_slice,
  Goes-struct_at,
  Goes-declared,
}
use Rattle.wire.specs.declared.writer.Writer.{Writer}
use Rattle.wire.specs.contracts.writer.Writer as T
use Rattle.wire.proofs.writer.Writer.TheLaws as T'

-- ---- the place in a signature
abbrev bytes : Slot 1
bytes = plain (λ _. u8)

abbrev fields : List (Slot 1)
fields = mut_slice 0 tt (λ _. u8) ∷ plain (λ _. usize) ∷ []

abbrev name : Sym
name = (T.struct (named_lft 1 0 tt ([], tt))).name

abbrev struct : Slot 1
struct = struct_at name (named 0 ∷ []) fields

abbrev pub WriterS : Slot 1
WriterS = plain (λ κs. T.the_row (named_lft 1 0 tt κs))

-- ---- what is had at exit, by a choice for each field
abbrev had : (k : Kept) → Fields fields k → Stay WriterS k
had k hs = stay_declared struct k (stay_struct_at name (named 0 ∷ []) fields k hs) Writer (λ κs. (T.the_type (named_lft 1 0 tt κs)).to) (λ κs. (T.the_type (named_lft 1 0 tt κs)).to_one)

abbrev kept : Fields fields yes
kept = (stay_slice (0 ∷ []) tt bytes, (stay_none (λ _. usize) yes, tt))

abbrev passed_on : Fields fields no
passed_on = (stay_dropped (mut_slice_of (0 ∷ []) tt bytes) no, (stay_none (λ _. usize) no, tt))

-- the slice is still lent to the function, at its last bytes
abbrev pub writer_kept : Stay WriterS yes
writer_kept = had yes kept

-- the result names the writer's lifetime, so nothing is said of last bytes
abbrev pub writer_passed_on : Stay WriterS no
writer_passed_on = had no passed_on

module _ {M : Type 1} {𝓤 : Ura M} (𝓛 : Logic 𝓤) where
  had_goes : (k : Kept) (hs : Fields fields k) → FieldsGo 𝓛 1 fields k hs → Goes 𝓛 1 WriterS k (had k hs)
  had_goes k hs gs =
      Goes-declared 𝓛 1 struct k (stay_struct_at name (named 0 ∷ []) fields k hs) Writer (λ κs. (T.the_type (named_lft 1 0 tt κs)).to) (λ κs. (T.the_type (named_lft 1 0 tt κs)).to_one)
      (Goes-struct_at 𝓛 1 name (named 0 ∷ []) fields k hs gs)

  pub writer_kept_goes : Goes 𝓛 1 WriterS yes writer_kept
  writer_kept_goes = had_goes yes kept (Goes-slice 𝓛 1 0 tt bytes, (Goes-none 𝓛 1 (λ _. usize) yes (λ κs x f. refl), tt))

  pub writer_passed_on_goes : Goes 𝓛 1 WriterS no writer_passed_on
  writer_passed_on_goes = had_goes no passed_on (Goes-spent_slice 𝓛 1 (0 ∷ []) tt bytes, (Goes-none 𝓛 1 (λ _. usize) no (λ κs x f. refl), tt))

-- ---- machine values
-- a slice of l bytes at a pointer, and a writer on it at the place n
abbrev pub mach : ℕ × ℕ → ℕ → ℕ → Val
mach p l n = vstruct (vcons (slice_val p l) (vcons (vint w64 n) vnil))

abbrev pub writer_val : Writer → Val
writer_val h = mach h.buf.ref_ptr (length h.buf.now) h.at

-- a writer's machine value is that of its slice and its place
pub writer_is : (α : NamedLft) (h : Writer) (w : Val) → Is (T.the_row α) h (w ∷ []) → w ≡ writer_val h
writer_is α h w is = ap only (LL.tells (T.the_type α) (T'.the_laws α) h _ is)

-- a writer's machine value has the struct's MIR type, at whatever lifetime stands there: a local's is erased
pub writer_typed : (α : NamedLft) (ℓ : Lifetime) (h : Writer) (w : Val) → Is (T.the_row α) h (w ∷ []) → Holds (has_ty (T'.mir ℓ) w) × WT w
writer_typed α ℓ h w is =
    let parts = LL.owed (T.the_type α) (T'.the_laws α) h _ is in
    subst (λ (z : Val). Holds (has_ty (T'.mir ℓ) z) × WT z) (sym (writer_is α h w is))
    (tt, ((tt, (record { fits = parts.0.0.1.0 }, tt)), (record { fits = parts.1.0.1 }, tt)))
