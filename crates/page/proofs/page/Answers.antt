-- No page where Next is refused; else that of the base of a memory that takes calls.
use mathlib.Core.Path.{◌≡◌, refl, sym, ap, ◌∙◌}
use mathlib.Core.Bool.{Bool, true, false, cond, ◌||◌, true≢false}
use mathlib.Core.List.{List, []}
use Prim.Native.Nat.{ℕ}
use Rattle.std.proofs.Common.{rules}
use Rattle.std.specs.Prelude.{Ok, Err}
use Rattle.std.specs.Result.{is_err}
use Rattle.answers.specs.declared.Refusal.TheVariants as refusal
use Rattle.lists.specs.Tests.{is_empty}
use Rattle.rules.specs.State.{State}
use Rattle.rules.specs.Next.{choose_by}
use Rattle.memory.specs.Memory.{sound_bytes}
use Rattle.memory.specs.Reading.{state_of}
use Rattle.memory.proofs.OneMemory.{memory-sound, base-stands}
use Rattle.uplink.specs.Holds.{TakesCalls, admitted}
use Rattle.uplink.proofs.Lending.{base-takes}
use Rattle.page.specs.Page.{page_by, page_of, page_on}
use Rattle.page.proofs.PutLaws.{stands-none}
use Rattle.page.proofs.page.Goals as goal

unsound-none : (b : List ℕ) → sound_bytes b ≡ false → page_on b ≡ []
unfolding page_on
unsound-none b e = rw e

sound_page : (b : List ℕ) → sound_bytes b ≡ true → page_on b ≡ page_of (state_of b)
unfolding page_on
sound_page b e = rw e

parked-none : (s : State) → s.parked ≡ true → page_of s ≡ []
unfolding page_of
parked-none s e = ap (λ (m : Bool). cond (m || is_empty s.rows) [] (page_by s (choose_by s.scan.visit s))) e

refused-none : (b : List ℕ) → is_err (admitted b) ≡ true → page_on b ≡ []
refused-none b z = go (sound_bytes b) (state_of b).parked refl refl z
  where
    go : (t p : Bool) → sound_bytes b ≡ t → (state_of b).parked ≡ p → is_err (cond t (cond p (Err refusal.Parked) (Ok (tt {0}))) (Err refusal.Unsound)) ≡ true → page_on b ≡ []
    go false p e q z = unsound-none b e
    go true true e q z = sound_page b e ∙ parked-none (state_of b) q
    go true false e q z = absurd (true≢false (sym z))

taken : (b : List ℕ) → is_err (admitted b) ≡ false → TakesCalls b
taken b z = go (sound_bytes b) (state_of b).parked refl refl z
  where
    go : (t p : Bool) → sound_bytes b ≡ t → (state_of b).parked ≡ p → is_err (cond t (cond p (Err refusal.Parked) (Ok (tt {0}))) (Err refusal.Unsound)) ≡ false → TakesCalls b
    go false p e q z = absurd (true≢false z)
    go true true e q z = absurd (true≢false z)
    go true false e q z = (e, q)

pub returns-then-is_err : goal.returns-then-is_err
returns-then-is_err c =
    let refused = rw c.admitted.ensures at c.is_err.ensures.value in
    stands-none (refused-none c.args.state.now (sym refused ∙ c.if-is_err.true))

pub unwrap-requires : goal.unwrap-requires
unwrap-requires c =
    let takes = taken c.args.state.now (sym (rw c.admitted.ensures at c.is_err.ensures.value) ∙ c.if-is_err.false) in
    search (rules, (memory-sound c.args.state.now takes.0).size)

pub page_on-requires : goal.page_on-requires
page_on-requires c =
    let takes = taken c.args.state.now (sym (rw c.admitted.ensures at c.is_err.ensures.value) ∙ c.if-is_err.false) in
    let front = rw c.unwrap.ensures at c.first_chunk.ensures.cases in
    (rw (sym front.same) at (base-takes c.args.state.now takes), c.requires)

pub returns : goal.returns
returns c =
    let b = c.args.state.now in
    let takes = taken b (sym (rw c.admitted.ensures at c.is_err.ensures.value) ∙ c.if-is_err.false) in
    let front = rw c.unwrap.ensures at c.first_chunk.ensures.cases in
    rw (sound_page b takes.0, ← base-stands b takes.0) (rw front.same at c.page_on.ensures)
