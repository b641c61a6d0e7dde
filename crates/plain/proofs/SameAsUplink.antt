-- The matrix by hand answers as the linked engine does: for every lent memory, sound or not, every call and either edition, its answer and the bytes that it leaves
-- are the same. The contracts are one and the same equation, and it leaves room for no second answer.
use Prim.Native.Nat.{ℕ}
use mathlib.Core.Path.{◌≡◌, refl}
use mathlib.Core.List.{List}
use mathlib.Core.Bool.{Bool}
use Rattle.std.specs.Prelude.{Result}
use Rattle.answers.specs.declared.Refusal.{Refusal}
use Rattle.uplink.specs.declared.Opened.{Opened}
use Rattle.uplink.specs.declared.Taken.{Taken}
use Rattle.uplink.specs.declared.Sent.{Sent}
use Rattle.uplink.specs.declared.Asked.{Asked}
use Rattle.rules.specs.Calls.{open_call, put_call, close_call, ask_call}
use Rattle.rules.specs.Next.{next_call}
use Rattle.memory.specs.Memory.{on, start_on}
use Rattle.uplink.specs.Told.{start_told, open_told, put_told, close_told, next_told, ask_told, leaving}
use Rattle.uplink.proofs.NoSecond.{start-once, open_once, put-once, close_once, next-once, ask_once}
use Rattle.uplink.proofs.open.start.Reads as linked-start
use Rattle.uplink.proofs.open.open.Reads as linked-open
use Rattle.uplink.proofs.put.put.Reads as linked-put
use Rattle.uplink.proofs.close.close.Reads as linked-close
use Rattle.uplink.proofs.next.next.Reads as linked-next
use Rattle.uplink.proofs.ask.ask.Reads as linked-ask
use Rattle.plain.proofs.others.start.Reads as by-hand-start
use Rattle.plain.proofs.others.open.Reads as by-hand-open
use Rattle.plain.proofs.put.put.Reads as by-hand-put
use Rattle.plain.proofs.others.close.Reads as by-hand-close
use Rattle.plain.proofs.next.next.Reads as by-hand-next
use Rattle.plain.proofs.others.ask.Reads as by-hand-ask

-- ---- the contracts, as the check reads them off the sources: neither asks for anything, and both ensure the same

pub start_contract : (by-hand-start.Pre ≡ linked-start.Pre) × (by-hand-start.Post ≡ linked-start.Post)
start_contract = (refl, refl)

pub open_contract : (by-hand-open.Pre ≡ linked-open.Pre) × (by-hand-open.Post ≡ linked-open.Post)
open_contract = (refl, refl)

pub put_contract : (by-hand-put.Pre ≡ linked-put.Pre) × (by-hand-put.Post ≡ linked-put.Post)
put_contract = (refl, refl)

pub close_contract : (by-hand-close.Pre ≡ linked-close.Pre) × (by-hand-close.Post ≡ linked-close.Post)
close_contract = (refl, refl)

pub next_contract : (by-hand-next.Pre ≡ linked-next.Pre) × (by-hand-next.Post ≡ linked-next.Post)
next_contract = (refl, refl)

pub ask_contract : (by-hand-ask.Pre ≡ linked-ask.Pre) × (by-hand-ask.Post ≡ linked-ask.Post)
ask_contract = (refl, refl)

-- ---- what the two engines make of the same bytes b, each by its contract: r and m by hand, r' and m' linked

module _ (b : List ℕ) where
  pub same_start : (e : ℕ) (r r' : Result (Unit {0}) Refusal) (m m' : List ℕ) → leaving (start_told r) m ≡ start_on e b → leaving (start_told r') m' ≡ start_on e b
      → (r ≡ r') × (m ≡ m')
  same_start = start-once b

  pub same_open : (w : ℕ) (r r' : Result Opened Refusal) (m m' : List ℕ) → leaving (open_told r) m ≡ on (open_call w) b → leaving (open_told r') m' ≡ on (open_call w) b
      → (r ≡ r') × (m ≡ m')
  same_open = open_once b

  pub same-put : (i t n q : ℕ) (r r' : Result Taken Refusal) (m m' : List ℕ) → leaving (put_told r) m ≡ on (put_call i t n q) b
      → leaving (put_told r') m' ≡ on (put_call i t n q) b → (r ≡ r') × (m ≡ m')
  same-put = put-once b

  pub same_close : (i t : ℕ) (r r' : Result Bool Refusal) (m m' : List ℕ) → leaving (close_told r) m ≡ on (close_call i t) b
      → leaving (close_told r') m' ≡ on (close_call i t) b → (r ≡ r') × (m ≡ m')
  same_close = close_once b

  pub same_next : (r r' : Result Sent Refusal) (m m' : List ℕ) → leaving (next_told r) m ≡ on next_call b → leaving (next_told r') m' ≡ on next_call b
      → (r ≡ r') × (m ≡ m')
  same_next = next-once b

  -- Ask is lent its memory to read alone
  pub same_ask : (i t : ℕ) (r r' : Result Asked Refusal) → leaving (ask_told r) b ≡ on (ask_call i t) b → leaving (ask_told r') b ≡ on (ask_call i t) b → r ≡ r'
  same_ask = ask_once b
