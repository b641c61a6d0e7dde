-- A record appended to the run: where its slot's records are the run's last, nothing slides.
use Prim.Native.Nat.{ℕ, zero, suc, ◌+◌, ◌-◌, ◌*◌, ◌^◌, ◌<◌}
use mathlib.Core.Path.{◌≡◌, refl, sym, ap, ◌∙◌}
use mathlib.Core.List.{List}
use native.Mathlib.Omega.{arith}
use lib.ListN.{set}
use Rattle.octets.specs.Number.{upward, put}
use Rattle.octets.proofs.SlideLaws.{slid-none}
use Rattle.rules.specs.Numbers.{slots, room, cells}
use Rattle.rules.specs.State.{State}
use Rattle.memory.specs.Fields.{edited, raised}
use Rattle.memory.specs.Names as the
use Rattle.memory.specs.Layout.{place, width, bytes_of}
use Rattle.memory.specs.Reading.{waiting_at}
use Rattle.memory.specs.Edits.{record_added}
use Rattle.memory.specs.Fits.{Fits}
use Rattle.memory.specs.Records.{Ends}
use Rattle.memory.proofs.RecordEdits.{bytes-added, put-steps}

-- no cell stands between p and p
still : (p q n w : ℕ) (b : List ℕ) → edited (raised p p) q n w b ≡ b
unfolding edited
still p q n zero b = refl
still p q n (suc w) b =
    let e : p - p ≡ 0 = omega arith in
    ap (λ (x : List ℕ). raised p p w x (q + n * w)) (still p q n w b) ∙ rw e (slid-none (q + n * w + p) (q + n * w + p + 1) b)

pub bytes_appended : {s : State} {b b1 b2 : List ℕ} (i p n r : ℕ) → Fits s → b ≡ bytes_of s → i < slots → p < cells → waiting_at b i < room
    → n < 256 ^ width the.length → r < 256 ^ width the.reference → Ends b i p
    → b1 ≡ put (upward (place the.length + p) cells) (width the.length) b n
    → b2 ≡ put (upward (place the.reference + p) cells) (width the.reference) b1 r
    → set b2 (place the.waiting + i) (waiting_at b i + 1) ≡ bytes_of (record_added s i (record { length = n; reference = r }))
bytes_appended {s} {b} {b1} i p n r F memory h free few size reference ends e1 e2 =
    ap (λ (x : List ℕ). set x (place the.waiting + i) (waiting_at b i + 1))
    (put-steps b p p n r (sym (still p (place the.length) cells (width the.length) b)) e1 (sym (still p (place the.reference) cells (width the.reference) b1)) e2)
    ∙ bytes-added b i p p (waiting_at b i) F memory h free refl n r (omega (arith, ends.1)) (sym ends.0) few size reference
