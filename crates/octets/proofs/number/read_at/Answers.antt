-- At each turn the next lower byte is read.
use Rattle.std.proofs.Common.{arith, sym, ◌∙◌, ℕ, List, Fits, w8, slice_index_or}
use Rattle.octets.specs.Number.{Bytes}
use Rattle.octets.proofs.NumberLaws.{upper_none, upper_all, upper_step, upper_fits, num-lt}
use Rattle.octets.proofs.number.read_at.Goals as goal

bytes-fit : (b : List ℕ) → ((i : ℕ) → Fits w8 (slice_index_or b i 0)) → Bytes b
bytes-fit b h i = omega (arith, h i)

pub loop-k-init : goal.loop-k-init
loop-k-init g c = rw c.BYTES-k.ensures (sym (upper_none (g.P.Places.at c.args.places) g.N.Number.BYTES c.args.b.now))

pub overflow_mul-n : goal.overflow_mul-n
overflow_mul-n g c =
    omega (arith, c.loop-k.invariant, upper_fits (g.P.Places.at c.args.places) c.loop-k.k g.N.Number.BYTES c.args.b.now (bytes-fit c.args.b.now c.type_inv.b) c.loop-k-test.true g.met.N.Number.no_wider)

pub overflow_add-n : goal.overflow_add-n
overflow_add-n g c =
    omega (
      arith,
      c.loop-k.invariant,
      c.from.ensures,
      c.type_inv.b c.place.result,
      upper_fits (g.P.Places.at c.args.places) c.loop-k.k g.N.Number.BYTES c.args.b.now (bytes-fit c.args.b.now c.type_inv.b) c.loop-k-test.true g.met.N.Number.no_wider,
    )

pub loop-k-preserved : goal.loop-k-preserved
loop-k-preserved g c =
    rw (c.loop-k.invariant, c.from.ensures, c.place.ensures)
    (sym (upper_step (g.P.Places.at c.args.places) c.loop-k.k g.N.Number.BYTES c.args.b.now c.loop-k-test.true (omega (arith, c.loop-k.auto.k, c.BYTES-k.ensures))))

pub narrow-requires : goal.narrow-requires
narrow-requires g c =
    rw c.loop-k.invariant
    (rw (upper_all (g.P.Places.at c.args.places) c.loop-k.k g.N.Number.BYTES c.args.b.now c.loop-k-test.false)
    (num-lt (g.P.Places.at c.args.places) g.N.Number.BYTES c.args.b.now (bytes-fit c.args.b.now c.type_inv.b)))

pub returns : goal.returns
returns g c =
    c.narrow.ensures ∙ c.loop-k.invariant ∙ upper_all (g.P.Places.at c.args.places) c.loop-k.k g.N.Number.BYTES c.args.b.now c.loop-k-test.false
