-- The edition, slots, rows, and then the order and the scan point: after the last the memory is the state's.
use Rattle.std.proofs.Common.{◌≡◌, ℕ, ◌∷◌, List, length, get_or, ap, ◌∙◌, arith}
use Rattle.image.specs.Parts.{numbers_of}
use Rattle.image.specs.Image.{scan_parts}
use Rattle.memory.proofs.Fitting.{rows_few}
use Rattle.memory.proofs.SoundFits.{sound-fits}
use Rattle.reader.proofs.TakingLaws.{low}
use Rattle.reader.proofs.StateDecode.{head-taken, edition-stored, image_decoded}
use Rattle.reader.proofs.decode.decode.Goals as goal

pub returns : goal.returns
returns c =
    let a = c.args in
    let v = a.version.number in
    let parts = rw c.wide.ensures at c.take_numbers.ensures in
    record {
      built = λ s S unmarked e.
          let F = sound-fits S in
          let (n, m, read) = head-taken a.image.now v a.version.known.0 s S unmarked e in
          let taken = parts.0 ∙ read in
          let number : (k : ℕ) → get_or c.take_numbers.result.0 k 0 ≡ get_or (n ∷ m ∷ numbers_of (scan_parts v s)) k 0 = λ k. ap (λ (ns : List ℕ). get_or ns k 0) taken in
          let edition : c.unwrap_or.result ≡ s.edition = low c.try_from-2.result c.try_from-2.ensures c.unwrap_or.ensures (omega (arith, number 2, F.edition-fits)) ∙ number 2 in
          let order : c.unwrap_or-2.result ≡ s.order = low c.try_from-3.result c.try_from-3.ensures c.unwrap_or-2.ensures (omega (arith, number 3, F.order-fits)) ∙ number 3 in
          let count : c.unwrap_or-count.result ≡ length s.rows = low c.try_from.result c.try_from.ensures c.unwrap_or-count.ensures (omega (arith, number 8, rows_few F)) ∙ number 8 in
          let rows = c.from.ensures ∙ count in
          let point = c.scan_in.ensures n m v s F taken in
          image_decoded a.image.now v a.version.known.0 s S unmarked e c.from.result c.take_numbers.result.1.now c.take_bytes.result.0.now c.take_bytes.result.1.now
          _ c.read_slots.new.memory c.read_rows.new.memory c.store_order.new.state c.store_scan.new.state c.unwrap_or-2.result c.scan_in.result
          parts.1 rows c.take_bytes.ensures.0 c.take_bytes.ensures.1 order point (edition-stored s.edition c.unwrap_or.result c.requires (λ l. edition) S.edition-is)
          c.read_slots.ensures c.read_rows.ensures c.store_order.ensures c.store_scan.ensures;
      same_length = omega arith;
    }
