-- At each turn the records passed are written.
use Rattle.std.proofs.Common.{◌+◌}
use Rattle.lists.specs.Tabs.{tab}
use Rattle.memory.specs.Reading.{record_at}
use Rattle.octets.specs.Wrote.{Wrote}
use Rattle.image.specs.Image.{records_bytes}
use Rattle.image.proofs.writer.put_records.Given as goal

abbrev pub invariant-loop-i : goal.invariant-loop-i
invariant-loop-i l = Wrote l.fn.w (records_bytes (tab l.i (λ n. record_at l.state (l.place + n)))) l.w
