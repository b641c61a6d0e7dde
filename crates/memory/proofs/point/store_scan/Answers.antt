-- Each number goes to its own field; that it fits there is its type.
use Prim.Native.Nat.{◌^◌, ◌<◌}
use mathlib.Core.Path.{ap}
use native.Mathlib.Omega.{arith}
use Rattle.bits.specs.Mask.{mask_of}
use Rattle.rules.specs.State.{visit_number}
use Rattle.memory.proofs.PointEdits.{scan_put, scan-put}
use Rattle.memory.specs.declared.point.Scan.{Scan}
use Rattle.memory.proofs.point.store_scan.Goals as goal

-- src/point.rt:45:5
-- src/point.rt:36:1
-- src/point.rt:36:1
pub returns : goal.returns
unfolding scan_put
returns c s p F entry same =
    let a = c.args in
    let fits = c.well_formed.1.0 in
    let position : p.position < 256 ^ 2 = omega (arith, fits, ap (λ (x : Scan). x.position) same) in
    let column : p.column < 256 = omega (arith, fits, ap (λ (x : Scan). x.column) same) in
    let mask : mask_of p.to_visit < 256 ^ 8 = omega (arith, fits, ap (λ (x : Scan). x.mask) same) in
    let visit : visit_number p.visit < 256 = omega (arith, fits, ap (λ (x : Scan). x.visit) same) in
    rw (c.write-2.ensures, c.write.ensures, same, entry)
    (scan-put F p position column mask visit)
