-- What doesn't take calls is refused, and on a memory that does the call is the rules' own.
use Rattle.std.proofs.lemmas.Result.{err_from_is_err_and}
use Rattle.rules.specs.Calls.{put_call}
use Rattle.rules.proofs.Parking.{parked-put}
use Rattle.uplink.proofs.Lending.{not-admitted, admitted-left}
use Rattle.uplink.proofs.put.put_by.Goals as goal

pub returns-in_err-admitted : goal.returns-in_err-admitted
returns-in_err-admitted g c =
    let a = c.args in
    let p = err_from_is_err_and c.from_residual.result c.from_residual.ensures.1 in
    rw (p.1, p.2) (not-admitted a.state.now (put_call a.slot a.ticket a.length a.reference) c.in_err-admitted.ensures (λ s e. parked-put s e a.slot a.ticket a.length a.reference))

pub returns : goal.returns
returns g c =
    let a = c.args in
    admitted-left a.state.now (put_call a.slot a.ticket a.length a.reference) c.in_ok-admitted.ensures c.put_noted.ensures
