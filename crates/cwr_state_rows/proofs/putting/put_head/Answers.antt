use Rattle.cwr_devices.proofs.lemmas.Adding.{puts_same}
use Rattle.cwr_state_rows.proofs.putting.put_head.Goals as goal

pub returns-in-Ok : goal.returns-in-Ok
returns-in-Ok g c = puts_same c.head.ensures (record {
  written = c.in-Ok.ensures.written;
  fault = tt;
  failed = c.in-Ok.ensures.failed;
  failures_counted = c.in-Ok.ensures.failures;
  again = λ failed. (c.in-Ok.ensures.again failed).1;
})

pub returns-in-Err : goal.returns-in-Err
returns-in-Err g c = puts_same c.head.ensures (record {
  written = c.in-Err.ensures.written;
  fault = c.in-Err.ensures.fault;
  failed = c.in-Err.ensures.failed;
  failures_counted = c.in-Err.ensures.failures;
  again = λ failed. (c.in-Err.ensures.again failed).1;
})
