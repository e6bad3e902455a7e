use Rattle.sv8_time.proofs.Nexts.{next_request_is, request_found}
use Rattle.sv8_time.proofs.requests.next_request.Goals as goal

pub returns : goal.returns
returns c = rw (c.first_of_level.ensures, c.behind.ensures.value, request_found c.args.level c.args.after c.args.requests.now) (next_request_is c.args.level c.args.after c.args.requests.now c.behind.ensures.rising)
