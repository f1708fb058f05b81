use Rattle.px_scache.proofs.Again.{request_again}
use Rattle.px_scache.proofs.law.spelled_requests.Goals as goal

pub returns : goal.returns
returns c = request_again
