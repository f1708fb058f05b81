use Rattle.px_state.proofs.Undone.{undone}
use Rattle.px_state.proofs.lending.put_back_undoes_handing_out.Goals as goal

pub returns : goal.returns
returns g c = λ state. undone state
