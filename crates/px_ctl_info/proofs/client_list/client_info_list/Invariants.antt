use Rattle.std.proofs.Common.{◌≡◌, ◌++◌, All, map, drop}
use Rattle.px_tag.specs.Item.{IsText}
use Rattle.px_ctl_info.specs.Clients.{info_of}
use Rattle.px_ctl_info.proofs.client_list.client_info_list.Given as goal

abbrev pub invariant-loop-client : goal.invariant-loop-client
invariant-loop-client l = (l.infos.items ++ map info_of (drop l.client-index l.clients) ≡ map info_of l.clients) × All (λ info. IsText info.name) l.infos.items
