-- The factors that a group gives inputs.
use Rattle.std.proofs.Common.{◌≡◌, List, [], ◌∷◌, ◌++◌, map, filter, length, cond, Option, None, Some, refl, ap}
use Rattle.std.specs.Prelude.{is_some}
use Rattle.std.specs.List.{AllByRecursion}
use Rattle.std.specs.Option.{option_map}
use Rattle.px_types.specs.declared.ids.InputId.{InputId}
use Rattle.px_flat.specs.declared.member.Member.{Member}
use Rattle.px_flat.specs.FlatVolume.{FlatGroup, member_of, factors_of}
use Rattle.px_flat.proofs.Volumes.{factors}
use Rattle.px_msg.specs.declared.factors.InputFactors.{InputFactors}
use Rattle.px_outcome.specs.declared.input.Input.{Input}
use Rattle.px_ctl_play.specs.Factors.{gains_of, factor_list}
use Rattle.px_ctl_vol.specs.Factors.{is_member}

-- one more input, which is a member or isn't
named : (group : FlatGroup) (x : Input) (o : Option Member) (more : List InputFactors) (rest : List Input) → map InputFactors.input more ≡ map Input.index rest
    → map InputFactors.input (gains_of x.index (option_map (factors_of group) o) ++ more) ≡ map Input.index (cond (is_some o) (x ∷ rest) rest)
named group x None more rest e = e
named group x (Some m) more rest e = ap (λ (indices : List InputId). x.index ∷ indices) e

pub members : (group : FlatGroup) (inputs : List Input) → map InputFactors.input (factor_list group inputs) ≡ map Input.index (filter (is_member group) inputs)
members group [] = refl
members group (x ∷ inputs) = named group x (member_of group.members x.index) (factor_list group inputs) (filter (is_member group) inputs) (members group inputs)

sized : (group : FlatGroup) (x : Input) (o : Option Member) (more : List InputFactors) → AllByRecursion (λ f. length (InputFactors.factors f) ≡ length group.reference) more
    → AllByRecursion (λ f. length (InputFactors.factors f) ≡ length group.reference) (gains_of x.index (option_map (factors_of group) o) ++ more)
sized group x None more all = all
sized group x (Some m) more all = (factors group m, all)

pub channels : (group : FlatGroup) (inputs : List Input) → AllByRecursion (λ f. length (InputFactors.factors f) ≡ length group.reference) (factor_list group inputs)
channels group [] = tt
channels group (x ∷ inputs) = sized group x (member_of group.members x.index) (factor_list group inputs) (channels group inputs)
