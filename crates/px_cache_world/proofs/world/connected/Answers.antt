use Rattle.px_session.specs.declared.event.Event.TheVariants.{Connect, Bytes}
use Rattle.px_world.specs.World.{new_world}
use Rattle.px_world.specs.Event.{world_after}
use Rattle.px_cache_world.proofs.Partly.{greeted}
use Rattle.px_cache_world.proofs.world.connected.Goals as goal

pub returns : goal.returns
returns c =
    let w = new_world c.args.header.now in
    let one = world_after w (Connect c.hidden.result) in
    let two = world_after one (Bytes c.hidden-2.result c.in_ok-auth.auth) in
    greeted w c.args.header.now.cookie c.as_slice.result.now c.in_ok-auth.auth c.in_ok-name.name c.hidden.result c.hidden-2.result c.hidden-3.result c.greet-3.new.world
    c.hidden.ensures c.hidden-2.ensures c.hidden-3.ensures c.in_ok-auth.ensures c.as_slice.ensures c.in_ok-name.ensures
    (c.in_ok-greet-3.ensures two (c.in_ok-greet-2.ensures one (c.in_ok-greet.ensures w c.in_ok-world.ensures)))
