use Rattle.std.proofs.Common.{◌≡◌, ◌+◌, ◌*◌, ◌<◌, length, arith, sym, subst, ℤ, pos, get_or, w32, to_z, of_z}
use Rattle.px_sample.specs.WorkValue.{IsWithin}
use Rattle.px_sample.proofs.RunLemmas.{read_as_is}
use Rattle.px_mixcache.proofs.Channels.{place_inside, each_frame, others_stay, kept_within}
use Rattle.px_mixcache.proofs.packing.put_channel.Goals as goal

pub loop-j-preserved : goal.loop-j-preserved
loop-j-preserved c =
    let j = c.loop-j.j in
    let at = j * c.args.channels + c.args.channel in
    let room : at < length c.loop-j.values = omega (arith, place_inside j (length c.args.from.now) c.args.channels c.args.channel c.loop-j-test.true c.requires.inside, c.requires.places, c.loop-j.auto.values) in
    let good : IsWithin c.args.width (get_or c.args.from.now j (pos 0)) = c.requires.good j c.loop-j-test.true in
    let same : to_z w32 (of_z w32 (get_or c.args.from.now j (pos 0))) ≡ get_or c.args.from.now j (pos 0) = read_as_is c.args.width (get_or c.args.from.now j (pos 0)) good in
    record {
      done = each_frame (λ k (v : ℤ). v ≡ get_or c.args.from.now k (pos 0)) c.loop-j.values c.args.channels c.args.channel j _ c.requires.inside room c.loop-j.invariant.done same;
      others = others_stay c.loop-j.values c.args.values.now c.args.channels c.args.channel j _ c.requires.inside c.loop-j.invariant.others;
      within = kept_within c.args.width c.loop-j.values at _ room c.loop-j.invariant.within (subst (IsWithin c.args.width) (sym same) good);
    }
