use Rattle.std.proofs.Common.{◌≡◌, ◌≢◌, ◌+◌, ◌*◌, ◌<◌, length, get_or, arith, ◌∙◌, pos, w32, to_z, of_z, SFits, subst, sym, below_more, [], rules, take, drop, ap}
use Rattle.std.proofs.Math.ListN.{set}
use Rattle.std.proofs.lemmas.Int.{to_z-of_z}
use Rattle.std.proofs.lemmas.List.{get_or-set_other, get_or-set_same}
use Rattle.px_sample.specs.declared.format.Format.TheVariants.{S16Le}
use Rattle.px_sample.specs.WorkValue.{work_value_of}
use Rattle.px_stream.proofs.Runs.{fit_more}
use Rattle.px_stream.proofs.lent.put_samples_of_two.Goals as goal

pub loop-j-preserved : goal.loop-j-preserved
loop-j-preserved c =
    let j = c.loop-j.j in
    let pairs = c.args.pairs.now in
    let channel = c.args.channel in
    let start = c.args.start in
    let out = c.loop-j.out in
    let h = c.loop-j.invariant in
    let room : start + j < length out = omega (arith, c.loop-j.auto.out, c.requires.inside, c.loop-j-test.true) in
    let fits : SFits w32 c.read_sample.result = search rules in
    let value : to_z w32 (of_z w32 c.read_sample.result) ≡ c.read_sample.result = to_z-of_z w32 c.read_sample.result fits in
    let is : c.read_sample.result ≡ work_value_of S16Le (take 2 (drop (channel * 2) (get_or pairs j []))) = c.read_sample.ensures ∙ ap (work_value_of S16Le) c.sample_of.ensures in
    let put = to_z w32 (of_z w32 c.read_sample.result) in
    record {
      values = λ i less. below_more (λ a. get_or (set out (start + j) put) (start + a) (pos 0) ≡ work_value_of S16Le (take 2 (drop (channel * 2) (get_or pairs a [])))) j
          (λ a below. let other : start + a ≢ start + j = omega (arith, below) in get_or-set_other out (start + j) (start + a) put (pos 0) other ∙ h.values a below)
          (get_or-set_same out (start + j) put (pos 0) room ∙ value ∙ is)
          i less;
      before = λ i less. let other : i ≢ start + j = omega (arith, less) in get_or-set_other out (start + j) i put (pos 0) other ∙ h.before i less;
      after = λ i past. let other : i ≢ start + j = omega (arith, past, c.loop-j-test.true) in get_or-set_other out (start + j) i put (pos 0) other ∙ h.after i past;
      fit = λ all. fit_more out (start + j) put (subst (SFits w32) (sym value) fits) (h.fit all);
    }
