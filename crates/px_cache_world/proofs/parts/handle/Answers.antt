use Rattle.std.proofs.Common.{rules, ◌≡◌, ◌+◌, length, ap, sym, subst, ◌∙◌}
use Rattle.px_scache.specs.Answers.{Done, answer}
use Rattle.px_cache_world.specs.Answered.{tag_in}
use Rattle.px_cache_world.specs.Skips.{with_skip}
use Rattle.px_cache_world.specs.Sampler.{packet_of, answered_by, course_after}
use Rattle.px_cache_world.proofs.Partly.{answered-is, handled-shown, handled-world}
use Rattle.px_cache_world.proofs.parts.handle.Goals as goal

pub returns-clause-effects : goal.returns-clause-effects
returns-clause-effects c = λ s stands.
    let conn = c.args.conn in
    let was = c.args.parts.now in
    let packet = packet_of c.args.frame.now.body in
    let given = c.in_ok-given.given in
    let value = subst (λ b. answer conn c.under_way-plays.result b was.store ≡ (c.answer.new.self, given)) c.packet_of-packet.ensures c.in_ok-given.ensures.value in
    let is = answered-is s was.store c.answer.new.self was.course c.under_way-plays.result conn packet given stands.store stands.course c.under_way-plays.ensures value in
    handled-shown s conn c.args.frame.now.at c.tag_in.result (tag_in packet) packet c.answer.new.self given c.in_ok-effects.effects is
    (c.tag_in.ensures ∙ ap tag_in c.packet_of-packet.ensures) (c.in_ok-effects.ensures.effects s.world stands.world)

pub returns-clause-after : goal.returns-clause-after
returns-clause-after c = λ s stands.
    let conn = c.args.conn in
    let was = c.args.parts.now in
    let packet = packet_of c.args.frame.now.body in
    let given = c.in_ok-given.given in
    let value = subst (λ b. answer conn c.under_way-plays.result b was.store ≡ (c.answer.new.self, given)) c.packet_of-packet.ensures c.in_ok-given.ensures.value in
    let is : answered_by s conn packet ≡ (c.answer.new.self, given) =
    answered-is s was.store c.answer.new.self was.course c.under_way-plays.result conn packet given stands.store stands.course c.under_way-plays.ensures value in
    let skipped : c.skip_more.new.skips.items ≡ with_skip conn (20 + length packet) was.skips.items = search rules in
    record {
      world = handled-world s conn c.args.frame.now.at c.tag_in.result (tag_in packet) packet c.answer.new.self given c.answer-2.new.world is
          (c.tag_in.ensures ∙ ap tag_in c.packet_of-packet.ensures) (c.in_ok-effects.ensures.after s.world stands.world);
      sieve = stands.sieve;
      skips = skipped ∙ ap (with_skip conn (20 + length packet)) stands.skips;
      store = ap (λ (d : Done). d.0) (sym is);
      course = c.in_ok-effects.ensures.course s.world stands.world ∙ ap (course_after s.world given) stands.course ∙ ap (λ (d : Done). course_after s.world d.1 s.course) (sym is);
    }
